use Rattle.std.proofs.Common.{sym, ap, ◌∙◌, option_copied}
use Rattle.msb_expand.specs.Metadata.{text_or_none}
use Rattle.msb_expand.specs.Scenes.{pairs_or_none}
use Rattle.msb_expand.proofs.Overlays.{own_at, default_at}
use Rattle.msb_expand.proofs.seen.Seen.own_or_default.Goals as goal

pub returns-in-Some : goal.returns-in-Some
returns-in-Some c =
    let seen = c.args.self.now in
    c.as_str.ensures
    ∙ ap text_or_none
    (sym
    (own_at c.args.name.now _ (pairs_or_none (option_copied seen.defaults))
    (pairs_or_none (option_copied seen.meta)) (sym c.in-Some.ensures)))

pub returns-in-None : goal.returns-in-None
returns-in-None c =
    let seen = c.args.self.now in
    c.text_or_empty.ensures
    ∙ ap text_or_none (c.text_in-in-None.ensures
    ∙ sym
    (default_at c.args.name.now (pairs_or_none (option_copied seen.defaults))
    (pairs_or_none (option_copied seen.meta)) (sym c.in-None.ensures)))
