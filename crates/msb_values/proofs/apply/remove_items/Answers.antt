use Rattle.std.proofs.Common.{◌∙◌, ap, sym, option_copied}
use Rattle.msb_values.specs.Changes.{without_named}
use Rattle.msb_values.specs.Pairs.{changed_at}
use Rattle.msb_values.proofs.Lookups.{changed-absent, changed-value}
use Rattle.msb_values.proofs.apply.remove_items.Goals as goal

pub returns-in-None-clause-ok : goal.returns-in-None-clause-ok
returns-in-None-clause-ok c =
    let none = sym c.get.ensures ∙ ap option_copied c.in-None.is in
    sym (changed-absent c.args.kind.now (without_named c.args.texts.now) c.args.lists.now none)

pub returns-in_ok-replace-in-Some-clause-ok : goal.returns-in_ok-replace-in-Some-clause-ok
returns-in_ok-replace-in-Some-clause-ok c =
    let kind = c.args.kind.now in
    let old = c.args.lists.now in
    let has = sym c.get.ensures ∙ ap option_copied c.in-Some.is in
    c.in_ok-replace-in-Some.ensures.left
    ∙ ap (λ items. changed_at kind (λ _. items) old)
    (c.in_ok-of-in-Some.ensures ∙ c.in_ok-kept-in-Some.ensures
    ∙ ap (λ texts. without_named texts c.as_slice.result.now) c.as_slice-in-Some.ensures
    ∙ ap (without_named c.args.texts.now) c.as_slice.ensures)
    ∙ changed-value kind (without_named c.args.texts.now) c.in-Some.items.now old has
