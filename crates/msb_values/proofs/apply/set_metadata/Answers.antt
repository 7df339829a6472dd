use Rattle.std.proofs.Common.{◌∙◌, ap, sym, option_copied}
use Rattle.msb_values.specs.Changes.{with_metadata_on}
use Rattle.msb_values.specs.Pairs.{changed_at}
use Rattle.msb_values.proofs.Lookups.{changed-absent, changed-value}
use Rattle.msb_values.proofs.apply.set_metadata.Goals as goal

pub returns-in-None-clause-ok : goal.returns-in-None-clause-ok
returns-in-None-clause-ok c =
    let none = sym c.get.ensures ∙ ap option_copied c.in-None.is in
    sym
    (changed-absent c.args.kind.now (with_metadata_on c.args.given.now c.args.pairs.now)
    c.args.lists.now none)

pub returns-in_ok-replace-in-Some-clause-ok : goal.returns-in_ok-replace-in-Some-clause-ok
returns-in_ok-replace-in-Some-clause-ok c =
    let kind = c.args.kind.now in
    let old = c.args.lists.now in
    let has = sym c.get.ensures ∙ ap option_copied c.in-Some.is in
    c.in_ok-replace-in-Some.ensures.left
    ∙ ap (λ items. changed_at kind (λ _. items) old)
    (c.in_ok-of-in-Some.ensures ∙ c.in_ok-changed-in-Some.ensures
    ∙ ap (λ given. with_metadata_on given c.args.pairs.now c.as_slice.result.now)
    c.as_slice-in-Some.ensures ∙ ap (with_metadata_on c.args.given.now c.args.pairs.now)
    c.as_slice.ensures)
    ∙ changed-value kind (with_metadata_on c.args.given.now c.args.pairs.now) c.in-Some.items.now
    old has
