use Rattle.std.proofs.Common.{◌∙◌, ◌++◌, [], ap, sym, option_copied}
use Rattle.std.proofs.lemmas.Result.{on_ok_weaker}
use Rattle.msb_values.specs.Pairs.{changed_at}
use Rattle.msb_values.proofs.Lookups.{insert-present, changed-by}
use Rattle.msb_values.proofs.apply.add_items.Goals as goal

pub returns-in-Some-clause-ok : goal.returns-in-Some-clause-ok
returns-in-Some-clause-ok c =
    let kind = c.args.kind.now in
    let old = c.args.lists.now in
    let has = sym c.get.ensures ∙ ap option_copied c.in-Some.is in
    on_ok_weaker c.append.result
    (λ grown. grown
    ∙ ap (λ more. changed_at kind (λ items. items ++ more) old) c.in_ok-more.ensures
    ∙ sym (changed-by kind (λ items. items ++ c.args.items.now) [] old)
    ∙ sym (insert-present kind c.in-Some.field-0.now _ old c.names_rise.ensures has))
    c.append.ensures.ok
