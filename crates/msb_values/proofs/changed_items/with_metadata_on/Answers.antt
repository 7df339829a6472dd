use Rattle.std.proofs.Common.{◌+◌, ◌++◌, ◌∙◌, ap, sym, drop}
use Rattle.std.specs.List.{list_any}
use Rattle.msb_values.specs.Changes.{with_metadata_on}
use Rattle.msb_values.specs.Equal.{same_item}
use Rattle.msb_values.proofs.Sets.{changed_turn, dropped}
use Rattle.msb_values.proofs.changed_items.with_metadata_on.Goals as goal

pub loop-item-preserved : goal.loop-item-preserved
loop-item-preserved c =
    let items = c.args.items.now in
    let given = c.args.given.now in
    let pairs = c.args.pairs.now in
    let at = c.loop-item.item-index in
    let item = c.item-item.result in
    let among =
    c.contains.ensures
    ∙ c.in_ok-set.ensures item
    ∙ ap (λ keys. list_any (λ one. same_item one item) keys)
    (c.into_vec.ensures ∙ c.in_ok-of.ensures) in
    changed_turn given pairs item c.in_ok-with_metadata_if.field-0 c.loop-item.changed
    c.push.new.self (drop (at + 1) items) c.contains.result among
    c.in_ok-with_metadata_if.ensures c.in_ok-push.ensures.ok
    ∙ ap (λ left. c.loop-item.changed ++ with_metadata_on given pairs left)
    (sym (dropped items at item c.loop-item-test.true c.item-item.is))
    ∙ c.loop-item.invariant
