use Rattle.std.proofs.Common.{◌≡◌, ◌<◌, ◌∙◌, length, get_or, ap, arith}
use Rattle.std.specs.List.{list_any}
use Rattle.msb_values.specs.Changes.{is_among, with_metadata_if}
use Rattle.msb_values.specs.Equal.{same_item}
use Rattle.msb_values.specs.declared.item.Item.{Item}
use Rattle.msb_items.proofs.SetLemmas.{written_step}
use Rattle.msb_items.proofs.applying.with_metadata_on.Goals as goal

pub loop-item-preserved : goal.loop-item-preserved
loop-item-preserved c =
    let given = c.args.given.now in
    let pairs = c.args.pairs.now in
    let here = get_or c.loop-item.item-items c.loop-item.item-index c.item-item.result in
    let within : c.loop-item.item-index < length c.loop-item.item-items = omega arith in
    let among : c.contains-is_given.result ≡ is_among given here =
    c.contains-is_given.ensures
    ∙ c.in_ok-set.ensures here
    ∙ ap (λ keys. list_any (λ one. same_item one here) keys)
    (c.into_vec.ensures ∙ c.in_ok-of.ensures) in
    let changed : Item → Item = λ item. with_metadata_if (is_among given item) pairs item in
    written_step changed c.loop-item.item-items c.loop-item.item-index c.item-item.result
    c.put_if.new.item within
    (c.in_ok-put_if.ensures ∙ ap (λ is. with_metadata_if is pairs here) among)
    ∙ c.loop-item.invariant
