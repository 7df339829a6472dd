use Rattle.std.proofs.Common.{◌∙◌, ap, sym, map, ◌++◌}
use Rattle.std.specs.Vec.Iter.{into_iter_items}
use Rattle.msb_values.specs.Folded.{folded_bytes}
use Rattle.msb_expand.specs.Functions.{distinct_from}
use Rattle.msb_expand.specs.Seen.{seen_item}
use Rattle.msb_expand.proofs.Distinct.{distinct_turn}
use Rattle.msb_expand.proofs.kept.distinct.Goals as goal

pub loop-item-preserved : goal.loop-item-preserved
loop-item-preserved c =
    let kept = map seen_item c.loop-item.kept.items in
    distinct_turn c.loop-item.idents c.insert.new.self c.loop-item.invariant.0
    (seen_item c.in-Some.item) c.in_ok-ident.ident c.in_ok-is_first.is_first
    kept (map seen_item c.keep_if.new.kept.items) (map seen_item (into_iter_items c.next.new.self))
    _
    c.in_ok-ident.ensures.compared c.loop-item.invariant.1
    (c.in_ok-ident.ensures.value ∙ ap folded_bytes c.as_str.ensures)
    c.in_ok-is_first.ensures.added c.in_ok-is_first.ensures.updates.0
    c.in_ok-is_first.ensures.unchanged c.in_ok-keep_if.ensures
    (ap (λ items. kept ++ distinct_from c.loop-item.invariant.0 (map seen_item items))
    (sym c.in-Some.ensures.steps.0) ∙ c.loop-item.invariant.2)
