use Rattle.std.proofs.Common.{◌++◌}
use Rattle.std.specs.Vec.Iter.{into_iter_items}
use Rattle.msb_laws.specs.Results.{map_ok, all_ok}
use Rattle.element_texts.specs.Seen.{context_of}
use Rattle.msb_items.specs.Seen.{with_given}
use Rattle.msb_items.proofs.Turning.{IsTaken}
use Rattle.msb_items.proofs.updates.push_all.Given as goal

abbrev pub invariant-loop-item : goal.invariant-loop-item
invariant-loop-item g l =
    let given = with_given (context_of g.F.Present.files l.context) l.given in
    IsTaken given (into_iter_items l.item-iterator) l.done.items
    (map_ok (λ more. l.fn.done.items ++ more) (all_ok given l.fn.items.items))
