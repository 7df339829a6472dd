use Rattle.std.proofs.Common.{◌≡◌, ◌++◌, drop, map}
use Rattle.msb_elements.specs.View.{view}
use Rattle.msb_elements.proofs.copying.+copies.Given as goal

abbrev pub invariant-copy_each-loop-element : goal.invariant-copy_each-loop-element
invariant-copy_each-loop-element l =
    map view l.copies.items ++ map view (drop l.element-index l.elements) ≡ map view l.elements
