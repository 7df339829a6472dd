use Rattle.std.proofs.Common.{◌≡◌, map, drop}
use Rattle.std.specs.List.{list_any}
use Rattle.msb_elements.specs.View.{view}
use Rattle.request_machine.specs.Plain.{error_asks}
use Rattle.request_machine.proofs.plain.any_error_asks.Given as goal

abbrev pub invariant-loop-element : goal.invariant-loop-element
invariant-loop-element l =
    list_any error_asks (map view l.elements)
    ≡ list_any error_asks (map view (drop l.element-index l.elements))
