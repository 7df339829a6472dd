use Rattle.std.proofs.Common.{◌≡◌, ◌++◌, drop}
use Rattle.msb_properties.specs.Propertied.{names_in}
use Rattle.msb_properties.proofs.taking.add_names.Given as goal

abbrev pub invariant-loop-item : goal.invariant-loop-item
invariant-loop-item l = l.names ++ names_in (drop l.item-index l.items)
    ≡ l.initial.names ++ names_in l.items
