use Rattle.std.proofs.Common.{◌≡◌, map, drop}
use Rattle.std.specs.List.{list_any}
use Rattle.request_machine.specs.ConditionFiles.{tree_asks}
use Rattle.msb_condition.specs.View.{tree_of}
use Rattle.request_machine.proofs.plain.+asks_files.Given as goal

abbrev pub invariant-any_asks-loop-condition : goal.invariant-any_asks-loop-condition
invariant-any_asks-loop-condition l =
    list_any tree_asks (map tree_of l.conditions)
    ≡ list_any tree_asks (map tree_of (drop l.condition-index l.conditions))
