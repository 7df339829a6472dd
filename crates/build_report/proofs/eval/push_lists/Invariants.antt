use Rattle.std.proofs.Common.{◌≡◌, ◌++◌, string_bytes}
use Rattle.std.specs.List.{flat_map}
use Rattle.build_report.specs.Eval.{list_lines}
use Rattle.build_report.proofs.eval.push_lists.Given as goal

abbrev pub invariant-loop-kind : goal.invariant-loop-kind
invariant-loop-kind l =
    string_bytes l.shown ++ flat_map (list_lines l.defaults) l.kind-iterator
    ≡ string_bytes l.initial.shown ++ flat_map (list_lines l.defaults) l.lists
