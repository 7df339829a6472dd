use Rattle.std.proofs.Common.{◌≡◌, ◌++◌, drop, string_bytes}
use Rattle.std.specs.List.{flat_map}
use Rattle.build_report.specs.Eval.{duplicate_line}
use Rattle.build_report.proofs.eval.push_duplicates.Given as goal

abbrev pub invariant-loop-path : goal.invariant-loop-path
invariant-loop-path l =
    string_bytes l.shown ++ flat_map duplicate_line
    (drop l.path-index l.duplicates) ≡ string_bytes l.fn.shown
    ++ flat_map duplicate_line l.duplicates
