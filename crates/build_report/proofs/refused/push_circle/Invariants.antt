use Rattle.std.proofs.Common.{◌≡◌, ◌++◌, drop, string_bytes}
use Rattle.std.specs.List.{flat_map}
use Rattle.build_report.specs.Refused.{circle_line}
use Rattle.build_report.proofs.refused.push_circle.Given as goal

abbrev pub invariant-loop-run : goal.invariant-loop-run
invariant-loop-run l =
    string_bytes l.shown ++ flat_map circle_line (drop l.run-index l.runs)
    ≡ string_bytes l.fn.shown ++ flat_map circle_line l.runs
