use Rattle.std.proofs.Common.{◌≡◌, ◌++◌, drop, string_bytes}
use Rattle.std.specs.List.{flat_map}
use Rattle.build_report.specs.Targets.{target_line}
use Rattle.build_report.proofs.targets.push_targets.Given as goal

abbrev pub invariant-loop-row : goal.invariant-loop-row
invariant-loop-row l =
    string_bytes l.shown ++ flat_map target_line (drop l.row-index l.rows)
    ≡ string_bytes l.fn.shown ++ flat_map target_line l.rows
