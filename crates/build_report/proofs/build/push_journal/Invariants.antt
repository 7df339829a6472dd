use Rattle.std.proofs.Common.{◌≡◌, ◌++◌, drop, reverse, string_bytes}
use Rattle.std.specs.List.{flat_map}
use Rattle.build_report.specs.Shown.{entry_lines, journal_lines}
use Rattle.build_report.proofs.build.push_journal.Given as goal

abbrev pub invariant-loop-at : goal.invariant-loop-at
invariant-loop-at l =
    string_bytes l.shown ++ flat_map (entry_lines l.low)
    (drop l.at (reverse l.journal)) ≡ string_bytes l.initial.shown ++ journal_lines l.low l.journal
