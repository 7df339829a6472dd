use Rattle.std.proofs.Common.{◌≡◌, ◌++◌, string_bytes}
use Rattle.std.specs.List.{flat_map}
use Rattle.build_report.specs.Eval.{metadata_line}
use Rattle.build_report.proofs.eval.push_pairs.Given as goal

abbrev pub invariant-loop-name : goal.invariant-loop-name
invariant-loop-name l =
    string_bytes l.shown ++ flat_map metadata_line l.name-iterator
    ≡ string_bytes l.initial.shown ++ flat_map metadata_line l.pairs
