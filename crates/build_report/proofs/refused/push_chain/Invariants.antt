use Rattle.std.proofs.Common.{◌≡◌, ◌++◌, drop, string_bytes}
use Rattle.std.specs.List.{flat_map}
use Rattle.build_report.specs.Refused.{request_line}
use Rattle.build_report.proofs.refused.push_chain.Given as goal

abbrev pub invariant-loop-key : goal.invariant-loop-key
invariant-loop-key l =
    string_bytes l.shown ++ flat_map request_line (drop l.key-index l.keys)
    ≡ string_bytes l.fn.shown ++ flat_map request_line l.keys
