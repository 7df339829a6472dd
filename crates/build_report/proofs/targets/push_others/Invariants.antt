use Rattle.std.proofs.Common.{◌≡◌, ◌++◌, drop, codes, string_bytes}
use Rattle.std.specs.List.{flat_map}
use Rattle.build_report.proofs.targets.push_others.Given as goal

abbrev pub invariant-loop-name : goal.invariant-loop-name
invariant-loop-name l =
    string_bytes l.shown ++ flat_map (λ name. codes ";" ++ name)
    (drop l.name-index l.names) ≡ string_bytes l.fn.shown
    ++ flat_map (λ name. codes ";" ++ name) l.names
