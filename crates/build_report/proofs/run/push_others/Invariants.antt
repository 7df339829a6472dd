use Rattle.std.proofs.Common.{◌≡◌, ◌++◌, drop, codes, string_bytes}
use Rattle.std.specs.List.{flat_map}
use Rattle.build_report.specs.Shown.{decision_words}
use Rattle.build_report.proofs.run.push_others.Given as goal

abbrev pub invariant-loop-decision : goal.invariant-loop-decision
invariant-loop-decision l =
    string_bytes l.shown ++ flat_map (λ decision. codes ", " ++ decision_words decision)
    (drop l.decision-index l.decisions) ≡ string_bytes l.fn.shown
    ++ flat_map (λ decision. codes ", " ++ decision_words decision) l.decisions
