use Rattle.std.proofs.Common.{◌++◌}
use Rattle.msb_laws.proofs.Collecting.{IsFolded}
use Rattle.msb_laws.specs.Results.{map_ok}
use Rattle.task_kit.specs.Included.{all_of, patterns_of_entry}
use Rattle.task_kit.proofs.patterns.push_patterns.Given as goal

abbrev pub invariant-loop-entry : goal.invariant-loop-entry
invariant-loop-entry l =
    IsFolded (λ so_far entry. map_ok (λ more. so_far ++ more) (patterns_of_entry l.dir entry))
    l.entries l.entry-index l.patterns
    (map_ok (λ more. l.initial.patterns ++ more) (all_of (patterns_of_entry l.dir) l.entries))
