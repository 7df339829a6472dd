use Rattle.std.proofs.Common.{[], ◌∷◌, ◌++◌}
use Rattle.msb_laws.proofs.Collecting.{IsFolded}
use Rattle.msb_laws.specs.Results.{map_ok}
use Rattle.msb_items.specs.ItemNames.{patterns_of}
use Rattle.msb_items.proofs.item_names.push_patterns.Given as goal

abbrev pub invariant-loop-entry : goal.invariant-loop-entry
invariant-loop-entry l =
    IsFolded (λ s entry. map_ok (λ more. s ++ more) (patterns_of l.project (entry ∷ []))) l.entries
    l.entry-index l.patterns
    (map_ok (λ more. l.initial.patterns ++ more) (patterns_of l.project l.entries))
