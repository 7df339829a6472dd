use Rattle.std.proofs.Common.{◌++◌}
use Rattle.msb_laws.proofs.Collecting.{IsFolded}
use Rattle.msb_laws.specs.Results.{map_ok}
use Rattle.msb_items.specs.Items.{all_items, items_of}
use Rattle.msb_items.proofs.entries.push_items.Given as goal

abbrev pub invariant-loop-entry : goal.invariant-loop-entry
invariant-loop-entry g l =
    IsFolded (λ s entry. map_ok (λ more. s ++ more) (items_of l.paths l.project entry)) l.entries
    l.entry-index l.items.items
    (map_ok (λ more. l.initial.items.items ++ more) (all_items l.paths l.project l.entries))
