use Rattle.std.proofs.Common.{◌++◌}
use Rattle.msb_laws.proofs.Collecting.{IsFolded}
use Rattle.msb_laws.specs.Results.{map_ok}
use Rattle.task_kit.specs.Included.{items_included, items_of_entry}
use Rattle.task_kit.proofs.included.push_items.Given as goal

abbrev pub invariant-loop-entry : goal.invariant-loop-entry
invariant-loop-entry l =
    IsFolded (λ so_far entry. map_ok (λ more. so_far ++ more) (items_of_entry l.dir l.paths entry))
    l.entries l.entry-index l.items
    (map_ok (λ more. l.initial.items ++ more) (items_included l.dir l.paths l.entries))
