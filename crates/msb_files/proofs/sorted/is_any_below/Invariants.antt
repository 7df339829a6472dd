use Rattle.std.proofs.Common.{◌≤◌}
use Rattle.msb_files.specs.Below.{has_file_below}
use Rattle.msb_files.specs.Places.{path_at}
use Rattle.msb_files.proofs.Searches.{NoneTo}
use Rattle.msb_files.proofs.sorted.is_any_below.Given as goal

abbrev pub invariant-loop-at : goal.invariant-loop-at
invariant-loop-at l = (l.first ≤ l.at) × NoneTo
    (λ at. has_file_below l.view l.folder (path_at l.entries at)) l.places l.at
