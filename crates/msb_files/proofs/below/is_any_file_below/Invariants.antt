use Rattle.std.proofs.Common.{◌≤◌}
use Rattle.file_store.specs.declared.tree.File.{File}
use Rattle.msb_files.specs.Below.{has_file_below}
use Rattle.msb_files.proofs.Searches.{NoneTo}
use Rattle.msb_files.proofs.below.is_any_file_below.Given as goal

abbrev pub invariant-loop-at : goal.invariant-loop-at
invariant-loop-at l = (l.first ≤ l.at)
    × NoneTo (λ (f : File). has_file_below l.view l.folder f.path) l.files l.at
