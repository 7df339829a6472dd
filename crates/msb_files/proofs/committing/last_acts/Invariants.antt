use Rattle.std.proofs.Common.{◌≡◌, ℕ, List, take}
use Rattle.std.specs.List.{list_any}
use Rattle.std.specs.Str.{bytes_eq}
use Rattle.msb_files.specs.FinalTree.{last_acts}
use Rattle.msb_files.specs.Views.{acts_of}
use Rattle.msb_files.proofs.Committed.{paths_of_acts}
use Rattle.msb_files.proofs.committing.last_acts.Given as goal

abbrev pub invariant-loop-at : goal.invariant-loop-at
invariant-loop-at l = (l.acts.items ≡ last_acts (acts_of (take l.at l.journal)))
    × ((path : List ℕ) → list_any (bytes_eq path) l.paths.keys
    ≡ list_any (bytes_eq path) (paths_of_acts (acts_of (take l.at l.journal))))
