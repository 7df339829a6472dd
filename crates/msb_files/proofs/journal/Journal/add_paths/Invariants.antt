use Rattle.std.proofs.Common.{◌≡◌, drop}
use Rattle.msb_files.specs.Views.{with_paths}
use Rattle.msb_files.proofs.Paths.{paths_in}
use Rattle.msb_files.proofs.journal.Journal.add_paths.Given as goal

abbrev pub invariant-loop-at : goal.invariant-loop-at
invariant-loop-at l = with_paths (paths_in (drop l.at l.self)) l.all.keys
    ≡ with_paths (paths_in l.self) l.initial.all.keys
