use Rattle.std.proofs.Common.{◌≡◌, drop}
use Rattle.target_incremental.specs.Newest.{newest_from, newest_of}
use Rattle.target_incremental.proofs.ages.newest_of.Given as goal

abbrev pub invariant-loop-path : goal.invariant-loop-path
invariant-loop-path l = newest_from l.view l.newest (drop l.path-index l.paths)
    ≡ newest_of l.view l.paths
