use Rattle.std.proofs.Common.{◌≡◌, drop}
use Rattle.result_cache.specs.Table.{found}
use Rattle.result_cache.proofs.finished.find_recent.Given as goal

abbrev pub invariant-loop-finish : goal.invariant-loop-finish
invariant-loop-finish l = found (drop l.finish-index l.recent) l.run ≡ found l.recent l.run
