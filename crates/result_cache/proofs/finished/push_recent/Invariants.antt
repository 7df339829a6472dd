use Rattle.std.proofs.Common.{◌≡◌, ◌++◌, take}
use Rattle.result_cache.proofs.finished.push_recent.Given as goal

abbrev pub invariant-loop-finish : goal.invariant-loop-finish
invariant-loop-finish l = l.layer ≡ l.initial.layer ++ take l.finish-index l.recent
