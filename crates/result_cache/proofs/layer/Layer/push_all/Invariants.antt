use Rattle.std.proofs.Common.{◌≡◌, ◌++◌, take}
use Rattle.result_cache.proofs.layer.Layer.push_all.Given as goal

abbrev pub invariant-loop-at : goal.invariant-loop-at
invariant-loop-at l = l.self ≡ l.fn.self ++ take l.at l.more
