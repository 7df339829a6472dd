-- The hash of a run, by which an index finds its marks.
use Rattle.std.specs.Prelude.{ℕ}
use Rattle.std.specs.Hash.FoldHasher.{initial, write, finish}
use Rattle.std.specs.List.{fold}
use Rattle.result_cache.specs.declared.run.RunId.{RunId}
use Rattle.result_cache.specs.Same.{run_writes}

-- that of all that a run feeds a hasher, so that equal runs have one
unfoldable pub run_hash : RunId → ℕ
run_hash run = finish (fold write initial (run_writes run))
