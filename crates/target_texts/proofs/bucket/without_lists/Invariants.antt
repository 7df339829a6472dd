use Rattle.std.proofs.Common.{◌≡◌, ◌++◌, drop}
use Rattle.target_texts.proofs.bucket.without_lists.Given as goal

abbrev pub invariant-loop-kind : goal.invariant-loop-kind
invariant-loop-kind l = l.values ++ drop l.kind-index l.kind-items ≡ l.bucket.values
