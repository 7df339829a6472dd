use Rattle.std.proofs.Common.{rules}
use Rattle.result_cache.specs.Same.{same_key, same_instance}
use Rattle.result_cache.proofs.Truths.{beq-truth}
use Rattle.result_cache.proofs.request.RequestKeyPartialEq.eq.Goals as goal

pub returns-then-eq-2 : goal.returns-then-eq-2
unfolding same_key same_instance
returns-then-eq-2 c = search (rules, beq-truth)

pub returns-else-eq-2 : goal.returns-else-eq-2
unfolding same_key same_instance
returns-else-eq-2 c = search rules

pub returns-else-eq : goal.returns-else-eq
unfolding same_key same_instance
returns-else-eq c = search rules
