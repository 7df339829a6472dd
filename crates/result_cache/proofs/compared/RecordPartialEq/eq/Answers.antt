use Rattle.std.proofs.Common.{rules}
use Rattle.result_cache.specs.SameRecords.{same_record}
use Rattle.result_cache.proofs.Truths.{beq-truth}
use Rattle.result_cache.proofs.compared.RecordPartialEq.eq.Goals as goal

pub returns-then-all_same-2 : goal.returns-then-all_same-2
unfolding same_record
returns-then-all_same-2 c = search (rules, beq-truth)

pub returns-else-all_same-2 : goal.returns-else-all_same-2
unfolding same_record
returns-else-all_same-2 c = search (rules, beq-truth)

pub returns-else-all_same : goal.returns-else-all_same
unfolding same_record
returns-else-all_same c = search (rules, beq-truth)

pub returns-else-eq-2 : goal.returns-else-eq-2
unfolding same_record
returns-else-eq-2 c = search (rules, beq-truth)

pub returns-else-eq : goal.returns-else-eq
unfolding same_record
returns-else-eq c = search (rules, beq-truth)

pub returns-else-self-other : goal.returns-else-self-other
unfolding same_record
returns-else-self-other c = search (rules, beq-truth)
