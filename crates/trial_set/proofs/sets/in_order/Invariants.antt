use Rattle.std.proofs.Common.{◌≡◌, ◌++◌}
use Rattle.trial_set.proofs.sets.in_order.Given as goal

abbrev pub invariant-loop-number : goal.invariant-loop-number
invariant-loop-number l = l.rising.items ++ l.number-iterator ≡ l.numbers.keys
