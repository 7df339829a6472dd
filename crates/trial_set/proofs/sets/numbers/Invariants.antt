use Rattle.std.proofs.Common.{◌≡◌, ◌++◌, ◌+◌, ◌-◌}
use Rattle.trial_set.specs.Sets.{numbers_from}
use Rattle.trial_set.proofs.sets.numbers.Given as goal

abbrev pub invariant-loop-number : goal.invariant-loop-number
invariant-loop-number l = l.numbers.items ++ numbers_from (l.size + 1 - l.number) l.number
    ≡ numbers_from l.size 1
