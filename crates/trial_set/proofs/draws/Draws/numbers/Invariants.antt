use Rattle.std.proofs.Common.{◌≡◌, ◌+◌, fold, []}
use Rattle.std.specs.BTreeSet.{insert_key}
use Rattle.std.specs.Ordering.{nat_cmp}
use Rattle.trial_set.specs.Draws.{drawn}
use Rattle.trial_set.proofs.draws.Draws.numbers.Given as goal

abbrev pub decreases-loop-left : goal.decreases-loop-left
decreases-loop-left l = l.left

abbrev pub invariant-loop-left : goal.invariant-loop-left
invariant-loop-left l = record {
  numbers : fold (insert_key nat_cmp) l.numbers.keys
      (drawn (l.last + 1) l.left l.self.state).numbers
      ≡ fold (insert_key nat_cmp) [] (drawn (l.last + 1) l.count l.initial.self.state).numbers;
  state : (drawn (l.last + 1) l.left l.self.state).state
      ≡ (drawn (l.last + 1) l.count l.initial.self.state).state;
}
