use Rattle.std.proofs.Common.{◌≡◌, map}
use Rattle.msb_values.specs.Lists.{entries_of}
use Rattle.msb_values.proofs.lists.split_list.Given as goal

abbrev pub invariant-loop-piece : goal.invariant-loop-piece
invariant-loop-piece l = l.list ≡ entries_of (map (λ x. x.now) l.yielded)
