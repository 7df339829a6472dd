use Rattle.std.proofs.Common.{◌≡◌}
use Rattle.msb_values.specs.Pairs.{all_put}
use Rattle.msb_items.proofs.pairs.put_all.Given as goal

abbrev pub invariant-loop-name : goal.invariant-loop-name
invariant-loop-name l = all_put l.meta l.name-iterator ≡ all_put l.initial.meta l.pairs
