use Rattle.std.proofs.Common.{◌≡◌, []}
use Rattle.std.specs.Vec.Iter.{into_iter_items}
use Rattle.msb_values.specs.Pairs.{all_put}
use Rattle.msb_values.proofs.named.Named.of.Given as goal

abbrev pub invariant-loop-name : goal.invariant-loop-name
invariant-loop-name g l = all_put l.pairs (into_iter_items l.name-iterator)
    ≡ all_put [] l.fn.entries.items
