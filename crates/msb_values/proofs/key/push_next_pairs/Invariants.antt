use Rattle.std.proofs.Common.{◌≡◌, ◌++◌, string_bytes}
use Rattle.std.specs.List.{flat_map}
use Rattle.msb_values.specs.InstanceKeys.{next_pair}
use Rattle.msb_values.proofs.key.push_next_pairs.Given as goal

abbrev pub invariant-loop-name : goal.invariant-loop-name
invariant-loop-name l = string_bytes l.shown ++ flat_map next_pair l.name-iterator
    ≡ string_bytes l.fn.shown ++ flat_map next_pair l.fn.pairs
