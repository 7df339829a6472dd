use Rattle.std.proofs.Common.{◌≡◌, ◌++◌, map}
use Rattle.msb_values.specs.Escapes.{escaped}
use Rattle.task_trait.proofs.escaping.escaped_values.Given as goal

abbrev pub invariant-loop-name : goal.invariant-loop-name
invariant-loop-name l = l.values.items ++ map (λ pair. (pair.0, escaped pair.1)) l.name-iterator
    ≡ map (λ pair. (pair.0, escaped pair.1)) l.pairs
