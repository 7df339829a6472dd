use Rattle.std.proofs.Common.{◌≡◌, ◌++◌, map}
use Rattle.msb_values.specs.Escapes.{unescaped}
use Rattle.task_trait.proofs.escaping.unescaped_values.Given as goal

abbrev pub invariant-loop-name : goal.invariant-loop-name
invariant-loop-name l = l.values.items ++ map (λ pair. (pair.0, unescaped pair.1)) l.name-iterator
    ≡ map (λ pair. (pair.0, unescaped pair.1)) l.pairs
