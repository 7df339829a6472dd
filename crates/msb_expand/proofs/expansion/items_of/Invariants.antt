use Rattle.std.proofs.Common.{◌≡◌, ◌++◌}
use Rattle.msb_expand.specs.Values.{items_of}
use Rattle.msb_expand.proofs.expansion.items_of.Given as goal

abbrev pub invariant-loop-entry : goal.invariant-loop-entry
invariant-loop-entry l = l.items ++ items_of l.entry-iterator.rest.items
    ≡ items_of l.fn.entries.items
