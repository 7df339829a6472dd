use Rattle.std.proofs.Common.{◌≡◌, ◌++◌, map}
use Rattle.msb_instance.specs.Made.{made_of}
use Rattle.msb_instance.proofs.targets.with_returns.Given as goal

abbrev pub invariant-loop-name : goal.invariant-loop-name
invariant-loop-name l = l.targets ++ map (made_of l.returning.keys) l.name-iterator
    ≡ map (made_of l.returning.keys) l.fn.last.entries
