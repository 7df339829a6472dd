use Rattle.std.proofs.Common.{◌≡◌, map}
use Rattle.msb_values.specs.Lists.{entries_of}
use Rattle.msb_expand.specs.Functions.{plain_item}
use Rattle.task_kit.proofs.read.lines_in.Given as goal

abbrev pub invariant-loop-piece : goal.invariant-loop-piece
invariant-loop-piece l = l.items ≡ map plain_item (entries_of (map (λ x. x.now) l.yielded))
