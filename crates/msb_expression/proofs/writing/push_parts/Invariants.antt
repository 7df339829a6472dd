use Rattle.std.proofs.Common.{◌≡◌, ◌++◌, take}
use Rattle.std.specs.List.{flat_map}
use Rattle.msb_expression.specs.Written.{part_text}
use Rattle.msb_expression.proofs.writing.push_parts.Given as goal

abbrev pub invariant-loop-part : goal.invariant-loop-part
invariant-loop-part l = l.word ≡ l.initial.word ++ flat_map part_text (take l.part-index l.parts)
