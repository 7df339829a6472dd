use Rattle.std.proofs.Common.{◌≡◌, ◌++◌, take}
use Rattle.std.specs.List.{flat_map}
use Rattle.msb_expression.specs.Written.{listed_text}
use Rattle.msb_expression.proofs.writing.push_others.Given as goal

abbrev pub invariant-loop-arg : goal.invariant-loop-arg
invariant-loop-arg l = l.word ≡ l.initial.word ++ flat_map listed_text (take l.arg-index l.args)
