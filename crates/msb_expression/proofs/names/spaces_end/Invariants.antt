use Rattle.std.proofs.Common.{◌≡◌, ◌-◌, ◌≤◌, length, take, drop}
use Rattle.msb_expression.specs.declared.sorts.Sort.TheVariants.{Space}
use Rattle.msb_expression.specs.Grammar.{IsSpaces}
use Rattle.msb_expression.specs.Machine.{Mode, run, step_of, go}
use Rattle.msb_expression.proofs.names.spaces_end.Given as goal

abbrev pub invariant-loop-end : goal.invariant-loop-end
invariant-loop-end l = record {
  after : l.at ≤ l.end;
  within : l.end ≤ length l.text;
  spaces : IsSpaces (take (l.end - l.at) (drop l.at l.text));
  over : (mode : Mode) → step_of mode Space 32 ≡ go mode
      → run (drop l.at l.text) mode ≡ run (drop l.end l.text) mode;
}

abbrev pub decreases-loop-end : goal.decreases-loop-end
decreases-loop-end l = length l.text - l.end
