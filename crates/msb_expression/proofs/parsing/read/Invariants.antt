use Rattle.std.proofs.Common.{◌≡◌, ◌-◌, ◌≤◌, [], length, drop}
use Rattle.std.specs.Str.{IsCharBoundary}
use Rattle.msb_expression.specs.Machine.{run, begin, in_text, whole, unmarked}
use Rattle.msb_expression.proofs.parsing.read.Given as goal

abbrev pub invariant-loop-next : goal.invariant-loop-next
invariant-loop-next l = record {
  within : l.next ≤ length l.text;
  cut : IsCharBoundary l.text l.next;
  goes : run l.text begin ≡ run (drop l.next l.text) (in_text (whole l.parts) [] unmarked);
}

abbrev pub decreases-loop-next : goal.decreases-loop-next
decreases-loop-next l = length l.text - l.next
