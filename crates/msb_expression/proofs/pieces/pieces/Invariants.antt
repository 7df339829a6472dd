use Rattle.std.proofs.Common.{◌≡◌, ◌-◌, ◌≤◌, [], length, drop}
use Rattle.std.specs.Str.{IsCharBoundary}
use Rattle.msb_expression.specs.Machine.{Place, run, in_text, inner, unmarked, place_inside}
use Rattle.msb_expression.proofs.pieces.pieces.Given as goal

abbrev pub invariant-loop-pieces : goal.invariant-loop-pieces
invariant-loop-pieces l = record {
  after : l.at ≤ l.next;
  within : l.next ≤ length l.text;
  cut : IsCharBoundary l.text l.next;
  goes : (place : Place) → place_inside place ≡ l.inside
      → run (drop l.at l.text) (in_text (inner place []) [] unmarked)
      ≡ run (drop l.next l.text) (in_text (inner place l.pieces) [] unmarked);
}

abbrev pub decreases-loop-pieces : goal.decreases-loop-pieces
decreases-loop-pieces l = length l.text - l.next
