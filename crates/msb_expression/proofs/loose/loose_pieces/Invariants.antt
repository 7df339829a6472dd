use Rattle.std.proofs.Common.{◌≡◌, ◌-◌, ◌<◌, ◌≤◌, [], length, drop}
use Rattle.std.specs.Str.{IsCharBoundary}
use Rattle.msb_expression.specs.Machine.{
  Arguments,
  run,
  in_text,
  inner,
  in_loose,
  unmarked,
  start_of,
}
use Rattle.msb_expression.specs.declared.starts.Inside.TheVariants.{Loose}
use Rattle.msb_expression.specs.declared.starts.Start.TheVariants.{Stop}
use Rattle.msb_expression.proofs.loose.loose_pieces.Given as goal

abbrev pub invariant-loop-pieces : goal.invariant-loop-pieces
invariant-loop-pieces l = record {
  after : l.at ≤ l.next;
  within : l.next ≤ length l.text;
  cut : IsCharBoundary l.text l.next;
  moves : (start_of Loose (drop l.next l.text) ≡ Stop)
      → (start_of Loose (drop l.at l.text) ≡ Stop → ⊥) → l.at < l.next;
  goes : (a : Arguments) → run (drop l.at l.text) (in_text (inner (in_loose a) []) [] unmarked)
      ≡ run (drop l.next l.text) (in_text (inner (in_loose a) l.pieces) [] unmarked);
}

abbrev pub decreases-loop-pieces : goal.decreases-loop-pieces
decreases-loop-pieces l = length l.text - l.next
