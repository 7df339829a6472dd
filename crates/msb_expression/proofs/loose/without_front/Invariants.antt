use Rattle.std.proofs.Common.{◌≡◌, ◌-◌, ◌≤◌, length, drop}
use Rattle.std.specs.Str.{IsCharBoundary}
use Rattle.msb_expression.specs.Grammar.{without_front}
use Rattle.msb_expression.proofs.loose.without_front.Given as goal

abbrev pub invariant-loop-start : goal.invariant-loop-start
invariant-loop-start l = record {
  within : l.start ≤ length l.text;
  cut : IsCharBoundary l.text l.start;
  goes : without_front (drop l.start l.text) ≡ without_front l.text;
}

abbrev pub decreases-loop-start : goal.decreases-loop-start
decreases-loop-start l = length l.text - l.start
