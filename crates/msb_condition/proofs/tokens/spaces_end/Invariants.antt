use Rattle.std.proofs.Common.{◌≡◌, ◌-◌, ◌≤◌, length}
use Rattle.msb_condition.specs.Places.{tokens_at}
use Rattle.msb_condition.proofs.tokens.spaces_end.Given as goal

abbrev pub invariant-loop-end : goal.invariant-loop-end
invariant-loop-end l = record {
  after : l.at ≤ l.end;
  within : l.end ≤ length l.text;
  over : tokens_at l.at l.text ≡ tokens_at l.end l.text;
}

abbrev pub decreases-loop-end : goal.decreases-loop-end
decreases-loop-end l = length l.text - l.end
