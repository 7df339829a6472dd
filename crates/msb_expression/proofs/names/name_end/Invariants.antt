use Rattle.std.proofs.Common.{◌-◌, ◌≤◌, length, take, drop}
use Rattle.msb_expression.specs.Grammar.{Every, is_name_byte}
use Rattle.msb_expression.proofs.names.name_end.Given as goal

abbrev pub invariant-loop-end : goal.invariant-loop-end
invariant-loop-end l = record {
  after : l.at ≤ l.end;
  within : l.end ≤ length l.text;
  bytes : Every is_name_byte (take (l.end - l.at) (drop l.at l.text));
}

abbrev pub decreases-loop-end : goal.decreases-loop-end
decreases-loop-end l = length l.text - l.end
