use Rattle.std.proofs.Common.{◌≡◌, ℕ, ◌-◌, ◌<◌, ◌≤◌, length, drop}
use Rattle.msb_expression.specs.Machine.{start_of}
use Rattle.msb_expression.specs.declared.starts.Start.TheVariants.{Plain}
use Rattle.msb_expression.proofs.starts.plain_end.Given as goal

abbrev pub invariant-loop-end : goal.invariant-loop-end
invariant-loop-end l = record {
  after : l.at ≤ l.end;
  within : l.end ≤ length l.text;
  plain : (k : ℕ) → l.at ≤ k → k < l.end → start_of l.inside (drop k l.text) ≡ Plain;
}

abbrev pub decreases-loop-end : goal.decreases-loop-end
decreases-loop-end l = length l.text - l.end
