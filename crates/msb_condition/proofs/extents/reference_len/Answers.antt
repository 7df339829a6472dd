use Rattle.std.proofs.Common.{sym, ◌∙◌}
use Rattle.msb_condition.proofs.Scans.{reference_stops}
use Rattle.msb_condition.proofs.extents.reference_len.Goals as goal

pub returns-then-is_text-clause-value : goal.returns-then-is_text-clause-value
returns-then-is_text-clause-value c = reference_stops c.loop-at.inside _ _ c.loop-at.at
    c.loop-at-test.true c.loop-at.invariant.counted (sym c.is_text.ensures ∙ c.if-is_text.true)
