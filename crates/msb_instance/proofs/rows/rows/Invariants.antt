use Rattle.std.proofs.Common.{map}
use Rattle.msb_laws.proofs.Collecting.{IsOk}
use Rattle.msb_instance.specs.Targets.{rows_of}
use Rattle.msb_instance.specs.Made.{target_seen, row_for, seen_context}
use Rattle.msb_instance.proofs.rows.rows.Given as goal

abbrev pub invariant-loop-target : goal.invariant-loop-target
invariant-loop-target l = IsOk (row_for (seen_context l.context)) l.targets l.target-index l.rows
    (rows_of (seen_context l.context) (map target_seen l.targets))
