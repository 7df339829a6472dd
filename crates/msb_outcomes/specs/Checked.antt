-- What comes of a check: what is printed by its verdict, and the status. (MSBuild command-line
-- reference; Building projects in parallel)
use Rattle.std.specs.Prelude.{ℕ}
use Rattle.msb_laws.specs.Words.{Text}
use Rattle.build_report.specs.Checked.{
  steady_text,
  differs_text,
  circular_run_text,
  deep_instance_text,
  crowding_instance_text,
  spent_text,
}
use Rattle.build_outcome.specs.Outcomes.{of_text}
use Rattle.build_outcome.specs.declared.outcome.Outcome.{Outcome}
use Rattle.build_steady.specs.declared.verdict.Verdict.{Verdict}
use Rattle.build_steady.specs.declared.verdict.Verdict.TheVariants.{
  Steady,
  Differs,
  Circular,
  TooDeep,
  TooMany,
  Spent,
}

-- what is printed of each verdict
abbrev pub verdict_text : Verdict → Text
verdict_text (Steady bodies) = steady_text bodies
verdict_text (Differs run first other) = differs_text run first other
verdict_text (Circular run) = circular_run_text run
verdict_text (TooDeep instance) = deep_instance_text instance
verdict_text (TooMany instance) = crowding_instance_text instance
verdict_text (Spent bodies) = spent_text bodies

-- 0 where the set is steady, 9 where too many bodies were made to tell, and else 1
abbrev pub verdict_status : Verdict → ℕ
verdict_status (Steady bodies) = 0
verdict_status (Differs run first other) = 1
verdict_status (Circular run) = 1
verdict_status (TooDeep instance) = 1
verdict_status (TooMany instance) = 1
verdict_status (Spent bodies) = 9

-- no file is written or removed
abbrev pub checked : Verdict → Outcome
checked verdict = of_text (verdict_status verdict) (verdict_text verdict)
