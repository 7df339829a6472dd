-- Whether a Condition holds, as it is written. (MSBuild conditions)
use Rattle.std.specs.Prelude.{Bool, true, Option, Some, None, Result, Ok, Err}
use Rattle.msb_laws.specs.Words.{Text}
use Rattle.msb_values.specs.declared.cause.Cause.{Cause}
use Rattle.msb_values.specs.declared.cause.Cause.TheVariants.{Syntax}
use Rattle.msb_expand.specs.Causes.{expression_cause_of}
use Rattle.msb_condition.specs.declared.faults.CondFault.{CondFault}
use Rattle.msb_condition.specs.Causes.{cause_of}
use Rattle.msb_condition.specs.Machine.{Refusal, syntax, inside}
use Rattle.msb_condition.specs.Reading.{condition_of}
use Rattle.msb_condition.specs.Trees.{Tree}
use Rattle.msb_condition.specs.Truth.{View, truth_of}

abbrev pub refusal_cause : Refusal → Cause
refusal_cause (syntax place) = Syntax place
refusal_cause (inside fault) = expression_cause_of fault

abbrev pub or_cause : Result Bool CondFault → Result Bool Cause
or_cause (Ok holds) = Ok holds
or_cause (Err fault) = Err (cause_of fault)

abbrev pub read_holds : View → Result Tree Refusal → Result Bool Cause
read_holds view (Ok tree) = or_cause (truth_of view tree)
read_holds view (Err refusal) = Err (refusal_cause refusal)

-- an absent Condition holds
abbrev pub condition_holds : View → Option Text → Result Bool Cause
condition_holds view None = Ok true
condition_holds view (Some written) = read_holds view (condition_of written)
