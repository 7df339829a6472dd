-- What the tools for tests of builds on several nodes answer.
use Rattle.std.specs.Prelude.{[], ◌∷◌, true, codes, unwrap_or}
use Rattle.msb_laws.specs.Words.{Name}
use Rattle.msb_values.specs.Pairs.{value_at}
use Rattle.task_trait.specs.declared.tools.TaskOutput.{TaskOutput}
use Rattle.task_trait.specs.declared.tools.ToolAnswer.{ToolAnswer}
use Rattle.task_trait.specs.declared.tools.ToolAnswer.TheVariants.{Unknown, Made}
use Rattle.task_trait.specs.declared.tools.ToolInput.{ToolInput}

-- a task that succeeds and makes nothing
abbrev pub success : TaskOutput
success = record { ok = true; outputs = []; acts = []; notes = [] }

-- there are two tools, and both succeed
abbrev pub gate_answer : Name → ToolInput → ToolAnswer
gate_answer name input = unwrap_or
    (value_at name ((codes "gate", Made success) ∷ (codes "tally", Made success) ∷ [])) Unknown
