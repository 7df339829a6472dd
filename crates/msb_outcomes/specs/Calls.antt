-- Which tools what comes of the work calls. (Task element)
use Rattle.std.specs.Prelude.{List, Bool, map}
use Rattle.msb_laws.specs.Words.{Name}
use Rattle.task_trait.specs.declared.tools.ToolInput.{ToolInput}
use Rattle.build_meaning.specs.SoFar.{ToolUse}
use Rattle.build_outcome.specs.declared.outcome.Outcome.{Outcome}
use Rattle.build_engine.specs.UsedFor.{IsUsedFor}
use Rattle.request_machine.specs.Worlds.{world_of}
use Rattle.msb_outcomes.specs.Outcomes.{Answering}
use Rattle.msb_outcomes.specs.declared.work.Work.{Work}
use Rattle.msb_outcomes.specs.declared.work.Work.TheVariants.{Told, Build, Check}

-- a list of calls, by their names and what the tools were handed
abbrev pub Called : Type 0
Called = List (Name × ToolInput)

-- the calls as the meaning says them
abbrev pub as_uses : Called → List (ToolUse ToolInput)
as_uses calls = map (λ call. record { name = call.0; input = call.1 }) calls

-- the calls that were made for what came of a build
abbrev pub AreCallsFor : Answering → Bool → Work → Outcome → Called → Called → Type 0
AreCallsFor tools low (Told told) outcome before after = Unit {0}
AreCallsFor tools low (Build given) outcome before after =
    ∥ IsUsedFor (world_of tools given) low outcome (as_uses before) (as_uses after) ∥₁
AreCallsFor tools low (Check given) outcome before after = Unit {0}
