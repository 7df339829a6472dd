-- Of which world a walk is, and where it stands. (Target build order; MSBuild task)
use Rattle.std.specs.Prelude.{ℕ, List, map, Option, option_map}
use Rattle.msb_laws.specs.Words.{Name}
use Rattle.task_trait.specs.declared.tools.ToolAnswer.{ToolAnswer}
use Rattle.task_trait.specs.declared.tools.ToolInput.{ToolInput}
use Rattle.build_meaning.specs.SoFar.{ToolUse}
use Rattle.build_meaning.specs.World.{World}
use Rattle.build_scheduler.specs.Own.{Seen}
use Rattle.build_scheduler.specs.Position.{Position}
use Rattle.target_body.specs.Standings.{tool_use}
use Rattle.request_machine.specs.Former.{position_before}
use Rattle.request_machine.specs.Positions.{position_of}
use Rattle.request_machine.specs.Walk.{Site}
use Rattle.request_machine.specs.Worlds.{world_of}
use Rattle.request_machine.specs.declared.request.Request.{Request}
use Rattle.request_machine.specs.declared.walk.Walk.{Walk}

module _ {T : Type 0} (calls : T → List (Name × ToolInput)) where
  -- where a request stands
  abbrev pub request_position : Request T → Position Site ToolInput ToolAnswer
  request_position r = position_of calls r.world.now r.key r.journal r.runs r.stage

  -- where a walk stands
  abbrev pub walk_position : Walk T → Position Site ToolInput ToolAnswer
  walk_position w = request_position w.request

  -- where a walk stood before its last answer, and how often it had asked then
  abbrev pub earlier_position : Walk T → Option (Position Site ToolInput ToolAnswer × ℕ)
  earlier_position w =
      option_map (λ b. (position_before calls w.request b.former, b.asked)) w.before

  -- how tools were used
  abbrev pub tools_used : T → List (ToolUse ToolInput)
  tools_used tools = map tool_use (calls tools)

-- the world of a walk, by what its tools answer
abbrev pub walk_world : {T : Type 0} → (Name → ToolInput → ToolAnswer) → Walk T →
    World Site ToolInput ToolAnswer
walk_world answer w = world_of answer w.request.world.now

-- what contracts see of a walk, by what its tools answer and how they were called
abbrev pub walk_seen : {T : Type 0} → (Name → ToolInput → ToolAnswer)
    → (T → List (Name × ToolInput)) → Walk T → Seen Site ToolInput ToolAnswer
walk_seen answer calls w = record {
  world = walk_world answer w;
  position = walk_position calls w;
  asked = w.asked;
  learnt = w.learnt.finished;
}
