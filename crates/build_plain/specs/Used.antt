-- Which tools a driver uses at a place, by what its core's history notes. (Target element; Task
-- element)
use Rattle.std.specs.Prelude.{◌≡◌, List, [], ◌++◌, Option, None, Some}
use Rattle.result_cache.specs.Table.{Records}
use Rattle.build_meaning.specs.declared.event.Event.{Event}
use Rattle.build_meaning.specs.World.{World}
use Rattle.build_meaning.specs.SoFar.{ToolUse}
use Rattle.build_meaning.specs.State.{Place}
use Rattle.build_history.specs.Uses.{RunUse, tools_of, uses_in}
use Rattle.build_scheduler.specs.declared.walker.Answer.{Answer}
use Rattle.build_scheduler.specs.declared.slot.End.{End}
use Rattle.build_scheduler.specs.declared.slot.End.TheVariants.{NoMemory}
use Rattle.build_scheduler.specs.Own.{Seen}
use Rattle.build_scheduler.specs.Position.{Position, answered, used_between}
use Rattle.build_plain.specs.declared.alone.Turn.{Turn}
use Rattle.build_plain.specs.declared.alone.Turn.TheVariants.{GoesOn, Over}

-- the tools that were used from one to the other are those that the history has from one to the
-- other, in its order
pub record Uses {P I A : Type 0} (w : World P I A) (before after : List Event)
    (from to : List (ToolUse I)) : Type 0 where
  pub more : List (RunUse I)
  pub uses : uses_in w after ≡ uses_in w before ++ more
  pub tools : to ≡ from ++ tools_of more

-- unless the build has ended for want of memory
abbrev pub UnlessMemory : Option End → Type 0 → Type 0
UnlessMemory (Some NoMemory) P = Unit {0}
UnlessMemory end P = P

-- what a walk uses on its way to the next place
abbrev pub due_to : {P I A : Type 0} → Place P I A → Option (Position P I A) → List (ToolUse I)
due_to place None = []
due_to place (Some next) = used_between place next.place

-- what it uses by its next answer
abbrev pub due : {P I A : Type 0} → World P I A → Records → Seen P I A → Answer → List (ToolUse I)
due w table walk answer = due_to walk.position.place (answered w table walk.position answer)

abbrev pub due_in : {W P I A : Type 0} → (W → Seen P I A) → World P I A → Records → Turn W
    → List (ToolUse I)
due_in seen w table (GoesOn walk answer) = due w table (seen walk) answer
due_in seen w table Over = []
