-- What a node has for the walks that it advances. (Building projects in parallel)
use Rattle.std.specs.Prelude.{◌≡◌}
use Rattle.msb_laws.specs.Words.{Name}
use Rattle.build_world.specs.declared.world.World.{World as Given}
use Rattle.msb_instance.specs.Kept.{AreEvaluated, Kept}
use Rattle.task_trait.specs.declared.tools.ToolAnswer.{ToolAnswer}
use Rattle.task_trait.specs.declared.tools.ToolInput.{ToolInput}
use Rattle.build_meaning.specs.World.{World}
use Rattle.request_machine.specs.Walk.{Site}
use Rattle.request_machine.specs.Worlds.{world_of}

-- by what the tools answer, this is the world that is given, and the instances that the node has
-- are those of its files
abbrev pub Suits : (Name → ToolInput → ToolAnswer) → Given → Kept →
    World Site ToolInput ToolAnswer → Type 0
Suits answer given kept w = (w ≡ world_of answer given) × AreEvaluated given.tree.files kept
