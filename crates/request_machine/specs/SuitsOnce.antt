-- That what a node has suits a world is true in one way alone.
use mathlib.Core.Sum.{⊎_set}
use Rattle.std.proofs.Props.{props}
use Rattle.std.specs.Coded.{codes, Coded-set, ×_prop}
use Rattle.msb_laws.specs.Words.{Name}
use Rattle.build_world.specs.declared.world.World.{World as Given}
use Rattle.msb_instance.specs.Kept.{Kept}
use Rattle.msb_instance.specs.KeptOnce.{evaluated-once, node-set}
use Rattle.task_trait.specs.declared.tools.ToolAnswer.{ToolAnswer}
use Rattle.task_trait.specs.declared.tools.ToolInput.{ToolInput}
use Rattle.build_meaning.specs.World.{World}
use Rattle.request_machine.specs.WorldSets.{worlds}
use Rattle.request_machine.specs.NodeContexts.{Suits}
use Rattle.request_machine.specs.Walk.{Site}
use Rattle.request_machine.specs.Worlds.{world_of}

site-set : IsSet Site
site-set = hlevel (⊎_set, node-set, codes, Coded-set, props)

input-set : IsSet ToolInput
input-set = hlevel (codes, Coded-set, props)

answer-set : IsSet ToolAnswer
answer-set = hlevel (⊎_set, codes, Coded-set, props)

pub suits-once : (answer : Name → ToolInput → ToolAnswer) (given : Given)
    (kept : Kept) (w : World Site ToolInput ToolAnswer) →
    IsProp (Suits answer given kept w)
suits-once answer given kept w =
    ×_prop (worlds site-set input-set answer-set w (world_of answer given))
    (evaluated-once given.tree.files kept)
