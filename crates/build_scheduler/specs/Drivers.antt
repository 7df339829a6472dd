-- What drivers of a core have in common. (Building projects in parallel)
use Rattle.std.specs.Prelude.{◌≡◌, List, ◌++◌}
use Rattle.result_cache.specs.Table.{Records}
use Rattle.build_meaning.specs.declared.event.Event.{Event}
use Rattle.build_meaning.specs.World.{World}
use Rattle.build_meaning.specs.State.{State}
use Rattle.build_meaning.specs.History.{IsHistory}
use Rattle.build_scheduler.specs.declared.walker.Answer.{Answer}
use Rattle.build_scheduler.specs.Position.{Position, answered}

-- the events lead from the start of the world to a state
abbrev pub IsLegal : {P I A : Type 0} → World P I A → List Event → Type 0
IsLegal {P} {I} {A} w events = (s : State P I A) × IsHistory w events s

-- more events came after these
abbrev pub Continues : List Event → List Event → Type 0
Continues before events = (more : List Event) × (events ≡ before ++ more)

-- an answer takes a walk to the same place by these records and by those
abbrev pub AreAlike : {P I A : Type 0} →
    World P I A → Records → Records → Position P I A → Answer → Type 0
AreAlike w these those p answer = answered w these p answer ≡ answered w those p answer
