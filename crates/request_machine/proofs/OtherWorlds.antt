-- A request that has not begun stands alike wherever its world is told.
use Rattle.std.proofs.Common.{◌≡◌, ℕ, List, false, ap}
use Rattle.build_world.specs.declared.world.World.{World as Given}
use Rattle.result_cache.specs.Journal.{Journal}
use Rattle.result_cache.specs.declared.request.RequestKey.{RequestKey}
use Rattle.result_cache.specs.declared.run.RunId.{RunId}
use Rattle.task_trait.specs.declared.tools.ToolAnswer.{ToolAnswer}
use Rattle.task_trait.specs.declared.tools.ToolInput.{ToolInput}
use Rattle.build_meaning.specs.State.{walking}
use Rattle.build_meaning.specs.World.{World}
use Rattle.request_machine.specs.Stages.{has_begun}
use Rattle.request_machine.specs.Positions.{position_of}
use Rattle.request_machine.specs.Walk.{Site}
use Rattle.request_machine.specs.Worlds.{world_of}
use Rattle.request_machine.specs.declared.stage.Stage.{Stage}
use Rattle.request_machine.specs.declared.stage.Stage.TheVariants.{NotBegun, Visits, Over}

pub stands_alike : {T : Type 0} (answer : List ℕ → ToolInput → ToolAnswer)
    (calls : T → List (List ℕ × ToolInput)) (v w : Given) (key : RequestKey) (journal : Journal)
    (runs : List RunId) (stage : Stage T) → world_of answer v ≡ world_of answer w →
    has_begun stage ≡ false →
    position_of calls v key journal runs stage ≡ position_of calls w key journal runs stage
stands_alike answer calls v w key journal runs NotBegun same unbegun =
    ap (λ (x : World Site ToolInput ToolAnswer).
    record { journal = journal; runs = runs; place = walking (x.walks key journal) }) same
stands_alike answer calls v w key journal runs (Visits visit) same unbegun = absurd (cc)
stands_alike answer calls v w key journal runs (Over reply) same unbegun = absurd (cc)
