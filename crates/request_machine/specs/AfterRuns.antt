-- The stage of a request after the run of a target. (Target build order)
-- Contracts of private functions alone name this: what requests mean is told without it.
use Rattle.std.specs.Prelude.{◌≡◌, List, [], ◌∷◌, ◌++◌}
use Rattle.build_world.specs.Instances.{seen_instance}
use Rattle.build_world.specs.declared.world.World.{World as Given}
use Rattle.result_cache.specs.Journal.{Journal}
use Rattle.result_cache.specs.Table.{Records}
use Rattle.result_cache.specs.declared.record.Record.{Record}
use Rattle.result_cache.specs.declared.request.RequestKey.{RequestKey}
use Rattle.result_cache.specs.declared.run.RunId.{RunId}
use Rattle.request_machine.specs.Answered.{IsRecord}
use Rattle.request_machine.specs.Asks.{asked_by}
use Rattle.request_machine.specs.Stages.{StandsBy}
use Rattle.request_machine.specs.OrderSteps.{Follows}
use Rattle.request_machine.specs.Worlds.{project_of}
use Rattle.request_machine.specs.declared.after_run.AfterRun.{AfterRun}
use Rattle.request_machine.specs.declared.after_run.OrderStep.{OrderStep}
use Rattle.request_machine.specs.declared.stage.Stage.{Stage}
use Rattle.request_machine.specs.declared.stage.Stage.TheVariants.{NotBegun, Visits, Over}
use Rattle.request_machine.specs.declared.stage.Visit.{Visit}

-- it wants or makes a run
abbrev pub IsVisit : {T : Type 0} → Stage T → Type 0
IsVisit NotBegun = ⊥
IsVisit (Visits v) = Unit {0}
IsVisit (Over reply) = ⊥

-- it stands as what follows the run says
abbrev pub GoesTo : {T : Type 0} → Visit T → OrderStep → Stage T → Type 0
GoesTo v f stage = (key : RequestKey) → v.run.instance ≡ key.instance
    → StandsBy key (seen_instance v.instance) f.state f.order f.next_stop stage

abbrev pub TakenOn : {T : Type 0} → (before : Stage T) → OrderStep → (after : Stage T) → Type 0
TakenOn NotBegun f after = Unit {0}
TakenOn (Visits v) f after = GoesTo v f after
TakenOn (Over reply) f after = Unit {0}

-- what comes after the run, by its record
pub record ComesAfter {T : Type 0} (w : Given) (key : RequestKey) (table : Records)
    (journal : Journal) (runs : List RunId) (v : Visit T) (a : AfterRun) : Type 0 where
  pub made : Record
  pub is : IsRecord table v.run journal a.journal v.at made
  pub follows : Follows (project_of w key (seen_instance v.instance)) key v.state a.journal
      v.order v.run.target made a.step
  pub runs_are : a.runs ≡ runs ++ v.run ∷ []
  pub asks : a.ask ≡ asked_by key.instance a.runs a.step.next_stop

abbrev pub IsAfter : {T : Type 0} → Given → RequestKey → Records → Journal → List RunId → Stage T
    → AfterRun → Type 0
IsAfter w key table journal runs NotBegun a = Unit {0}
IsAfter w key table journal runs (Visits v) a = ComesAfter w key table journal runs v a
IsAfter w key table journal runs (Over reply) a = Unit {0}
