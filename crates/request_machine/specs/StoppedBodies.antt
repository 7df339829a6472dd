-- Where the body of the run that a request makes has stopped. (Target element; MSBuild task)
-- Contracts of private functions alone name this: what requests mean is told without it.
use Rattle.std.specs.Prelude.{◌≡◌, List, Some}
use Rattle.msb_laws.specs.Words.{Name}
use Rattle.build_world.specs.Instances.{seen_instance}
use Rattle.build_world.specs.declared.world.World.{World as Given}
use Rattle.result_cache.specs.Journal.{Journal}
use Rattle.result_cache.specs.Replay.{replay_all}
use Rattle.result_cache.specs.Table.{Records}
use Rattle.result_cache.specs.declared.request.RequestResult.{RequestResult}
use Rattle.task_trait.specs.declared.tools.ToolAnswer.{ToolAnswer}
use Rattle.task_trait.specs.declared.tools.ToolInput.{ToolInput}
use Rattle.build_meaning.specs.SoFar.{nothing_yet, runs_of}
use Rattle.target_body.specs.States.{target_named}
use Rattle.request_machine.specs.RunStops.{Resumes, Stops}
use Rattle.request_machine.specs.Positions.{halt_at}
use Rattle.request_machine.specs.Runs.{run_in}
use Rattle.request_machine.specs.Worlds.{body_if}
use Rattle.request_machine.specs.declared.run.RunStop.{RunStop}
use Rattle.request_machine.specs.declared.stage.Stage.{Stage}
use Rattle.request_machine.specs.declared.stage.Stage.TheVariants.{NotBegun, Visits, Over}
use Rattle.request_machine.specs.declared.stage.Visit.{Visit}

module _ {T : Type 0} (answer : Name → ToolInput → ToolAnswer)
    (calls : T → List (Name × ToolInput)) (w : Given) where
  -- the run that was wanted is made until its body stops
  pub record HasMadeRun (v : Visit T) (before after : Journal) (old new : T) (run_stop : RunStop T)
      : Type 0 where
    pub steps : let target = target_named (seen_instance v.instance).targets v.run.target in
        Stops answer calls w v.run target (body_if w v.run target v.state.scope before)
        nothing_yet before after old new run_stop
    pub own : run_in v.run run_stop.at ≡ v.run

  abbrev pub IsMade : Stage T → (before after : Journal) → (old new : T) → RunStop T → Type 0
  IsMade NotBegun before after old new run_stop = Unit {0}
  IsMade (Visits v) before after old new run_stop = HasMadeRun v before after old new run_stop
  IsMade (Over reply) before after old new run_stop = Unit {0}

  -- the runs of the results are replayed, and the body goes on until it stops again
  pub record HasResumedRun (table : Records) (results : List RequestResult) (v : Visit T)
      (before after : Journal) (old new : T) (run_stop : RunStop T) : Type 0 where
    pub replayed : Journal
    pub is : replay_all table (runs_of results) before ≡ Some replayed
    pub goes : let target = target_named (seen_instance v.instance).targets v.run.target in
        Resumes answer calls w v.run target (halt_at calls w v.run target v.at) results replayed
        after old new run_stop
    pub own : run_in v.run run_stop.at ≡ v.run

  abbrev pub IsResumed : Records → List RequestResult → Stage T → (before after : Journal)
      → (old new : T) → RunStop T → Type 0
  IsResumed table results NotBegun before after old new run_stop = Unit {0}
  IsResumed table results (Visits v) before after old new run_stop = HasResumedRun table results v
      before after old new run_stop
  IsResumed table results (Over reply) before after old new run_stop = Unit {0}
