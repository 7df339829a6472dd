-- One step of the body of a run that a request makes. (Target element; MSBuild task)
-- Contracts of private functions alone name this: what requests mean is told without it.
use Rattle.std.specs.Prelude.{◌≡◌, ℕ, List, [], ◌∷◌, ◌++◌, length, map, Option, Some, None}
use Rattle.msb_laws.specs.Words.{Name}
use Rattle.build_world.specs.Instances.{UsedTarget}
use Rattle.build_world.specs.declared.world.World.{World as Given}
use Rattle.result_cache.specs.Journal.{Journal}
use Rattle.result_cache.specs.declared.record.Record.{Record}
use Rattle.result_cache.specs.declared.request.RequestResult.{RequestResult}
use Rattle.result_cache.specs.declared.run.RunId.{RunId}
use Rattle.task_trait.specs.declared.tools.ToolAnswer.{ToolAnswer}
use Rattle.task_trait.specs.declared.tools.ToolInput.{ToolInput}
use Rattle.build_meaning.specs.SoFar.{SoFar, called, recorded, with_calls}
use Rattle.build_meaning.specs.Stop.{Stop, Stopped, ends, asks, run_on}
use Rattle.build_meaning.specs.Walk.{Body as Tree}
use Rattle.build_scheduler.specs.declared.walker.Ask.{Ask}
use Rattle.build_scheduler.specs.declared.walker.Ask.TheVariants.{
  Call as AskCall,
  Finished as AskFinished,
}
use Rattle.target_body.specs.Standings.{Standing, begins, waits, over, body_in, tool_use}
use Rattle.target_body.specs.declared.body.Body.{Body}
use Rattle.target_body.specs.declared.body.BodyAsk.{BodyAsk}
use Rattle.target_body.specs.declared.body.BodyAsk.TheVariants.{Call, Finished}
use Rattle.request_machine.specs.Positions.{Halt, halt_at, uses_in}
use Rattle.request_machine.specs.declared.snapshots.Snapshots.{Snapshots}
use Rattle.request_machine.specs.declared.run.RunStop.{RunStop}
use Rattle.request_machine.specs.declared.stage.RunState.TheVariants.{Called, Made}

-- what a request asks where the body of its run stops
abbrev pub ask_in : RunId → SoFar ToolInput → Stop ToolInput ToolAnswer → Ask
ask_in run s (ends outcome) = AskFinished run (recorded outcome s.segments)
ask_in run s (asks key keys go) = AskCall (key ∷ keys)

-- the body is over, and this is its record
abbrev pub IsFinished : {T : Type 0} → RunId → Snapshots (Snapshots T ℕ) (Snapshots T ℕ) → Record →
    RunStop T → Type 0
IsFinished run noted made run_stop = (run_stop.at ≡ Made made noted) ×
    (run_stop.ask ≡ AskFinished run made)

-- what the code makes of what the body asks
abbrev pub IsRunStop : {T : Type 0} → RunId → Body → Snapshots (Snapshots T ℕ) (Snapshots T ℕ) →
    BodyAsk → RunStop T → Type 0
IsRunStop run body noted (Call keys) run_stop = (run_stop.at ≡ Called body noted) ×
    (run_stop.ask ≡ AskCall keys)
IsRunStop run body noted (Finished made) run_stop = IsFinished run noted made run_stop

-- whether the body has called requests, and these are as many results
abbrev pub IsStopped : Stop ToolInput ToolAnswer → List RequestResult → Type 0
IsStopped (ends outcome) results = ⊥
IsStopped (asks key keys go) results = length results ≡ length (key ∷ keys)

abbrev pub IsWaiting : Option Halt → List RequestResult → Type 0
IsWaiting None results = ⊥
IsWaiting (Some halt) results = IsStopped halt.1 results

module _ {T : Type 0} (answer : Name → ToolInput → ToolAnswer)
    (calls : T → List (Name × ToolInput)) (w : Given) (run : RunId) (target : Option UsedTarget)
  where
    -- A body goes on from here, with what it has done to files, called and used, and stops where
    -- the definition says. The second tools have been called as the first ones were, and then as
    -- the body says.
    pub record Stops (b : Tree ToolInput ToolAnswer) (so_far : SoFar ToolInput)
        (before after : Journal) (old new : T) (run_stop : RunStop T) : Type 0 where
      pub uses : List (Name × ToolInput)
      pub called : calls new ≡ calls old ++ uses
      pub stopped : Stopped ToolInput ToolAnswer
      pub is : run_on answer run b before so_far ≡ stopped
      pub halted : halt_at calls w run target run_stop.at ≡ Some (stopped.so_far, stopped.stop)
      pub tools : stopped.so_far.tools ≡ so_far.tools ++ map tool_use uses
      pub journal : after ≡ stopped.journal
      pub asks_so : run_stop.ask ≡ ask_in run stopped.so_far stopped.stop

    -- by the results of its calls it goes on from where it has stopped
    abbrev pub ResumesAt : SoFar ToolInput → Stop ToolInput ToolAnswer → List RequestResult
        → (before after : Journal) → (old new : T) → RunStop T → Type 0
    ResumesAt so_far (ends outcome) results before after old new run_stop = Unit {0}
    ResumesAt so_far (asks key keys go) results before after old new run_stop = Stops
        (go results before) (with_calls so_far (key ∷ keys) results) before after old new run_stop

    abbrev pub Resumes : Option Halt → List RequestResult → (before after : Journal)
        → (old new : T) → RunStop T → Type 0
    Resumes None results before after old new run_stop = Unit {0}
    Resumes (Some halt) results before after old new run_stop = ResumesAt halt.0 halt.1 results
        before after old new run_stop

module _ {T : Type 0} (answer : Name → ToolInput → ToolAnswer)
    (calls : T → List (Name × ToolInput)) (w : Given) (run : RunId) (target : UsedTarget) where
  -- from where the body stands, by the results that have come
  abbrev pub Plays : Standing → List RequestResult → (before after : Journal) → (old new : T)
      → Snapshots (Snapshots T ℕ) (Snapshots T ℕ) → RunStop T → Type 0
  Plays (begins scope) results before after old new noted run_stop =
      Stops answer calls w run (Some target) (body_in w run target scope before)
      (record { segments = []; tools = map tool_use (uses_in calls noted) }) before after old new
      run_stop
  Plays (waits segments key keys go) results before after old new noted run_stop =
      Stops answer calls w run (Some target) (go results before)
      (record {
        segments = segments ++ called (key ∷ keys) results;
        tools = map tool_use
            (uses_in calls noted);
      }) before after old new run_stop
  Plays over results before after old new noted run_stop = Unit {0}
