-- What a request holds where an answer takes it on. (Target build order; MSBuild task)
-- Contracts of private functions alone name this: what requests mean is told without it.
use Rattle.std.specs.Prelude.{◌≡◌, List, Bool, true, false, IsSome, Some}
use Rattle.msb_laws.specs.Words.{Name}
use Rattle.build_world.specs.Instances.{seen_instance}
use Rattle.build_world.specs.declared.world.World.{World as Given}
use Rattle.result_cache.specs.Journal.{Journal, ended, add}
use Rattle.result_cache.specs.Replay.{replay}
use Rattle.result_cache.specs.Table.{Records, found}
use Rattle.result_cache.specs.declared.record.Record.{Record}
use Rattle.result_cache.specs.declared.request.RequestResult.{RequestResult}
use Rattle.result_cache.specs.declared.run.RunId.{RunId}
use Rattle.task_trait.specs.declared.tools.ToolAnswer.{ToolAnswer}
use Rattle.task_trait.specs.declared.tools.ToolInput.{ToolInput}
use Rattle.build_meaning.specs.World.{World}
use Rattle.build_scheduler.specs.Position.{Position, answered, ask_of}
use Rattle.build_scheduler.specs.declared.walker.Answer.{Answer}
use Rattle.build_scheduler.specs.declared.walker.Answer.TheVariants.{First}
use Rattle.build_scheduler.specs.declared.walker.Ask.{Ask}
use Rattle.target_body.specs.States.{target_named}
use Rattle.request_machine.specs.Stages.{is_wanted}
use Rattle.request_machine.specs.RunStops.{IsWaiting}
use Rattle.request_machine.specs.Positions.{halt_at}
use Rattle.request_machine.specs.Walk.{Site}
use Rattle.request_machine.specs.declared.stage.Stage.{Stage}
use Rattle.request_machine.specs.declared.stage.Stage.TheVariants.{NotBegun, Visits, Over}
use Rattle.request_machine.specs.declared.stage.RunState.{RunState}
use Rattle.request_machine.specs.declared.stage.RunState.TheVariants.{Wanted, Called, Made}

-- the first answer comes before anything was answered, and every other one after it
abbrev pub IsNext : Bool → Answer → Type 0
IsNext begun First = begun ≡ false
IsNext begun answer = begun ≡ true

-- it wants a run
abbrev pub WantsRun : {T : Type 0} → Stage T → Type 0
WantsRun NotBegun = ⊥
WantsRun (Visits v) = is_wanted v.at ≡ true
WantsRun (Over reply) = ⊥

-- the body of its run waits for so many results
abbrev pub WaitsFor : {T : Type 0} → (T → List (Name × ToolInput)) → Given → List RequestResult
    → Stage T → Type 0
WaitsFor calls w results NotBegun = ⊥
WaitsFor calls w results (Visits v) = IsWaiting
    (halt_at calls w v.run (target_named (seen_instance v.instance).targets v.run.target) v.at)
    results
WaitsFor calls w results (Over reply) = ⊥

-- the record of its run is there, among those of a table or since its own body has ended
abbrev pub HasRecord : {T : Type 0} → Records → RunId → Journal → RunState T → Type 0
HasRecord table run journal Wanted = IsSome (found table run) × IsSome (replay table run journal)
HasRecord table run journal (Called body noted) = ⊥
HasRecord table run journal (Made made noted) = Unit {0}

abbrev pub HasMade : {T : Type 0} → Records → Journal → Stage T → Type 0
HasMade table journal NotBegun = ⊥
HasMade table journal (Visits v) = HasRecord table v.run journal v.at
HasMade table journal (Over reply) = ⊥

-- this is the record, and the second journal is the first with all that it says
abbrev pub IsRecord : {T : Type 0} → Records → RunId → (before after : Journal) → RunState T →
    Record → Type 0
IsRecord table run before after Wanted made = (found table run ≡ Some made)
    × (replay table run before ≡ Some after)
IsRecord table run before after (Called body noted) made = Unit {0}
IsRecord table run before after (Made own noted) made = (made ≡ own)
    × (after ≡ add before (ended run own))

-- an answer takes a request from one position to the next, where it asks this
pub record Advances (w : World Site ToolInput ToolAnswer) (table : Records)
    (before after : Position Site ToolInput ToolAnswer) (answer : Answer) (ask : Ask)
    : Type 0 where
  pub goes_on : answered w table before answer ≡ Some after
  pub asks : ask ≡ ask_of after
