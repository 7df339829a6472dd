-- What a build leaves to the next one, and what the next one finds up to date. (Incremental builds)
use Rattle.std.specs.Prelude.{◌≡◌, ◌⊎◌, ℕ, Bool, List, Option, Some}
use Rattle.msb_laws.specs.Words.{Text}
use Rattle.msb_values.specs.declared.mode.Mode.TheVariants.{Incremental}
use Rattle.file_store.specs.declared.tree.File.{File}
use Rattle.file_store.specs.declared.tree.Tree.{Tree}
use Rattle.result_cache.specs.declared.record.Record.{Record}
use Rattle.result_cache.specs.declared.request.RequestResult.{RequestResult}
use Rattle.result_cache.specs.declared.run.RunId.{RunId}
use Rattle.result_cache.specs.Lists.{In}
use Rattle.result_cache.specs.Journal.{Journal, ended}
use Rattle.build_world.specs.Instances.{UsedTarget}
use Rattle.build_world.specs.declared.world.World.{World}
use Rattle.build_meaning.specs.declared.event.Event.{Event}
use Rattle.build_meaning.specs.Meaning.{Given, meaning}
use Rattle.build_history.specs.Uses.{RunUse, uses_in}
use Rattle.build_scheduler.specs.declared.slot.End.{End}
use Rattle.build_report.specs.Shown.{shown_text}
use Rattle.build_outcome.specs.Outcomes.{IsOutcome, IsOutcomeAt}
use Rattle.build_outcome.specs.declared.outcome.Outcome.{Outcome}
use Rattle.task_trait.specs.declared.tools.ToolInput.{ToolInput}
use Rattle.request_machine.specs.Walk.{Site}
use Rattle.request_machine.specs.Worlds.{world_of}
use Rattle.build_declared.specs.Clean.{IsTrustworthy}
use Rattle.build_declared.specs.Fresh.{IsFresh}
use Rattle.build_declared.specs.NoOlder.{IsNoOlder}
use Rattle.build_declared.specs.Repeated.{IsRepeatedBuild, IsSettledBuild, clean_over, over}
use Rattle.build_declared.specs.Skipped.{IsOfSkipped, TakesLists, target_of}
use Rattle.build_declared.specs.UpToDate.{IsUpToDate}
use Rattle.msb_outcomes.specs.Calls.{Called}
use Rattle.msb_outcomes.specs.Outcomes.{Answering}
use Rattle.msb_program.specs.Calls.{AreMeantCalls}
use Rattle.msb_program.specs.Clean.{MeansClean}
use Rattle.msb_program.specs.Endings.{EndsWhole, SinkChange, PrintedAll, StoreChange}
use Rattle.msb_program.specs.Meanings.{IsAskedOf}

-- ---- what a build leaves

-- The words ask for a build of the files that the store tells, which may be trusted to skip and is
-- settled; and over the tree that is left the clean build is repeated, and comes to this.
pub record MeansRepeated (tools : Answering) (words : List Text) (told : Option (List File))
    (left : Tree) (again : Given Site ToolInput RequestResult) : Type 0 where
  pub given : World
  pub build : IsAskedOf words told given
  pub clean : Given Site ToolInput RequestResult
  pub trusted : IsTrustworthy tools given clean
  pub out : Given Site ToolInput RequestResult
  pub settled : IsSettledBuild tools given out
  pub repeated : IsRepeatedBuild tools given left clean again

-- over the tree that is left the clean build is fresh, no output of a piece is older than the
-- inputs that it is paired with, and runs without a piece keep off: so it is up to date there
pub record StaysFresh (tools : Answering) (given : World) (left : Tree)
    (again : Given Site ToolInput RequestResult) : Type 0 where
  pub fresh : IsFresh tools left.files (clean_over tools given left) again.value again.journal
  pub no_older : IsNoOlder tools left.files (clean_over tools given left) again.value again.journal
  pub up_to_date : IsUpToDate tools (over left given) again

-- with these statuses all acts of the build were done
abbrev pub HasSaved : ℕ → Type 0
HasSaved status = (status ≡ 0) ⊎ (status ≡ 1) ⊎ (status ≡ 6)

-- ---- what a build finds up to date

-- The words ask for a build that skips what is up to date, and that may be trusted to; and in the
-- files that the store tells each output of a piece is no older than its inputs.
pub record MeansUpToDate (tools : Answering) (words : List Text) (told : Option (List File))
    (clean : Given Site ToolInput RequestResult) : Type 0 where
  pub means : MeansClean tools words told clean
  pub mode : means.given.mode ≡ Incremental
  pub up_to_date : IsUpToDate tools means.given clean

-- each run of a target with Inputs and Outputs has done nothing, and its record, from which its
-- lines are printed, says `up to date` once for each of its pieces
abbrev pub SkipsAll : Answering → List File → Journal → Type 0
SkipsAll tools files journal =
    (run : RunId) (made : Record) → In (ended run made) journal →
    (target : UsedTarget) → target_of files run ≡ Some target → TakesLists target →
    IsOfSkipped tools files target run made

-- the whole text was printed of such a build, whose root request gives this
abbrev pub PrintedSkips : Answering → List File → SinkChange → RequestResult → Type 0
PrintedSkips tools files p root =
    (journal : Journal) × (low : Bool)
    × SkipsAll tools files journal × PrintedAll p (shown_text root journal low)

-- none of the uses of tools is in a run of a target with Inputs and Outputs
abbrev pub AreUsesOfOthers : List File → List (RunUse ToolInput) → Type 0
AreUsesOfOthers files uses =
    (u : RunUse ToolInput) → In u uses → (target : UsedTarget) →
    target_of files u.run ≡ Some target → TakesLists target → ⊥

-- What was done to files and printed is an outcome of the build, to which some legal history leads;
-- and in each that leads to it no run of a target with Inputs and Outputs uses a tool.
pub record EndsIdle (tools : Answering) (given : World) (low : Bool) (s : StoreChange)
    (p : SinkChange) : Type 0 where
  pub outcome : Outcome
  pub ends : EndsWhole s p outcome
  pub legal : ∥ IsOutcome (world_of tools given) low outcome ∥₁
  pub others : (events : List Event) (end : Option End) →
      IsOutcomeAt (world_of tools given) low events end outcome →
      AreUsesOfOthers given.tree.files (uses_in (world_of tools given) events)

-- the calls of tools are uses of the meaning's runs, and none is of a run of a target with Inputs
-- and Outputs
pub record AreCallsOfOthers (tools : Answering) (given : World)
    (before after : Called) : Type 0 where
  pub out : Given Site ToolInput RequestResult
  pub means : meaning (world_of tools given) ≡ Some out
  pub calls : AreMeantCalls out before after
  pub others : AreUsesOfOthers given.tree.files calls.uses
