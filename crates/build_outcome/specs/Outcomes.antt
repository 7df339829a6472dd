-- What comes of a build: its status, what is printed, what is done to files, and how many runs have
-- ended in it. (MSBuild command-line reference)
use Rattle.std.specs.Prelude.{◌≡◌, ◌⊎◌, ℕ, Bool, true, false, List, [], Option, None, Some}
use Rattle.msb_laws.specs.Words.{Text}
use Rattle.result_cache.specs.declared.request.RequestResult.{RequestResult}
use Rattle.result_cache.specs.Journal.{Journal}
use Rattle.msb_files.specs.FinalTree.{commit_list}
use Rattle.build_meaning.specs.declared.event.Event.{Event}
use Rattle.build_meaning.specs.World.{World}
use Rattle.build_meaning.specs.State.{State}
use Rattle.build_meaning.specs.History.{IsHistory, EndsWith}
use Rattle.build_scheduler.specs.declared.slot.End.{End}
use Rattle.build_scheduler.specs.declared.slot.End.TheVariants.{
  Root,
  Circular,
  TooDeep,
  TooMany,
  NoMemory,
}
use Rattle.build_scheduler.specs.Ends.{IsStop}
use Rattle.build_report.specs.Shown.{shown_text}
use Rattle.build_report.specs.Refused.{circular_text, too_deep_text, too_many_text}
use Rattle.build_outcome.specs.Counted.{runs_in}
use Rattle.build_outcome.specs.declared.outcome.Outcome.{Outcome}

-- the status of a build whose root request is over
abbrev pub status_of : Bool → ℕ
status_of true = 0
status_of false = 1

-- the statuses of builds
abbrev pub IsStatus : ℕ → Type 0
IsStatus status = (status ≡ 0) ⊎ (status ≡ 1) ⊎ (status ≡ 4)

-- what comes of a build whose root request is over, with this result and this journal
abbrev pub built : Bool → RequestResult → Journal → Outcome
built low result journal = record {
  status = status_of result.ok;
  text = shown_text result journal low;
  commit = commit_list journal;
  runs = runs_in journal;
}

-- what is told of no build: this text is printed, and nothing is done to files
abbrev pub of_text : ℕ → Text → Outcome
of_text status text = record { status = status; text = text; commit = []; runs = 0 }

-- what comes of a build that is stopped, where this text says why
abbrev pub stopped : Text → Outcome
stopped text = of_text 4 text

-- after these events the root request is over with this result, and this comes of it
pub record IsBuilt {P I A : Type 0} (w : World P I A) (low : Bool) (events : List Event)
    (result : RequestResult) (outcome : Outcome) : Type 0 where
  pub state : State P I A
  pub journal : Journal
  pub history : IsHistory w events state
  pub ends : EndsWith state result journal
  pub outcome_is : outcome ≡ built low result journal

-- after these events the build is stopped by this end, and this text says why
abbrev pub IsStopped : {P I A : Type 0} → World P I A → List Event → End → Text → Outcome → Type 0
IsStopped w events end text outcome = IsStop w events end × (outcome ≡ stopped text)

-- what comes of a build that ends so after these events; nothing comes of one that goes on, or that
-- wants memory
abbrev pub IsOutcomeAt : {P I A : Type 0} →
    World P I A → Bool → List Event → Option End → Outcome → Type 0
IsOutcomeAt w low events None outcome = ⊥
IsOutcomeAt w low events (Some (Root result)) outcome = IsBuilt w low events result outcome
IsOutcomeAt w low events (Some (Circular runs)) outcome =
    IsStopped w events (Circular runs) (circular_text runs) outcome
IsOutcomeAt w low events (Some (TooDeep keys)) outcome =
    IsStopped w events (TooDeep keys) (too_deep_text keys) outcome
IsOutcomeAt w low events (Some (TooMany instance)) outcome =
    IsStopped w events (TooMany instance) (too_many_text instance) outcome
IsOutcomeAt w low events (Some NoMemory) outcome = ⊥

-- what may come of a build of the world: some legal history leads to it
pub record IsOutcome {P I A : Type 0} (w : World P I A) (low : Bool)
    (outcome : Outcome) : Type 0 where
  pub events : List Event
  pub state : State P I A
  pub end : Option End
  pub history : IsHistory w events state
  pub is : IsOutcomeAt w low events end outcome
