-- Runs of which each piece is skipped. (Target element; Incremental builds)
use Rattle.std.specs.Prelude.{
  ℕ,
  ◌≡◌,
  ◌+◌,
  false,
  Bool,
  List,
  [],
  ◌∷◌,
  length,
  Option,
  None,
  Some,
  Result,
  Ok,
  Err,
  codes,
}
use Rattle.msb_laws.specs.Words.{Text, Name}
use Rattle.msb_values.specs.declared.mode.Mode.TheVariants.{Incremental}
use Rattle.msb_values.specs.declared.scope.Scope.{Scope}
use Rattle.file_store.specs.declared.tree.File.{File}
use Rattle.result_cache.specs.declared.record.Decision.{Decision}
use Rattle.result_cache.specs.declared.record.Decision.TheVariants.{
  Ran,
  UpToDate,
  NothingToDo,
  Part as InPart,
  Failed,
}
use Rattle.result_cache.specs.declared.record.Record.{Record}
use Rattle.result_cache.specs.declared.request.RequestKey.{RequestKey}
use Rattle.result_cache.specs.declared.run.RunId.{RunId}
use Rattle.result_cache.specs.Lists.{In}
use Rattle.result_cache.specs.Journal.{Journal}
use Rattle.build_world.specs.Elements.{attribute_of}
use Rattle.build_world.specs.Instances.{Instance, UsedTarget}
use Rattle.build_meaning.specs.SoFar.{recorded}
use Rattle.build_meaning.specs.Walk.{Outcome, Reply, makes}
use Rattle.task_trait.specs.declared.tools.ToolAnswer.{ToolAnswer}
use Rattle.task_trait.specs.declared.tools.ToolInput.{ToolInput}
use Rattle.target_incremental.specs.declared.decision.Choice.TheVariants.{Skip}
use Rattle.target_body.specs.Bodies.{body}
use Rattle.target_body.specs.Pieces.{choice_of}
use Rattle.target_body.specs.States.{Run, run_at}
use Rattle.request_machine.specs.Requests.{Project, target_at}
use Rattle.request_machine.specs.Worlds.{instances_of}
use Rattle.build_declared.specs.Pieces.{Piece, pieces_of}

-- a target that has both Inputs and Outputs
pub record TakesLists (target : UsedTarget) : Type 0 where
  pub inputs : Text
  pub outputs : Text
  pub has_inputs : attribute_of (codes "Inputs") target.element ≡ Some inputs
  pub has_outputs : attribute_of (codes "Outputs") target.element ≡ Some outputs

-- the target of a run, if its project is evaluated and has it
abbrev pub target_by : List File → RunId → Result Instance Reply → Option UsedTarget
target_by files id (Ok instance) =
    let p : Project = record { files = files; key = id.instance; instance = instance } in
    target_at p id.target
target_by files id (Err reply) = None

abbrev pub target_of : List File → RunId → Option UsedTarget
target_of files id =
    let key : RequestKey = record { instance = id.instance; targets = []; named = false } in
    target_by files id (instances_of files key)

-- ---- words

-- The word for a bucket whose tasks are not called: it is up to date, or there is nothing to do; or
-- one of its texts has a fault, and the run fails.
abbrev pub IsIdle : (ok : Bool) → Decision → Type 0
IsIdle ok Ran = ⊥
IsIdle ok UpToDate = Unit {0}
IsIdle ok NothingToDo = Unit {0}
IsIdle ok (InPart old all) = ⊥
IsIdle ok Failed = ok ≡ false

-- how many of some words say `up to date`
abbrev pub one_if_up : Decision → ℕ
one_if_up Ran = 0
one_if_up UpToDate = 1
one_if_up NothingToDo = 0
one_if_up (InPart old all) = 0
one_if_up Failed = 0

abbrev pub up_to_date : List Decision → ℕ
up_to_date [] = 0
up_to_date (word ∷ words) = one_if_up word + up_to_date words

-- ---- runs

module _ (tools : Name → ToolInput → ToolAnswer) (files : List File) where
  -- the pieces of a run in an incremental build
  abbrev pub pieces_met : UsedTarget → Scope → RunId → Journal → List Piece
  pieces_met target scope id from =
      let run : Run = run_at files id target in
      pieces_of tools id (choice_of Incremental run) run scope from

  -- Each piece of a run is skipped. The body does nothing but to say its outcome: it writes and
  -- removes no file, uses no tool and calls nothing. And its record says `up to date` once for each
  -- piece.
  pub record IsSkipped (target : UsedTarget) (scope : Scope) (id : RunId) (from : Journal)
      (made : Record) : Type 0 where
    pub outcome : Outcome
    pub at_once : body Incremental (run_at files id target) scope from ≡ makes outcome
    pub made_so : made ≡ recorded outcome []
    pub skips : (p : Piece) → In p (pieces_met target scope id from) →
        choice_of Incremental (run_at files id target) p.lists p.from ≡ Skip
    pub words : (word : Decision) → In word made.decisions → IsIdle made.ok word
    pub as_many : up_to_date made.decisions ≡ length (pieces_met target scope id from)

  -- the record is that of such a run, in some scope and from some journal
  pub record IsOfSkipped (target : UsedTarget) (id : RunId) (made : Record) : Type 0 where
    pub scope : Scope
    pub from : Journal
    pub skipped : IsSkipped target scope id from made

  -- so of the runs of targets with Inputs and Outputs
  abbrev pub SkippedAt : Option UsedTarget → Scope → RunId → Journal → Record → Type 0
  SkippedAt None scope id from made = Unit {0}
  SkippedAt (Some target) scope id from made =
      TakesLists target → IsSkipped target scope id from made
