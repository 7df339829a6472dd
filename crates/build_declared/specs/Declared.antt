-- Declared worlds: what a clean build of them does says what an incremental one may leave out.
-- (Target element; Incremental builds)
use Rattle.std.specs.Prelude.{
  ◌≡◌,
  Bool,
  true,
  false,
  not,
  List,
  [],
  ◌∷◌,
  map,
  Option,
  None,
  Some,
  IsSome,
  is_some,
  Ok,
}
use Rattle.msb_laws.specs.Words.{Text, Name, Path}
use Rattle.msb_values.specs.declared.item.Item.{Item}
use Rattle.msb_values.specs.declared.note.Note.{Note}
use Rattle.msb_values.specs.declared.note.Note.TheVariants.{Fail, Warning}
use Rattle.msb_values.specs.declared.act.Act.{Act}
use Rattle.msb_values.specs.declared.act.Act.TheVariants.{Remove}
use Rattle.msb_values.specs.declared.scope.Scope.{Scope}
use Rattle.file_store.specs.declared.tree.File.{File}
use Rattle.result_cache.specs.declared.run.RunId.{RunId}
use Rattle.result_cache.specs.declared.request.RequestResult.{RequestResult}
use Rattle.result_cache.specs.Lists.{In}
use Rattle.result_cache.specs.Journal.{Journal}
use Rattle.build_world.specs.Elements.{children_of}
use Rattle.build_world.specs.Instances.{UsedTarget}
use Rattle.build_meaning.specs.Walk.{Outcome}
use Rattle.build_meaning.specs.Meaning.{Given}
use Rattle.build_meaning.specs.Demand.{IsWhole, IsSteady}
use Rattle.build_meaning.specs.Derived.{EachOfMeaning}
use Rattle.build_meaning.specs.World.{World}
use Rattle.build_incremental.specs.Joins.{IsOfOneRun}
use Rattle.build_incremental.specs.Alike.{AlikeJournals}
use Rattle.build_incremental.specs.Alone.{last_bytes}
use Rattle.task_trait.specs.Failures.{failure_text}
use Rattle.task_trait.specs.declared.failures.Failure.TheVariants.{TooLarge}
use Rattle.task_trait.specs.declared.tools.ToolAnswer.{ToolAnswer}
use Rattle.task_trait.specs.declared.tools.ToolInput.{ToolInput}
use Rattle.target_incremental.specs.declared.decision.Choice.{Choice}
use Rattle.target_incremental.specs.declared.decision.Choice.TheVariants.{
  Run as RunAll,
  Skip,
  Nothing,
  Part,
}
use Rattle.msb_files.specs.Views as views
use Rattle.target_texts.specs.Lists.{Lists}
use Rattle.target_body.specs.States.{Run, State, view_of, run_at}
use Rattle.target_body.specs.Bodies.{work_by}
use Rattle.target_body.specs.Pieces.{Chooser}
use Rattle.request_machine.specs.Walk.{Site}
use Rattle.build_declared.specs.CalledTasks.{Called, calls_of, ReturnsGiven}
use Rattle.build_declared.specs.Sublists.{ArePart, kept}
use Rattle.build_declared.specs.Written.{bytes_in, AnyPath, since, is_one_of}
use Rattle.build_declared.specs.Chosen.{all_or_nothing, all_of}
use Rattle.build_declared.specs.Ends.{End, end_of}
use Rattle.build_declared.specs.Pieces.{Piece, ByItems, pieces_of, end_of_piece}

-- ---- a piece

module _ (tools : Name → ToolInput → ToolAnswer) (id : RunId) (run : Run) where
  -- no note says that a file is too large
  abbrev pub IsNotTooLarge : Note → Type 0
  IsNotTooLarge (Fail text) =
      (task path : Text) → text ≡ failure_text task (TooLarge path) → ⊥
  IsNotTooLarge (Warning text) =
      (task path : Text) → text ≡ failure_text task (TooLarge path) → ⊥
  IsNotTooLarge note = Unit {0}

  -- A part of the items of a piece, of which the whole comes to the state t with these acts of the
  -- run. Where the tasks run on the part alone, the piece succeeds and calls nothing; it writes
  -- just the outputs of these items, with the bytes of the whole; no file is too large; and, where
  -- the outputs of the other items are there, it changes and returns what the whole does.
  pub record PartIsDeclared (p : Piece) (t : State) (whole : List Act) (items : List Item)
      (marks : List Bool) : Type 0 where
    pub after : State
    pub acts : List Act
    pub succeeds : end_of_piece tools id run p (Part (kept marks items))
        ≡ Some (record { value = Ok after; journal = after.journal; acts = acts })
    pub bytes : (path : Path) → is_one_of path (kept marks p.lists.outputs) ≡ true →
        last_bytes (since p.before acts) path ≡ last_bytes (since p.before whole) path
    pub no_other : (path : Path) → is_one_of path (kept marks p.lists.outputs) ≡ false →
        last_bytes (since p.before acts) path ≡ None
    pub never_large : (note : Note) → In note after.notes → IsNotTooLarge note
    pub changes : ((path : Path) → is_one_of path (kept (map not marks) p.lists.outputs) ≡ true →
        IsSome (views.content (view_of run p.from) path)) →
        (after.changes ≡ t.changes) × (after.items ≡ t.items)

  -- Where the piece succeeds with this state, these are the acts of the run then.
  abbrev pub SucceedsWith : Piece → State → List Act → Type 0
  SucceedsWith p t acts = end_of_piece tools id run p RunAll
      ≡ Some (record { value = Ok t; journal = t.journal; acts = acts })

  -- The tasks of a piece return the lists that its Output elements name; it writes its outputs and
  -- no other path, and removes none; and where it takes its items one by one, each part of them is
  -- declared.
  pub record PieceIsDeclared (p : Piece) : Type 0 where
    pub returns_given : (c : Called) →
        In c (calls_of tools id run (children_of run.target.element) p.from p.before) →
        ReturnsGiven tools id run c
    pub writes_outputs : (t : State) (acts : List Act) → SucceedsWith p t acts →
        (path : Path) →
        is_some (last_bytes (since p.before acts) path) ≡ is_one_of path p.lists.outputs
    pub removes_none : (t : State) (acts : List Act) → SucceedsWith p t acts →
        (path : Path) → In (Remove path) (since p.before acts) → ⊥
    pub parts : (t : State) (acts : List Act) → SucceedsWith p t acts →
        (items : List Item) → ByItems p items → (marks : List Bool) → ArePart marks items →
        PartIsDeclared p t acts items marks

  -- ---- a run

  -- what may be chosen for a bucket: nothing where there is nothing to do, else all, none or some
  -- of its items
  abbrev pub MayChoose : Lists → Choice → Type 0
  MayChoose lists RunAll = all_or_nothing lists.inputs lists.outputs ≡ RunAll
  MayChoose lists Skip = all_or_nothing lists.inputs lists.outputs ≡ RunAll
  MayChoose lists Nothing = all_or_nothing lists.inputs lists.outputs ≡ Nothing
  MayChoose lists (Part old) = (kind : Name) × (items : List Item) × (marks : List Bool)
      × (lists.items ≡ Some (kind, items)) × ArePart marks items × (old ≡ kept marks items)

  -- A run that has a piece calls nothing, and no task of it fails because a file is too large,
  -- whichever of its pieces are skipped or run in part. The journal from which this is said makes
  -- no difference but to what is chosen, where the journals are alike.
  pub record RunIsDeclared (scope : Scope) (journal : Journal) (pieces : List Piece) : Type 0 where
    pub never_large : (from : Journal) →
        AlikeJournals (bytes_in run.files) AnyPath from journal → (choose : Chooser) →
        ((lists : Lists) (s : State) → MayChoose lists (choose lists s)) →
        (end : End Outcome)
        × (end_of tools id (work_by choose run scope from) from [] ≡ Some end)
        × ((note : Note) → In note end.value.notes → IsNotTooLarge note)
    pub each : (p : Piece) → In p pieces → PieceIsDeclared p

  -- nothing is asked of a run without a piece
  abbrev pub DeclaredBy : Scope → Journal → List Piece → Type 0
  DeclaredBy scope journal [] = Unit {0}
  DeclaredBy scope journal (p ∷ pieces) = RunIsDeclared scope journal (p ∷ pieces)

-- ---- a world

module _ (tools : Name → ToolInput → ToolAnswer) (files : List File) where
  -- the pieces of a run in a clean build
  abbrev pub clean_pieces : Option UsedTarget → Scope → RunId → Journal → List Piece
  clean_pieces None scope id journal = []
  clean_pieces (Some target) scope id journal =
      pieces_of tools id all_of (run_at files id target) scope journal

  abbrev pub DeclaredAt : Option UsedTarget → Scope → RunId → Journal → Type 0
  DeclaredAt None scope id journal = Unit {0}
  DeclaredAt (Some target) scope id journal =
      DeclaredBy tools id (run_at files id target) scope journal
      (clean_pieces (Some target) scope id journal)

  -- The clean world is whole and steady; each of its bodies is declared; and where calls made at
  -- once write or remove one path, all their acts on it are of one run.
  pub record IsDeclared (clean : World Site ToolInput ToolAnswer)
      (out : Given Site ToolInput RequestResult) : Type 0 where
    pub whole : IsWhole clean out
    pub steady : IsSteady out.demand
    pub each : EachOfMeaning clean
        (λ site id journal made. DeclaredAt site.target site.scope id journal)
        IsOfOneRun (λ key. Unit {0}) out.value out.journal
