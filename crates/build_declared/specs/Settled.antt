-- Settled worlds: what a piece reads is written before it begins, and on what it writes nobody acts
-- later. (Incremental builds)
use Rattle.std.specs.Prelude.{
  ℕ,
  ◌≡◌,
  ◌<◌,
  ◌≤◌,
  ◌⊎◌,
  true,
  List,
  [],
  length,
  Option,
  None,
  Some,
  IsSome,
  Ok,
}
use Rattle.msb_laws.specs.Words.{Name, Path}
use Rattle.msb_values.specs.Acts.{act_path}
use Rattle.msb_values.specs.declared.mode.Mode.{Mode}
use Rattle.msb_values.specs.declared.act.Act.{Act}
use Rattle.file_store.specs.declared.tree.File.{File}
use Rattle.result_cache.specs.declared.run.RunId.{RunId}
use Rattle.result_cache.specs.declared.record.Segment.TheVariants.{File as OnFile}
use Rattle.result_cache.specs.Lists.{In}
use Rattle.result_cache.specs.Journal.{Journal, acted, act_of, has}
use Rattle.build_world.specs.Instances.{UsedTarget}
use Rattle.build_meaning.specs.Meaning.{Demanded}
use Rattle.task_trait.specs.declared.tools.ToolAnswer.{ToolAnswer}
use Rattle.task_trait.specs.declared.tools.ToolInput.{ToolInput}
use Rattle.msb_files.specs.Views as views
use Rattle.target_body.specs.States.{Run, State, run_at}
use Rattle.target_body.specs.Pieces.{choice_of}
use Rattle.request_machine.specs.Walk.{Site}
use Rattle.build_declared.specs.Occurrences.{Occurrence, Occurs}
use Rattle.build_declared.specs.Pieces.{Piece, pieces_of, end_of_piece}

module _ (tools : Name → ToolInput → ToolAnswer) (files : List File) (mode : Mode) where
  -- the pieces of a body, where each is done as this mode decides
  abbrev pub pieces_by : Option UsedTarget → Occurrence → List Piece
  pieces_by None o = []
  pieces_by (Some target) o =
      let run : Run = run_at files o.run target in
      pieces_of tools o.run (choice_of mode run) run o.site.scope o.from

  abbrev pub pieces_at : Occurrence → List Piece
  pieces_at o = pieces_by o.site.target o

  -- an input or an output of the piece
  abbrev pub is_of : Name → Piece → Type 0
  is_of path p = In path p.lists.inputs ⊎ In path p.lists.outputs

  -- a run without a piece writes or removes no input and no output of a piece
  abbrev pub FreeRunsKeepOff : List (Demanded Site ToolInput) → Type 0
  FreeRunsKeepOff demand = (o other : Occurrence) → Occurs demand o → Occurs demand other →
      pieces_at o ≡ [] → (p : Piece) → In p (pieces_at other) →
      (act : Act) → In (OnFile act) o.made.segments → is_of (act_path act) p → ⊥

  -- as it is decided, the piece succeeds, and these are the acts of the run then
  abbrev pub Succeeds : Option UsedTarget → Occurrence → Piece → (acts : List Act) → Type 0
  Succeeds None o p acts = ⊥
  Succeeds (Some target) o p acts =
      let run : Run = run_at files o.run target in
      (t : State) × (end_of_piece tools o.run run p (choice_of mode run p.lists p.from)
      ≡ Some (record { value = Ok t; journal = t.journal; acts = acts }))

  -- an act had been done when the piece began, at each occurrence of its run: by the run itself, or
  -- before the run began
  abbrev pub Stood : List (Demanded Site ToolInput) → Occurrence → Piece → RunId → (number : ℕ) →
      Type 0
  Stood demand o p run number = ((run ≡ o.run) × (number < length p.before))
      ⊎ ((other : Occurrence) → Occurs demand other → other.run ≡ o.run →
      has (act_of run number) other.from ≡ true)

  -- The world settles, by the bodies of its meaning and by the last journal of its root: each piece
  -- succeeds, and its inputs exist; every act on an input of a piece had been done when it began,
  -- and every act on an output of it had been then or is its own; and runs without a piece keep
  -- off.
  pub record IsSettled (demand : List (Demanded Site ToolInput)) (last : Journal) : Type 0 where
    pub succeeds : (o : Occurrence) → Occurs demand o → (p : Piece) → In p (pieces_at o) →
        (acts : List Act) × Succeeds o.site.target o p acts
    pub inputs_exist : (o : Occurrence) → Occurs demand o → (p : Piece) → In p (pieces_at o) →
        (input : Path) → In input p.lists.inputs →
        IsSome (views.content (record { files = files; journal = p.from.journal }) input)
    pub inputs_stood : (o : Occurrence) → Occurs demand o → (p : Piece) → In p (pieces_at o) →
        (run : RunId) (number : ℕ) (act : Act) → In (acted run number act) last →
        In (act_path act) p.lists.inputs → Stood demand o p run number
    pub outputs_own : (o : Occurrence) → Occurs demand o → (p : Piece) → In p (pieces_at o) →
        (acts : List Act) → Succeeds o.site.target o p acts →
        (run : RunId) (number : ℕ) (act : Act) → In (acted run number act) last →
        In (act_path act) p.lists.outputs → Stood demand o p run number
        ⊎ ((run ≡ o.run) × (length p.before ≤ number) × (number < length acts))
    pub free : FreeRunsKeepOff demand
