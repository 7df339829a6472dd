-- The worked set is declared.
use Rattle.std.proofs.Common.{
  ◌≡◌,
  ℕ,
  Bool,
  true,
  false,
  inl,
  inr,
  List,
  [],
  ◌∷◌,
  map,
  None,
  Option,
  Some,
  is_some,
  refl,
  ap,
  sym,
  ◌∙◌,
  subst,
}
use Rattle.std.specs.Prelude.{Result}
use Rattle.std.specs.Str.{chars}
use Rattle.caseless.specs.Caseless.{default_case_fold as fold_case}
use Rattle.ucd_case.specs.CaseFolding.{full_folding as folding}
use Rattle.ucd_table.specs.Rows.{value_in}
use Rattle.ucd_case.specs.FullFoldingRows.{full_folding_rows as rows}
use Rattle.msb_values.specs.Acts.{act_path}
use Rattle.msb_values.specs.declared.act.Act.{Act}
use Rattle.msb_values.specs.declared.act.Act.TheVariants.{Remove}
use Rattle.msb_values.specs.declared.item.Item.{Item}
use Rattle.msb_values.specs.declared.mode.Mode.TheVariants.{Clean}
use Rattle.msb_values.specs.declared.note.Note.{Note}
use Rattle.msb_expression.specs.Machine.{run as read_on}
use Rattle.result_cache.specs.Lists.{In}
use Rattle.result_cache.specs.Same.{same_run, same_instance}
use Rattle.result_cache.proofs.RunTests.{tells}
use Rattle.build_world.specs.Elements.{children_of}
use Rattle.build_incremental.specs.Alone.{last_bytes}
use Rattle.build_incremental.specs.Joins.{IsOfOneRun}
use Rattle.task_trait.specs.declared.tools.ToolAnswer.{ToolAnswer}
use Rattle.task_trait.specs.declared.tools.ToolInput.{ToolInput}
use Rattle.target_body.specs.States.{Run, State, Stopped}
use Rattle.build_declared.specs.CalledTasks.{Called, calls_of, ReturnsGiven}
use Rattle.build_declared.specs.Declared.{
  PartIsDeclared,
  SucceedsWith,
  PieceIsDeclared,
  DeclaredBy,
  DeclaredAt,
  IsDeclared,
}
use Rattle.build_declared.specs.Ends.{End}
use Rattle.build_declared.specs.Pieces.{Piece, ByItems}
use Rattle.build_declared.specs.Sublists.{ArePart, kept}
use Rattle.build_declared.specs.Written.{since, is_one_of}
use Rattle.declared_witness.proofs.Choices.{never-large}
use Rattle.declared_witness.proofs.Computed.{clean-whole, steady}
use Rattle.declared_witness.proofs.Derivations.{clean-each}
use Rattle.declared_witness.proofs.Facts.{EachPath, at-one, acted-on, of-part}
use Rattle.declared_witness.proofs.Pieces.{
  lists,
  piece,
  run_over,
  state_in,
  acts_in,
  EndsWell,
  pieces-so,
  whole,
  part,
}
use Rattle.declared_witness.specs.ThreeCopies.{
  sources,
  target,
  scope,
  files_with,
  world,
  run,
  first_act,
  second_act,
  third_act,
  clean_record,
  clean_journal,
  clean_given,
}

abbrev pub outputs : List (List ℕ)
outputs = lists.outputs

-- what the whole does, the newest first
abbrev pub all_acts : List Act
all_acts = third_act ∷ second_act ∷ first_act ∷ []

abbrev paths_of : List Act → List (List ℕ)
paths_of acts = map act_path acts

abbrev IsListed : List (List ℕ) → List ℕ → Type 0
IsListed paths path = is_one_of path paths ≡ true

all-written : (path : List ℕ) → is_some (last_bytes all_acts path) ≡ is_one_of path outputs
all-written path = elim (tells (is_one_of path outputs)) [
  | inl e ↦ at-one (λ z. is_some (last_bytes all_acts z) ≡ true) outputs
      (refl, (refl, (refl, tt))) path e ∙ sym e
  | inr n ↦ ap is_some (acted-on all_acts outputs (refl, (refl, (refl, tt))) path n) ∙ sym n
]

none-removed : (path : List ℕ) → In (Remove path) all_acts → ⊥
none-removed path (inl e) = absurd (cc)
none-removed path (inr (inl e)) = absurd (cc)
none-removed path (inr (inr (inl e))) = absurd (cc)
none-removed path (inr (inr (inr i))) = absurd i

module _ (bytes : List ℕ) (stamp : ℕ) (tools : List ℕ → ToolInput → ToolAnswer) where
  abbrev over_tree : Run
  over_tree = run_over bytes stamp

  abbrev whole_state : State
  whole_state = state_in (whole bytes stamp tools)

  abbrev Ends : Type 0
  Ends = Option (End (Result State Stopped))

  -- what the piece comes to where it succeeds
  pub acts-so : (t : State) (acts : List Act) → SucceedsWith tools run over_tree piece t acts →
      all_acts ≡ acts
  unfolding same_run same_instance read_on fold_case folding value_in rows chars
  acts-so t acts e = ap acts_in e

  state-so : (t : State) (acts : List Act) → SucceedsWith tools run over_tree piece t acts →
      whole_state ≡ t
  state-so t acts e = ap state_in e

  no-outputs : (c : Called) → In c (calls_of tools run over_tree
      (children_of target.element) piece.from piece.before) →
      ReturnsGiven tools run over_tree c
  unfolding same_run same_instance read_on fold_case folding value_in rows chars
  no-outputs c (inl e) =
      subst (λ (z : Called). ReturnsGiven tools run over_tree z) e (λ o i. absurd i)
  no-outputs c (inr i) = absurd i

  -- ---- parts

  -- a part that has done these acts
  module _ (marks : List Bool) (acts : List Act) where
    abbrev of_marks : List (List ℕ)
    of_marks = kept marks outputs

    abbrev PartSays : Type 0
    PartSays = EndsWell (part bytes stamp tools marks)
        × (acts_in (part bytes stamp tools marks) ≡ acts)
        × ((state_in (part bytes stamp tools marks)).notes ≡ [])
        × ((state_in (part bytes stamp tools marks)).changes ≡ whole_state.changes)
        × ((state_in (part bytes stamp tools marks)).items ≡ whole_state.items)

    part-by : PartSays →
        EachPath (λ path. last_bytes (since [] acts) path ≡ last_bytes (since [] all_acts) path)
        of_marks →
        EachPath (IsListed of_marks) (paths_of (since [] acts)) →
        PartIsDeclared tools run over_tree piece whole_state all_acts sources marks
    part-by says same own = record {
      after = state_in (part bytes stamp tools marks);
      acts = acts_in (part bytes stamp tools marks);
      succeeds = says.0;
      bytes = λ path e. ap (λ (ps : List Act). last_bytes (since [] ps) path) says.1
          ∙ at-one (λ z. last_bytes (since [] acts) z ≡ last_bytes (since [] all_acts) z) of_marks
          same path e;
      no_other = λ path e. ap (λ (ps : List Act). last_bytes (since [] ps) path) says.1
          ∙ acted-on (since [] acts) of_marks own path e;
      never_large = λ note i. absurd (subst (λ (notes : List Note). In note notes) says.2 i);
      changes = λ there. (says.3, says.4);
    }

  abbrev PartIsSo : List Bool → Type 0
  PartIsSo marks =
      PartIsDeclared tools run over_tree piece whole_state all_acts sources marks

  first-says : PartSays (true ∷ false ∷ false ∷ []) (first_act ∷ [])
  unfolding same_run same_instance read_on fold_case folding value_in rows chars
  first-says = (refl, refl, refl, refl, refl)

  first-is : PartIsSo (true ∷ false ∷ false ∷ [])
  first-is = part-by (true ∷ false ∷ false ∷ [])
      (first_act ∷ []) first-says (refl, tt) (refl, tt)

  second-says : PartSays (false ∷ true ∷ false ∷ []) (second_act ∷ [])
  unfolding same_run same_instance read_on fold_case folding value_in rows chars
  second-says = (refl, refl, refl, refl, refl)

  second-is : PartIsSo (false ∷ true ∷ false ∷ [])
  second-is = part-by (false ∷ true ∷ false ∷ [])
      (second_act ∷ []) second-says (refl, tt) (refl, tt)

  third-says : PartSays (false ∷ false ∷ true ∷ []) (third_act ∷ [])
  unfolding same_run same_instance read_on fold_case folding value_in rows chars
  third-says = (refl, refl, refl, refl, refl)

  third-is : PartIsSo (false ∷ false ∷ true ∷ [])
  third-is = part-by (false ∷ false ∷ true ∷ [])
      (third_act ∷ []) third-says (refl, tt) (refl, tt)

  not-third-says : PartSays (true ∷ true ∷ false ∷ []) (second_act ∷ first_act ∷ [])
  unfolding same_run same_instance read_on fold_case folding value_in rows chars
  not-third-says = (refl, refl, refl, refl, refl)

  not-third-is : PartIsSo (true ∷ true ∷ false ∷ [])
  not-third-is = part-by (true ∷ true ∷ false ∷ [])
      (second_act ∷ first_act ∷ []) not-third-says (refl, (refl, tt)) (refl, (refl, tt))

  not-second-says : PartSays (true ∷ false ∷ true ∷ []) (third_act ∷ first_act ∷ [])
  unfolding same_run same_instance read_on fold_case folding value_in rows chars
  not-second-says = (refl, refl, refl, refl, refl)

  not-second-is : PartIsSo (true ∷ false ∷ true ∷ [])
  not-second-is = part-by (true ∷ false ∷ true ∷ [])
      (third_act ∷ first_act ∷ []) not-second-says (refl, (refl, tt)) (refl, (refl, tt))

  not-first-says : PartSays (false ∷ true ∷ true ∷ []) (third_act ∷ second_act ∷ [])
  unfolding same_run same_instance read_on fold_case folding value_in rows chars
  not-first-says = (refl, refl, refl, refl, refl)

  not-first-is : PartIsSo (false ∷ true ∷ true ∷ [])
  not-first-is = part-by (false ∷ true ∷ true ∷ [])
      (third_act ∷ second_act ∷ []) not-first-says (refl, (refl, tt)) (refl, (refl, tt))

  part-so : (marks : List Bool) → ArePart marks sources → PartIsSo marks
  part-so = of-part PartIsSo first-is second-is third-is not-third-is not-second-is not-first-is

  abbrev items_in : Option (List ℕ × List Item) → List Item
  items_in None = []
  items_in (Some typed) = typed.1

  parts-so : (t : State) (acts : List Act) → SucceedsWith tools run over_tree piece t acts →
      (items : List Item) → ByItems piece items → (marks : List Bool) → ArePart marks items →
      PartIsDeclared tools run over_tree piece t acts items marks
  parts-so t acts e items by marks some =
      let same : sources ≡ items = ap items_in by.typed in
      subst (λ (z : State). PartIsDeclared tools run over_tree piece z acts items marks)
      (state-so t acts e)
      (subst (λ (z : List Act). PartIsDeclared tools run over_tree piece whole_state z items marks)
      (acts-so t acts e)
      (subst (λ (z : List Item).
      PartIsDeclared tools run over_tree piece whole_state all_acts z marks) same
      (part-so marks (subst (λ (z : List Item). ArePart marks z) (sym same) some))))

  -- ---- the piece, the run and the world

  piece-is : PieceIsDeclared tools run over_tree piece
  piece-is = record {
    returns_given = no-outputs;
    writes_outputs = λ t acts e path.
        subst (λ (z : List Act). is_some (last_bytes (since [] z) path) ≡ is_one_of path outputs)
        (acts-so t acts e) (all-written path);
    removes_none = λ t acts e path i. none-removed path
        (subst (λ (z : List Act). In (Remove path) (since [] z)) (sym (acts-so t acts e)) i);
    parts = parts-so;
  }

  each-piece : (p : Piece) → In p (piece ∷ []) → PieceIsDeclared tools run over_tree p
  each-piece p (inl e) = subst (λ (z : Piece). PieceIsDeclared tools run over_tree z) e piece-is
  each-piece p (inr i) = absurd i

  run-is : DeclaredBy tools run over_tree scope [] (piece ∷ [])
  run-is = record { never_large = never-large bytes stamp tools; each = each-piece }

  at-run : DeclaredAt tools (files_with bytes stamp) (Some target) scope run []
  at-run = subst (λ (pieces : List Piece). DeclaredBy tools run over_tree scope [] pieces)
      (sym (pieces-so bytes stamp tools)) run-is

  pub declared : IsDeclared tools (files_with bytes stamp)
      (world tools (files_with bytes stamp) Clean) clean_given
  declared = record {
    whole = clean-whole tools bytes stamp;
    steady = steady clean_record clean_journal;
    each = clean-each tools (λ site id journal made.
        DeclaredAt tools (files_with bytes stamp) site.target site.scope id journal) IsOfOneRun
        bytes stamp at-run;
  }
