-- Whatever is chosen for the piece, the run calls nothing, and no file is too large.
use Rattle.std.proofs.Common.{
  ◌≡◌,
  ℕ,
  Bool,
  true,
  false,
  List,
  [],
  ◌∷◌,
  None,
  Option,
  Some,
  refl,
  ap,
  sym,
  ◌∙◌,
  subst,
}
use Rattle.std.specs.Prelude.{codes}
use Rattle.std.specs.Str.{chars}
use Rattle.caseless.specs.Caseless.{default_case_fold as fold_case}
use Rattle.ucd_case.specs.CaseFolding.{full_folding as folding}
use Rattle.ucd_table.specs.Rows.{value_in}
use Rattle.ucd_case.specs.FullFoldingRows.{full_folding_rows as rows}
use Rattle.msb_values.specs.declared.change.Change.TheVariants.{AddItems}
use Rattle.msb_values.specs.declared.item.Item.{Item}
use Rattle.msb_values.specs.declared.note.Note.{Note}
use Rattle.msb_values.specs.declared.act.Act.{Act}
use Rattle.msb_expression.specs.Machine.{run as read_on}
use Rattle.file_store.specs.declared.tree.File.{File}
use Rattle.result_cache.specs.declared.record.Decision.{Decision}
use Rattle.result_cache.specs.declared.record.Decision.TheVariants.{
  Ran,
  UpToDate,
  Part as InPart,
}
use Rattle.result_cache.specs.Journal.{Journal}
use Rattle.result_cache.specs.Lists.{In}
use Rattle.result_cache.specs.Same.{same_run, same_instance}
use Rattle.build_meaning.specs.Walk.{Outcome}
use Rattle.build_incremental.specs.Alike.{AlikeJournals}
use Rattle.task_trait.specs.declared.tools.ToolAnswer.{ToolAnswer}
use Rattle.task_trait.specs.declared.tools.ToolInput.{ToolInput}
use Rattle.target_incremental.specs.declared.decision.Choice.{Choice}
use Rattle.target_incremental.specs.declared.decision.Choice.TheVariants.{
  Run as RunAll,
  Skip,
  Nothing,
  Part,
}
use Rattle.target_texts.specs.Lists.{Lists}
use Rattle.target_body.specs.States.{Run, State}
use Rattle.target_body.specs.Bodies.{work_by}
use Rattle.target_body.specs.Pieces.{Chooser}
use Rattle.build_declared.specs.Declared.{IsNotTooLarge, MayChoose}
use Rattle.build_declared.specs.Ends.{End, end_of}
use Rattle.build_declared.specs.Sublists.{ArePart, kept}
use Rattle.build_declared.specs.Written.{bytes_in, AnyPath}
use Rattle.build_declared.proofs.Looks.{looks-same}
use Rattle.build_declared.proofs.SameRuns.{work-twin}
use Rattle.build_declared.proofs.Twins.{AlikeWork}
use Rattle.declared_witness.proofs.Facts.{steps_of, ends-so, of-part}
use Rattle.declared_witness.proofs.Pieces.{lists, begins, run_over}
use Rattle.declared_witness.specs.ThreeCopies.{
  sources,
  objects,
  scope,
  files_with,
  run,
  first_act,
  second_act,
  third_act,
}

-- how the run comes to its end where this is chosen
abbrev pub outcome_as : Decision → Outcome
outcome_as decision = record {
  ok = true;
  decisions = decision ∷ [];
  items = objects;
  changes = AddItems (codes "o") objects ∷ [];
  notes = [];
}

abbrev always : Choice → Chooser
always choice l s = choice

module _ (bytes : List ℕ) (stamp : ℕ) where
  abbrev tree : List File
  tree = files_with bytes stamp

  abbrev over_tree : Run
  over_tree = run_over bytes stamp

  abbrev GoesAs : Choice → List Act → Decision → Type 0
  GoesAs choice acts decision =
      work_by (always choice) over_tree scope [] ≡ steps_of acts (outcome_as decision)

  all-go : GoesAs RunAll (first_act ∷ second_act ∷ third_act ∷ []) Ran
  unfolding same_run same_instance read_on fold_case folding value_in rows chars
  all-go = refl

  none-go : GoesAs Skip [] UpToDate
  unfolding same_run same_instance read_on fold_case folding value_in rows chars
  none-go = refl

  abbrev PartGoes : List Bool → List Act → Decision → Type 0
  PartGoes marks acts decision = GoesAs (Part (kept marks sources)) acts decision

  first-goes : PartGoes (true ∷ false ∷ false ∷ []) (first_act ∷ []) (InPart 1 3)
  unfolding same_run same_instance read_on fold_case folding value_in rows chars
  first-goes = refl

  second-goes : PartGoes (false ∷ true ∷ false ∷ []) (second_act ∷ []) (InPart 1 3)
  unfolding same_run same_instance read_on fold_case folding value_in rows chars
  second-goes = refl

  third-goes : PartGoes (false ∷ false ∷ true ∷ []) (third_act ∷ []) (InPart 1 3)
  unfolding same_run same_instance read_on fold_case folding value_in rows chars
  third-goes = refl

  not-third-go : PartGoes (true ∷ true ∷ false ∷ []) (first_act ∷ second_act ∷ []) (InPart 2 3)
  unfolding same_run same_instance read_on fold_case folding value_in rows chars
  not-third-go = refl

  not-second-go : PartGoes (true ∷ false ∷ true ∷ []) (first_act ∷ third_act ∷ []) (InPart 2 3)
  unfolding same_run same_instance read_on fold_case folding value_in rows chars
  not-second-go = refl

  not-first-go : PartGoes (false ∷ true ∷ true ∷ []) (second_act ∷ third_act ∷ []) (InPart 2 3)
  unfolding same_run same_instance read_on fold_case folding value_in rows chars
  not-first-go = refl

  module _ (tools : List ℕ → ToolInput → ToolAnswer) where
    abbrev NeverBy : Chooser → Journal → Type 0
    NeverBy choose from = (end : End Outcome)
        × (end_of tools run (work_by choose over_tree scope from) from [] ≡ Some end)
        × ((note : Note) → In note end.value.notes → IsNotTooLarge tools run over_tree note)

    module _ (from : Journal) (alike : AlikeJournals (bytes_in tree) AnyPath from []) where
      abbrev Never : Choice → Type 0
      Never choice = NeverBy (always choice) from

      by-choice : (choice : Choice) (acts : List Act) (decision : Decision) →
          GoesAs choice acts decision → Never choice
      by-choice choice acts decision goes =
          let t = subst (λ z. AlikeWork (bytes_in tree) AnyPath (λ (o p : Outcome). o ≡ p)
          (work_by (always choice) over_tree scope from) z) goes
          (work-twin over_tree AnyPath (looks-same tree AnyPath)
          (always choice) (always choice) (λ bucket l s u h e. refl) scope from [] alike) in
          let x = ends-so (bytes_in tree) tools run
          (work_by (always choice) over_tree scope from) acts
          (outcome_as decision) from [] t in (
            x.0,
            x.1,
            λ note i. absurd (subst (λ (notes : List Note). In note notes)
                (ap (λ (o : Outcome). o.notes) x.2) i),
          )

      by-part : (marks : List Bool) → ArePart marks sources → Never (Part (kept marks sources))
      by-part = of-part (λ marks. Never (Part (kept marks sources)))
          (by-choice (Part (kept (true ∷ false ∷ false ∷ []) sources)) (first_act ∷ []) (InPart 1 3)
          first-goes)
          (by-choice (Part (kept (false ∷ true ∷ false ∷ []) sources)) (second_act ∷ [])
          (InPart 1 3) second-goes)
          (by-choice (Part (kept (false ∷ false ∷ true ∷ []) sources)) (third_act ∷ []) (InPart 1 3)
          third-goes)
          (by-choice (Part (kept (true ∷ true ∷ false ∷ []) sources)) (first_act ∷ second_act ∷ [])
          (InPart 2 3) not-third-go)
          (by-choice (Part (kept (true ∷ false ∷ true ∷ []) sources)) (first_act ∷ third_act ∷ [])
          (InPart 2 3) not-second-go)
          (by-choice (Part (kept (false ∷ true ∷ true ∷ []) sources)) (second_act ∷ third_act ∷ [])
          (InPart 2 3) not-first-go)

      abbrev items_in : Option (List ℕ × List Item) → List Item
      items_in None = []
      items_in (Some typed) = typed.1

      whichever : (choice : Choice) → MayChoose tools run over_tree lists choice → Never choice
      whichever RunAll may =
          by-choice RunAll (first_act ∷ second_act ∷ third_act ∷ []) Ran all-go
      whichever Skip may = by-choice Skip [] UpToDate none-go
      whichever Nothing may = absurd (apart may)
        where
          apart : RunAll ≡ Nothing → ⊥
          apart g = cc
      whichever (Part old) may =
          let e : sources ≡ may.1 = ap items_in may.3 in
          subst (λ z. Never (Part z)) (sym (may.5 ∙ ap (kept may.2) (sym e)))
          (by-part may.2 (subst (λ (z : List Item). ArePart may.2 z) (sym e) may.4))

    -- the run has an end without a failure of that kind
    pub never-large : (from : Journal) →
        AlikeJournals (bytes_in tree) AnyPath from [] → (choose : Chooser) →
        ((l : Lists) (s : State) → MayChoose tools run over_tree l (choose l s)) →
        NeverBy choose from
    unfolding read_on
    never-large from alike choose may =
        whichever from alike (choose lists (begins from)) (may lists (begins from))
