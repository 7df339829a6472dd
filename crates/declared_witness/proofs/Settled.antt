-- The worked set is settled.
use Rattle.std.proofs.Common.{
  ◌≡◌,
  ◌<◌,
  ◌≤◌,
  ℕ,
  ◌⊎◌,
  inl,
  inr,
  List,
  [],
  ◌∷◌,
  length,
  Option,
  refl,
  ap,
  sym,
  ◌∙◌,
  subst,
  arith,
}
use Rattle.std.specs.Prelude.{IsSome, Result, codes}
use Rattle.caseless.specs.Caseless.{default_case_fold as fold_case}
use Rattle.ucd_case.specs.CaseFolding.{full_folding as folding}
use Rattle.ucd_table.specs.Rows.{value_in}
use Rattle.ucd_case.specs.FullFoldingRows.{full_folding_rows as rows}
use Rattle.msb_values.specs.Acts.{act_path}
use Rattle.msb_values.specs.declared.act.Act.{Act}
use Rattle.msb_values.specs.declared.mode.Mode.{Mode}
use Rattle.msb_values.specs.declared.mode.Mode.TheVariants.{Incremental}
use Rattle.msb_expression.specs.Machine.{run as read_on}
use Rattle.file_store.specs.declared.tree.File.{File}
use Rattle.result_cache.specs.declared.record.Record.{Record}
use Rattle.result_cache.specs.declared.run.RunId.{RunId}
use Rattle.result_cache.specs.Journal.{Journal, acted}
use Rattle.result_cache.specs.Lists.{In}
use Rattle.result_cache.specs.Same.{same_run, same_instance}
use Rattle.std.specs.Str.{chars}
use Rattle.msb_files.specs.Views as views
use Rattle.task_trait.specs.declared.tools.ToolAnswer.{ToolAnswer}
use Rattle.task_trait.specs.declared.tools.ToolInput.{ToolInput}
use Rattle.target_body.specs.Pieces.{choice_of}
use Rattle.target_body.specs.States.{Run, State, Stopped, run_at}
use Rattle.build_declared.specs.Ends.{End}
use Rattle.build_declared.specs.Occurrences.{Occurrence, Occurs}
use Rattle.build_declared.specs.Pieces.{Piece, end_of_piece}
use Rattle.build_declared.specs.Repeated.{IsSettledBuild}
use Rattle.build_declared.specs.Settled.{pieces_at, FreeRunsKeepOff, Succeeds, Stood}
use Rattle.declared_witness.proofs.Computed.{part-whole, steady, the-body}
use Rattle.declared_witness.proofs.Facts.{differ}
use Rattle.declared_witness.proofs.Pieces.{lists, piece, state_in, acts_in, settled-pieces}
use Rattle.declared_witness.specs.ThreeCopies.{
  target,
  files,
  build,
  run,
  second_act,
  part_record,
  part_journal,
  given,
  part_given,
  body_of,
}

module _ (tools : List ℕ → ToolInput → ToolAnswer) where
  abbrev body : Occurrence
  body = body_of part_record

  abbrev pieces : Occurrence → List Piece
  pieces o = pieces_at tools files Incremental o

  -- what is said of the one body and of its one piece is said of each
  of-bodies : (P : Occurrence → Piece → Type 0) → P body piece →
      (o : Occurrence) → Occurs part_given.demand o → (p : Piece) → In p (pieces o) → P o p
  of-bodies P h o there =
      subst (λ (z : Occurrence). (p : Piece) → In p (pieces z) → P z p)
      (the-body part_record part_journal o there)
      (λ p i. one p (subst (λ (ps : List Piece). In p ps) (settled-pieces tools) i))
    where
      one : (p : Piece) → In p (piece ∷ []) → P body p
      one p (inl g) = subst (P body) g h
      one p (inr k) = absurd k

  -- ---- settled

  abbrev the_run : Run
  the_run = run_at files run target

  abbrev decided : Option (End (Result State Stopped))
  decided = end_of_piece tools run the_run piece
      (choice_of Incremental the_run piece.lists piece.from)

  abbrev SucceedsSo : Occurrence → Piece → List Act → Type 0
  SucceedsSo o p acts = Succeeds tools files Incremental o.site.target o p acts

  second-copied : SucceedsSo body piece (second_act ∷ [])
  unfolding same_run same_instance read_on fold_case folding value_in rows chars
  second-copied = (state_in decided, refl)

  acts-so : (acts : List Act) → SucceedsSo body piece acts → second_act ∷ [] ≡ acts
  unfolding same_run same_instance read_on fold_case folding value_in rows chars
  acts-so acts h = ap acts_in h.1

  abbrev Exists : List ℕ → Type 0
  Exists input = IsSome (views.content
      (record { files = files; journal = piece.from.journal }) input)

  exist : (input : List ℕ) → In input lists.inputs → Exists input
  exist input (inl e) = subst Exists e refl
  exist input (inr (inl e)) = subst Exists e refl
  exist input (inr (inr (inl e))) = subst Exists e refl
  exist input (inr (inr (inr i))) = absurd i

  -- it does one act, the writing of an output
  one-act : (id : RunId) (number : ℕ) (act : Act) → In (acted id number act) part_journal →
      (run ≡ id) × (0 ≡ number) × (second_act ≡ act)
  one-act id number act (inl e) = absurd (cc)
  one-act id number act (inr (inl e)) =
      let p : run ≡ id = cc in let q : 0 ≡ number = cc in let r : second_act ≡ act = cc in (p, q, r)
  one-act id number act (inr (inr i)) = absurd i

  not-input : In (act_path second_act) lists.inputs → ⊥
  not-input (inl e) = differ (codes "1.c") (act_path second_act) refl e
  not-input (inr (inl e)) = differ (codes "2.c") (act_path second_act) refl e
  not-input (inr (inr (inl e))) = differ (codes "3.c") (act_path second_act) refl e
  not-input (inr (inr (inr i))) = absurd i

  abbrev StoodSo : Occurrence → Piece → RunId → ℕ → Type 0
  StoodSo o p id number = Stood tools files Incremental part_given.demand o p id number

  abbrev StoodInputs : Occurrence → Piece → Type 0
  StoodInputs o p = (id : RunId) (number : ℕ) (act : Act) → In (acted id number act) part_journal →
      In (act_path act) p.lists.inputs → StoodSo o p id number

  stood : StoodInputs body piece
  stood id number act i j = absurd (not-input
      (subst (λ (z : Act). In (act_path z) lists.inputs) (sym (one-act id number act i).2) j))

  abbrev OwnOutputs : Occurrence → Piece → Type 0
  OwnOutputs o p = (acts : List Act) → SucceedsSo o p acts →
      (id : RunId) (number : ℕ) (act : Act) → In (acted id number act) part_journal →
      In (act_path act) p.lists.outputs → StoodSo o p id number
      ⊎ ((id ≡ o.run) × (length p.before ≤ number) × (number < length acts))

  own : OwnOutputs body piece
  own acts h id number act i j =
      let one = one-act id number act i in
      let count : 1 ≡ length acts = ap length (acts-so acts h) in
      inr (sym one.0, least number, below number (length acts) one.1 count)
    where
      least : (n : ℕ) → 0 ≤ n
      least n = omega arith

      below : (n m : ℕ) → 0 ≡ n → 1 ≡ m → n < m
      below n m e g = omega arith

  -- runs without a piece: there is none
  pub none-free : (tree : List File) (mode : Mode) (made : Record) (journal : Journal) →
      pieces_at tools tree mode (body_of made) ≡ piece ∷ [] →
      FreeRunsKeepOff tools tree mode (given made journal).demand
  none-free tree mode made journal so o other there j none p q act w of =
      let g : piece ∷ [] ≡ [] = sym so
      ∙ (ap (λ (z : Occurrence). pieces_at tools tree mode z) (the-body made journal o there)
      ∙ none) in
      absurd (some g)
    where
      some : ◌≡◌ {A = List Piece} (piece ∷ []) [] → ⊥
      some h = cc

  pub settles : IsSettledBuild tools (build Incremental) part_given
  settles = record {
    whole = part-whole tools;
    steady = steady part_record part_journal;
    settled = record {
      succeeds = of-bodies (λ o p. (acts : List Act) × SucceedsSo o p acts)
          (second_act ∷ [], second-copied);
      inputs_exist = of-bodies (λ o p. (input : List ℕ) → In input p.lists.inputs →
          IsSome (views.content (record { files = files; journal = p.from.journal }) input)) exist;
      inputs_stood = of-bodies StoodInputs stood;
      outputs_own = of-bodies OwnOutputs own;
      free = none-free files Incremental part_record part_journal (settled-pieces tools);
    };
  }
