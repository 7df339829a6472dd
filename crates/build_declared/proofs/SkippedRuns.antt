-- A declared and fresh run of a target with Inputs and Outputs does nothing, where the outputs of
-- its pieces are no older than their inputs and nobody has acted on any of them.
use Rattle.std.proofs.Common.{
  ◌≡◌,
  ℕ,
  ◌+◌,
  inl,
  inr,
  false,
  List,
  [],
  ◌∷◌,
  length,
  Option,
  None,
  Some,
  refl,
  ap,
  sym,
  ◌∙◌,
  subst,
  arith,
}
use Rattle.std.specs.Prelude.{Result, Ok, Err}
use Rattle.msb_values.specs.declared.mode.Mode.TheVariants.{Incremental}
use Rattle.msb_values.specs.declared.act.Act.{Act}
use Rattle.msb_values.specs.declared.scope.Scope.{Scope}
use Rattle.msb_expand.specs.declared.lens.Bucket.{Bucket}
use Rattle.file_store.specs.declared.tree.File.{File}
use Rattle.result_cache.specs.declared.record.Decision.{Decision}
use Rattle.result_cache.specs.declared.record.Record.{Record}
use Rattle.result_cache.specs.declared.run.RunId.{RunId}
use Rattle.result_cache.specs.Lists.{In}
use Rattle.result_cache.specs.Journal.{Journal}
use Rattle.build_world.specs.Instances.{UsedTarget}
use Rattle.build_world.specs.declared.fault.EvalFault.{EvalFault}
use Rattle.build_meaning.specs.Walk.{Outcome, makes}
use Rattle.build_incremental.specs.Alike.{AlikeJournals}
use Rattle.build_incremental.specs.SideBySide.{HasNotActed}
use Rattle.task_trait.specs.declared.tools.ToolAnswer.{ToolAnswer}
use Rattle.task_trait.specs.declared.tools.ToolInput.{ToolInput}
use Rattle.target_incremental.specs.declared.decision.Choice.{Choice}
use Rattle.target_incremental.specs.declared.decision.Choice.TheVariants.{
  Run as RunAll,
  Skip,
  Nothing,
  Part,
}
use Rattle.target_texts.specs.Batched.{target_buckets}
use Rattle.target_texts.specs.Lists.{Lists}
use Rattle.target_body.specs.Work.{done, followed_by, unless_stopped, each_in_turn, body_of}
use Rattle.target_body.specs.States.{
  Run,
  State,
  Stopped,
  begun,
  entered,
  or_stop,
  context_in,
  outcome_of,
  run_at,
  stop_at,
}
use Rattle.target_body.specs.Pieces.{lists_at, choice_of, or_failed, bucket_by}
use Rattle.target_body.specs.Bodies.{body, buckets_by}
use Rattle.build_declared.proofs.PartEnds.{progress_in}
use Rattle.build_declared.specs.Chosen.{all_of, all_or_nothing}
use Rattle.build_declared.specs.Declared.{RunIsDeclared, DeclaredBy, DeclaredAt, clean_pieces}
use Rattle.build_declared.specs.Fresh.{PieceIsFresh, FreshAt}
use Rattle.build_declared.specs.Pieces.{Piece, piece_if, pieces_among, pieces_in}
use Rattle.build_declared.specs.Skipped.{TakesLists, IsIdle, up_to_date, pieces_met}
use Rattle.build_declared.specs.Written.{bytes_in, AnyPath}
use Rattle.build_declared.proofs.BucketsGo.{Carry, AreSo, BucketGoes}
use Rattle.build_declared.proofs.CleanOutcomes.{pieces-go}
use Rattle.build_declared.proofs.EmptyBuckets.{
  IsEmpty,
  entered-pair,
  lists-same,
  no-piece,
  none-goes,
}
use Rattle.build_declared.proofs.IdleBuckets.{
  HasIdle,
  IdleAt,
  pieces_here,
  empty-idle,
  IsNew,
  SaidNew,
  piece-idle,
  IdleAll,
  BucketIdles,
  idle-go,
}
use Rattle.build_declared.proofs.NotesStay.{bucket-keeps}
use Rattle.build_declared.proofs.RunLists.{
  in-one,
  never,
  Fine,
  piece_at,
  both-same,
  bucket-goes,
  at-start,
  buckets-same,
  takes-clean,
  both-end,
}

nothing-in : {X : Type 0} (xs : List X) → ((x : X) → In x xs → ⊥) → xs ≡ []
nothing-in [] h = refl
nothing-in (x ∷ xs) h = absurd (h x (inl refl))

words-of : (r : Result State Stopped) → HasIdle r → (word : Decision) →
    In word (outcome_of r).decisions → IsIdle (outcome_of r).ok word
words-of (Ok s) h = h
words-of (Err d) h = h

decisions-of : (r : Result State Stopped) → (outcome_of r).decisions ≡ (progress_in r).decisions
decisions-of (Ok s) = refl
decisions-of (Err d) = refl

module _ (tools : List ℕ → ToolInput → ToolAnswer) (files : List File) (target : UsedTarget)
    (scope : Scope) (id : RunId) (j k : Journal) (made : Record)
    (a : AlikeJournals (bytes_in files) AnyPath j k) (takes : TakesLists target)
    (fw : HasNotActed id j) (fc : HasNotActed id k) where
  abbrev run : Run
  run = run_at files id target

  abbrev s0 : State
  s0 = begun scope j

  abbrev t0 : State
  t0 = begun scope k

  -- the body of the run does nothing but to say its outcome
  pub record IdleBody : Type 0 where
    pub outcome : Outcome
    pub at_once : body Incremental run scope j ≡ makes outcome
    pub words : (word : Decision) → In word outcome.decisions → IsIdle outcome.ok word
    pub as_many : up_to_date outcome.decisions
        ≡ length (pieces_met tools files target scope id j)
    pub skips : (p : Piece) → In p (pieces_met tools files target scope id j) →
        choice_of Incremental run p.lists p.from ≡ Skip

  by-end : (r : Result State Stopped) →
      buckets_by (choice_of Incremental run) run scope s0 ≡ done r → HasIdle r →
      up_to_date (progress_in r).decisions ≡ length (pieces_met tools files target scope id j) →
      ((p : Piece) → In p (pieces_met tools files target scope id j) →
      choice_of Incremental run p.lists p.from ≡ Skip) → IdleBody
  by-end r over words many skips = record {
    outcome = outcome_of r;
    at_once = ap (λ v. body_of (followed_by v (λ end. done (outcome_of end)))) over;
    words = words-of r words;
    as_many = ap up_to_date (decisions-of r) ∙ many;
    skips = skips;
  }

  none-taken : (bucket : Bucket) (y : State) → lists_at run bucket y ≡ Ok None → ⊥
  none-taken = takes-clean tools files (pieces-go tools files) target scope id j k made a takes fw
      fc

  start : Carry tools id run scope j k s0 t0 [] []
  start = at-start tools files (pieces-go tools files) target scope id j k made a takes fw fc

  same-lists : (bucket : Bucket) (s t : State) (pt : List Act) →
      Carry tools id run scope j k s t [] pt → lists_at run bucket (entered scope bucket s)
      ≡ lists_at run bucket (entered scope bucket t)
  same-lists bucket s t pt c =
      lists-same tools id run scope j k a bucket (entered scope bucket s) (entered scope bucket t)
      [] pt (entered-pair tools id run scope j k a bucket s t [] pt c)

  -- ---- a run without a piece

  abbrev NoPiece : Piece → Type 0
  NoPiece p = ⊥

  is-empty : (bucket : Bucket) (t : State) (pt : List Act) →
      AreSo tools id run scope j k NoPiece (piece_if bucket (entered scope bucket t) pt
      (lists_at run bucket (entered scope bucket t))) →
      IsEmpty tools id run scope j k a (lists_at run bucket (entered scope bucket t))
  is-empty bucket t pt so =
      let y : State = entered scope bucket t in
      no-piece tools id run scope j k a bucket y pt (lists_at run bucket y) (none-taken bucket y)
      (nothing-in (piece_if bucket y pt (lists_at run bucket y)) so)

  empty-goes-on : BucketGoes tools id run scope j k Incremental (λ note. Unit {0}) NoPiece
  empty-goes-on bucket s t ps pt c E F he hf fe ff so =
      both-same tools id run scope j k a Incremental
      (pieces-go tools files target scope id j k a fw fc) none-taken bucket s t ps pt c E F
      he hf (is-empty bucket t pt so)

  empty-idles : BucketIdles tools id run scope j k NoPiece
  empty-idles bucket s t pt c E F he hf g so =
      empty-idle tools id run scope j k a bucket s
      (subst (IsEmpty tools id run scope j k a) (sym (same-lists bucket s t pt c))
      (is-empty bucket t pt so))

  -- ---- a run with pieces

  new-idles : BucketIdles tools id run scope j k (SaidNew tools id run scope j k a)
  new-idles bucket s t pt c E F he hf g so =
      go (lists_at run bucket (entered scope bucket t)) refl
    where
      none : (l : Result (Option Lists) EvalFault) →
          lists_at run bucket (entered scope bucket t) ≡ l →
          IsEmpty tools id run scope j k a l →
          IdleAt tools id run scope j k bucket s (pieces_here tools id run scope j k bucket s)
      none l e m = empty-idle tools id run scope j k a bucket s
          (subst (IsEmpty tools id run scope j k a) (sym (same-lists bucket s t pt c ∙ e)) m)

      piece : (lists : Lists) →
          lists_at run bucket (entered scope bucket t) ≡ Ok (Some lists) → (choice : Choice) →
          all_or_nothing lists.inputs lists.outputs ≡ choice →
          IdleAt tools id run scope j k bucket s (pieces_here tools id run scope j k bucket s)
      piece lists e RunAll all =
          let y : State = entered scope bucket t in
          let p : Piece = piece_at tools id run scope j k a bucket lists t pt in
          let there : In p (piece_if bucket y pt (lists_at run bucket y)) =
          subst (λ z. In p (piece_if bucket y pt z)) (sym e)
          (in-one p lists.inputs lists.outputs all) in
          piece-idle tools id run scope j k a bucket lists s t pt c
          (same-lists bucket s t pt c ∙ e) e all E F he hf g (so p there)
      piece lists e Nothing all = none (Ok (Some lists)) e all
      piece lists e Skip all = absurd (never lists.inputs lists.outputs Skip all tt)
      piece lists e (Part old) all = absurd (never lists.inputs lists.outputs (Part old) all tt)

      go : (l : Result (Option Lists) EvalFault) →
          lists_at run bucket (entered scope bucket t) ≡ l →
          IdleAt tools id run scope j k bucket s (pieces_here tools id run scope j k bucket s)
      go (Ok None) e = absurd (none-taken bucket (entered scope bucket t) e)
      go (Err fault) e = none (Err fault) e tt
      go (Ok (Some lists)) e = piece lists e (all_or_nothing lists.inputs lists.outputs) refl

  new-goes-on : BucketGoes tools id run scope j k Incremental (Fine tools id run scope j k a)
      (SaidNew tools id run scope j k a)
  new-goes-on bucket s t ps pt c E F he hf fe ff so =
      bucket-goes tools id run scope j k a Incremental
      (pieces-go tools files target scope id j k a fw fc) none-taken bucket s t ps pt c E F
      he hf fe ff (λ p i. (so p i).0)

  -- ---- both

  by-buckets : (x : Result (List Bucket) EvalFault) →
      target_buckets (context_in run s0 scope) target.element ≡ x →
      target_buckets (context_in run t0 scope) target.element ≡ x →
      DeclaredBy tools id run scope k (pieces_in tools id all_of run scope (or_stop t0 x) t0) →
      ((p : Piece) → In p (pieces_in tools id all_of run scope (or_stop t0 x) t0) →
      PieceIsFresh tools id run p) →
      ((p : Piece) → In p (pieces_in tools id all_of run scope (or_stop t0 x) t0) →
      IsNew tools id run scope j k a p) → IdleBody
  by-buckets (Err fault) ew ec declared fresh new =
      let r : Result State Stopped =
      or_failed (Err (stop_at fault s0)) in
      let met : pieces_met tools files target scope id j ≡ [] =
      ap (λ z. pieces_in tools id (choice_of Incremental run) run scope (or_stop s0 z) s0) ew in
      by-end r
      (ap (λ z. unless_stopped (or_failed (or_stop s0 z))
      (λ found. each_in_turn (bucket_by (choice_of Incremental run) run scope) found s0)) ew)
      (λ word i. elim i [ inl e ↦ subst (IsIdle false) e refl | inr n ↦ absurd n ])
      (ap length (sym met)) (λ p i. absurd (subst (In p) met i))
  by-buckets (Ok found) ew ec declared fresh new =
      go (pieces_among tools id all_of run scope found t0 []) refl declared
    where
      met : pieces_met tools files target scope id j
          ≡ pieces_among tools id (choice_of Incremental run) run scope found s0 []
      met = ap (λ z. pieces_in tools id (choice_of Incremental run) run scope (or_stop s0 z) s0) ew

      finish : IdleAll tools id run scope j k found s0 → IdleBody
      finish all =
          let many : up_to_date (progress_in all.end).decisions
          ≡ 0 + length (pieces_among tools id (choice_of Incremental run) run scope found s0 []) =
          all.as_many in
          let same : up_to_date (progress_in all.end).decisions
          ≡ length (pieces_among tools id (choice_of Incremental run) run scope found s0 []) =
          omega (arith, many) in
          by-end all.end
          (ap (λ z. unless_stopped (or_failed (or_stop s0 z))
          (λ found. each_in_turn (bucket_by (choice_of Incremental run) run scope) found s0)) ew
          ∙ all.at_once) all.words (same ∙ ap length (sym met))
          (λ p i. all.skips p (subst (In p) met i))

      go : (pieces : List Piece) → pieces_among tools id all_of run scope found t0 [] ≡ pieces →
          DeclaredBy tools id run scope k
          (pieces_among tools id all_of run scope found t0 []) → IdleBody
      go [] e d =
          let x = none-goes tools id run scope j k a Incremental none-taken found s0 t0 [] [] start
          e in
          finish (idle-go tools id run scope j k (λ note. Unit {0}) NoPiece empty-goes-on
          empty-idles (bucket-keeps tools id run (choice_of Incremental run) scope)
          (bucket-keeps tools id run all_of scope) found s0 t0 [] start (λ word i. absurd i)
          x.0 x.1 x.2 x.3 (λ note i. tt) (λ note i. tt) (λ p i. subst (In p) e i))
      go (p ∷ ps) e d =
          let r : RunIsDeclared tools id run scope k (p ∷ ps) =
          subst (DeclaredBy tools id run scope k) e d in
          let x = both-end tools files (pieces-go tools files) target scope id j k made a takes fw
          fc found ew ec (p ∷ ps) r in
          finish (idle-go tools id run scope j k (Fine tools id run scope j k a)
          (SaidNew tools id run scope j k a) new-goes-on new-idles
          (bucket-keeps tools id run (choice_of Incremental run) scope)
          (bucket-keeps tools id run all_of scope) found s0 t0 [] start (λ word i. absurd i)
          x.E x.F x.first_ends x.second_ends x.first_fine x.second_fine
          (λ q i. ((r.each q (subst (In q) e i), fresh q i), new q i)))

  -- the run does nothing
  pub idle-run : DeclaredAt tools files (Some target) scope id k →
      FreshAt tools files (Some target) scope id k →
      ((p : Piece) → In p (clean_pieces tools files (Some target) scope id k) →
      IsNew tools id run scope j k a p) → IdleBody
  idle-run declared fresh new =
      by-buckets (target_buckets (context_in run t0 scope) target.element)
      (buckets-same tools files (pieces-go tools files) target scope id j k made a takes fw fc)
      refl declared fresh new
