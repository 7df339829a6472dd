-- Whose the acts of a run with a piece are: each path on which the run acts is an output of one of
-- its pieces in the clean build, where all of these succeed.
use Rattle.std.proofs.Common.{
  ◌≡◌,
  ℕ,
  ◌⊎◌,
  inl,
  inr,
  false,
  true,
  List,
  [],
  ◌∷◌,
  ◌++◌,
  Option,
  None,
  Some,
  is_some,
  refl,
  ap,
  sym,
  ◌∙◌,
  subst,
}
use Rattle.std.specs.Prelude.{Result, Ok, Err}
use Rattle.std.specs.Option.{option_or}
use Rattle.msb_laws.specs.Results.{map_ok}
use Rattle.msb_values.specs.declared.act.Act.{Act}
use Rattle.msb_values.specs.declared.item.Item.{Item}
use Rattle.msb_values.specs.declared.mode.Mode.{Mode}
use Rattle.msb_values.specs.declared.scope.Scope.{Scope}
use Rattle.msb_expand.specs.declared.lens.Bucket.{Bucket}
use Rattle.file_store.specs.declared.tree.File.{File}
use Rattle.result_cache.specs.declared.record.Decision.{Decision}
use Rattle.result_cache.specs.declared.record.Decision.TheVariants.{NothingToDo}
use Rattle.result_cache.specs.declared.run.RunId.{RunId}
use Rattle.result_cache.specs.Lists.{In}
use Rattle.result_cache.specs.Journal.{Journal}
use Rattle.build_world.specs.Instances.{UsedTarget}
use Rattle.build_world.specs.declared.fault.EvalFault.{EvalFault}
use Rattle.build_meaning.proofs.MeaningDerived.{in-left, in-right}
use Rattle.build_meaning.specs.Walk.{Outcome}
use Rattle.build_incremental.specs.Alike.{AlikeJournals}
use Rattle.build_incremental.specs.Alone.{alone, last_bytes, LacksOnly}
use Rattle.build_incremental.specs.SideBySide.{HasNotActed}
use Rattle.task_trait.specs.declared.tools.ToolAnswer.{ToolAnswer}
use Rattle.task_trait.specs.declared.tools.ToolInput.{ToolInput}
use Rattle.target_incremental.specs.declared.decision.Choice.{Choice}
use Rattle.target_incremental.specs.declared.decision.Choice.TheVariants.{
  Run as RunAll,
  Skip,
  Nothing,
  Part,
}
use Rattle.target_texts.specs.Lists.{Lists}
use Rattle.target_texts.specs.Returned.{returns_of}
use Rattle.target_body.specs.Pieces.{
  as_failed,
  choice_of,
  decided,
  lists_at,
  or_failed,
  bucket_by,
  chosen_or_run,
}
use Rattle.target_body.specs.Returned.{items_if, returned}
use Rattle.target_body.specs.States.{
  Run,
  State,
  Stopped,
  begun,
  entered,
  or_stop,
  outcome_of,
  with_decision,
  with_items,
  run_at,
  stop_at,
}
use Rattle.target_body.specs.Work.{Work, done, followed_by, unless_stopped, each_in_turn}
use Rattle.target_body.specs.Bodies.{buckets_by, work_by}
use Rattle.request_machine.specs.Worlds.{body_at}
use Rattle.build_declared.specs.Chosen.{all_of, all_or_nothing}
use Rattle.build_declared.specs.Declared.{
  DeclaredBy,
  PieceIsDeclared,
  RunIsDeclared,
  SucceedsWith,
  clean_pieces,
}
use Rattle.build_declared.specs.Ends.{End, end_of}
use Rattle.build_declared.specs.Fresh.{PieceIsFresh}
use Rattle.build_declared.specs.Pieces.{
  Piece,
  next_by,
  piece_if,
  pieces_among,
  pieces_in,
  then_pieces,
}
use Rattle.build_declared.specs.Written.{bytes_in, AnyPath, since}
use Rattle.build_declared.proofs.Alones.{some-same, end-bound, end-mapped, bound-end, alone-end}
use Rattle.build_declared.proofs.BucketsGo.{buckets-go, outcomes-alike}
use Rattle.build_declared.proofs.Counterparts.{
  NeverNone,
  at-start,
  end-grows,
  found_c,
  found_w,
  piece-goes-in,
  run-ends,
}
use Rattle.build_declared.proofs.EmptyBuckets.{none-goes}
use Rattle.build_declared.proofs.NotesStay.{bucket-keeps}
use Rattle.build_declared.proofs.PieceRuns.{last-append}
use Rattle.build_declared.proofs.PieceSkips.{one-in, since-front}
use Rattle.build_declared.proofs.RunLists.{
  Fine,
  Said,
  alike-self,
  all-may,
  bucket-goes,
  in-one,
  never,
  notes-of,
}
use Rattle.build_declared.proofs.SkipsSame.{err-ok, ok-same}

-- ---- the clean run

either : {X : Type 0} (x y : Option X) → is_some (option_or x y) ≡ true →
    (is_some x ≡ true) ⊎ (is_some y ≡ true)
either None y h = inr h
either (Some x) y h = inl refl

module _ (tools : List ℕ → ToolInput → ToolAnswer) (id : RunId) (run : Run) (scope : Scope)
    (takes : NeverNone run) where
  abbrev part : Bucket → State → Work (Result State Stopped)
  part = bucket_by all_of run scope

  -- the piece is declared and succeeds
  abbrev pub IsKnown : Piece → Type 0
  IsKnown q = PieceIsDeclared tools id run q
      × ((u : State) × (more : List Act) × SucceedsWith tools id run q u more)

  -- these acts are, but for those that were done before, on outputs of these pieces
  abbrev pub Owned : (before acts : List Act) → List Piece → Type 0
  Owned before acts pieces = (path : List ℕ) → is_some (last_bytes acts path) ≡ true →
      (is_some (last_bytes before path) ≡ true)
      ⊎ ((q : Piece) × In q pieces × In path q.lists.outputs)

  same-owned : (before acts : List Act) (pieces : List Piece) → before ≡ acts →
      Owned before acts pieces
  same-owned before acts pieces e path h =
      inl (subst (λ l. is_some (last_bytes l path) ≡ true) (sym e) h)

  over-is : {R : Type 0} (v : Work R) (x : R) (l : Journal) (ps : List Act) (E : End R) →
      v ≡ done x → end_of tools id v l ps ≡ Some E →
      record { value = x; journal = l; acts = ps } ≡ E
  over-is v x l ps E e h = some-same (record { value = x; journal = l; acts = ps }) E
      (sym (ap (λ w. end_of tools id w l ps) e) ∙ h)

  abbrev here_at : Bucket → State → List Act → List Piece
  here_at bucket t pt = piece_if bucket (entered scope bucket t) pt
      (lists_at run bucket (entered scope bucket t))

  -- one bucket, which comes to this
  record BucketOwns (bucket : Bucket) (t : State) (pt : List Act) (E : End (Result State Stopped))
      : Type 0 where
    owned : Owned pt E.acts (here_at bucket t pt)
    step : (u : State) → E.value ≡ Ok u → u.journal ≡ E.journal

  -- where there is nothing to do the journal stays
  nothing-step : (bucket : Bucket) (word : Decision) (y u : State) →
      or_failed (map_ok (with_decision word) (returned run bucket y)) ≡ Ok u →
      u.journal ≡ y.journal
  nothing-step bucket word y u h = go (items_if run bucket y (returns_of run.target)) h
    where
      go : (x : Result (List Item) EvalFault) → or_failed (map_ok (with_decision word)
          (map_ok (λ items. with_items items y) (or_stop y x))) ≡ Ok u → u.journal ≡ y.journal
      go (Ok items) h = ap (λ (z : State). z.journal)
          (sym (ok-same (with_decision word (with_items items y)) u h))
      go (Err fault) h = absurd (err-ok (as_failed (stop_at fault y)) u h)

  -- the bucket, where its pieces are declared and succeed
  module _ (bucket : Bucket) (t : State) (pt : List Act) (E : End (Result State Stopped))
      (h : end_of tools id (part bucket t) t.journal pt ≡ Some E)
      (known : (q : Piece) → In q (here_at bucket t pt) → IsKnown q) where
    abbrev y : State
    y = entered scope bucket t

    abbrev Owns : Type 0
    Owns = BucketOwns bucket t pt E

    over : (x : Result State Stopped) → part bucket t ≡ done x →
        ((u : State) → x ≡ Ok u → u.journal ≡ t.journal) → Owns
    over x e step =
        let same = over-is (part bucket t) x t.journal pt E e h in
        record {
          owned = same-owned pt E.acts (here_at bucket t pt)
              (ap (λ (z : End (Result State Stopped)). z.acts) same);
          step = λ u g.
              step u (ap (λ (z : End (Result State Stopped)). z.value) same ∙ g)
              ∙ ap (λ (z : End (Result State Stopped)). z.journal) same;
        }

    -- by its lists
    by-lists : (l : Result (Option Lists) EvalFault) → lists_at run bucket y ≡ l →
        part bucket t ≡ followed_by (unless_stopped (or_stop y l)
        (chosen_or_run all_of run bucket y)) (λ end. done (or_failed end))
    by-lists l e = ap (λ z. followed_by (unless_stopped (or_stop y z)
        (chosen_or_run all_of run bucket y)) (λ end. done (or_failed end))) e

    by-choice : (lists : Lists) → lists_at run bucket y ≡ Ok (Some lists) → (choice : Choice) →
        all_or_nothing lists.inputs lists.outputs ≡ choice →
        part bucket t ≡ followed_by (decided run bucket choice lists.items y)
        (λ end. done (or_failed end))
    by-choice lists e choice all = by-lists (Ok (Some lists)) e
        ∙ ap (λ c. followed_by (decided run bucket c lists.items y)
        (λ end. done (or_failed end))) all

    whole : (lists : Lists) → lists_at run bucket y ≡ Ok (Some lists) →
        all_or_nothing lists.inputs lists.outputs ≡ RunAll → Owns
    whole lists e all =
        let q : Piece = record { bucket = bucket; lists = lists; from = y; before = pt } in
        let i : In q (here_at bucket t pt) = subst (λ z. In q (piece_if bucket y pt z)) (sym e)
        (in-one q lists.inputs lists.outputs all) in
        let k = known q i in
        let u : State = k.1.0 in
        let more : List Act = k.1.1 in
        let U : End (Result State Stopped) =
        record { value = Ok u; journal = u.journal; acts = more } in
        let begins : end_of tools id (part bucket t) t.journal pt
        ≡ end_of tools id (followed_by (decided run bucket RunAll lists.items y)
        (λ end. done (or_failed end))) t.journal pt =
        ap (λ v. end_of tools id v t.journal pt) (by-choice lists e RunAll all) in
        let ends = bound-end tools id (decided run bucket RunAll lists.items y)
        (λ end. done (or_failed end)) t.journal pt U k.1.2 in
        let same : U ≡ E = some-same U E (sym (begins ∙ ends) ∙ h) in
        let grown = end-grows tools id (decided run bucket RunAll lists.items y) t.journal pt U
        k.1.2 in
        let acts_so : grown.0 ++ pt ≡ E.acts =
        sym grown.1 ∙ ap (λ (z : End (Result State Stopped)). z.acts) same in
        let own : since pt more ≡ grown.0 = ap (since pt) grown.1 ∙ since-front grown.0 pt in
        record {
          owned = λ path s. elim (either (last_bytes grown.0 path) (last_bytes pt path)
              (ap is_some (sym (last-append grown.0 pt path))
              ∙ (ap (λ l. is_some (last_bytes l path)) acts_so ∙ s))) [
                | inl o ↦ inr (
                  q,
                  i,
                  one-in path lists.outputs (sym (k.0.writes_outputs u more k.1.2 path)
                      ∙ (ap (λ l. is_some (last_bytes l path)) own ∙ o)),
                )
                | inr o ↦ inl o
              ];
          step = λ v g.
              let is : Ok u ≡ Ok v = ap (λ (z : End (Result State Stopped)). z.value) same ∙ g in
              ap (λ (z : State). z.journal) (sym (ok-same u v is))
              ∙ ap (λ (z : End (Result State Stopped)). z.journal) same;
        }

    by-all : (lists : Lists) → lists_at run bucket y ≡ Ok (Some lists) → (choice : Choice) →
        all_or_nothing lists.inputs lists.outputs ≡ choice → Owns
    by-all lists e RunAll all = whole lists e all
    by-all lists e Nothing all =
        over (or_failed (map_ok (with_decision NothingToDo) (returned run bucket y)))
        (by-choice lists e Nothing all) (λ u g. nothing-step bucket NothingToDo y u g)
    by-all lists e Skip all = absurd (never lists.inputs lists.outputs Skip all tt)
    by-all lists e (Part old) all = absurd (never lists.inputs lists.outputs (Part old) all tt)

    bucket-owns : Owns
    bucket-owns = go (lists_at run bucket y) refl
      where
        go : (l : Result (Option Lists) EvalFault) → lists_at run bucket y ≡ l → Owns
        go (Ok None) e = absurd (takes bucket y e)
        go (Err fault) e =
            over (or_failed (Err (stop_at fault y)))
            (by-lists (Err fault) e)
            (λ u g. absurd (err-ok (as_failed (stop_at fault y)) u g))
        go (Ok (Some lists)) e =
            by-all lists e (all_or_nothing lists.inputs lists.outputs) refl

  abbrev all_at : List Bucket → State → List Act → List Piece
  all_at = pieces_among tools id all_of run scope

  owned-then : (before between acts : List Act) (here later : List Piece) →
      Owned before between here → Owned between acts later → Owned before acts (here ++ later)
  owned-then before between acts here later f g path h = elim (g path h) [
    | inl x ↦ elim (f path x) [
      | inl y ↦ inl y
      | inr y ↦ inr (y.0, in-left y.0 here later y.1, y.2)
    ]
    | inr x ↦ inr (x.0, in-right x.0 here later x.1, x.2)
  ]

  abbrev AllOwned : List Bucket → Type 0
  AllOwned buckets = (t : State) (pt : List Act) (E : End (Result State Stopped)) →
      end_of tools id (each_in_turn part buckets t) t.journal pt ≡ Some E →
      ((q : Piece) → In q (all_at buckets t pt) → IsKnown q) →
      Owned pt E.acts (all_at buckets t pt)

  -- the later buckets, by how the first one ends
  later-owned : (buckets : List Bucket) → AllOwned buckets → (E : End (Result State Stopped))
      (l : Journal) (qs : List Act) (r : Result State Stopped) →
      ((u : State) → r ≡ Ok u → u.journal ≡ l) →
      end_of tools id (unless_stopped r (each_in_turn part buckets)) l qs ≡ Some E →
      ((q : Piece) → In q (next_by r qs (all_at buckets)) → IsKnown q) →
      Owned qs E.acts (next_by r qs (all_at buckets))
  later-owned buckets ih E l qs (Err d) step h known = same-owned qs E.acts []
      (ap (λ (z : End (Result State Stopped)). z.acts)
      (some-same (record { value = Err d; journal = l; acts = qs }) E h))
  later-owned buckets ih E l qs (Ok u) step h known = ih u qs E
      (subst (λ z. end_of tools id (each_in_turn part buckets u) z qs ≡ Some E)
      (sym (step u refl)) h) known

  pub buckets-owned : (buckets : List Bucket) → AllOwned buckets
  buckets-owned [] t pt E h known = same-owned pt E.acts []
      (ap (λ (z : End (Result State Stopped)). z.acts)
      (some-same (record { value = Ok t; journal = t.journal; acts = pt }) E h))
  buckets-owned (bucket ∷ buckets) t pt E h known =
      let x = end-bound tools id (part bucket t)
      (λ end. unless_stopped end (each_in_turn part buckets)) t.journal pt E h in
      let here = here_at bucket t pt in
      let later = then_pieces (end_of tools id (part bucket t) t.journal pt) (all_at buckets) in
      let one = bucket-owns bucket t pt x.0 x.1 (λ q i. known q (in-left q here later i)) in
      owned-then pt x.0.acts E.acts here later one.owned
      (subst (λ o. Owned x.0.acts E.acts (then_pieces o (all_at buckets))) (sym x.1)
      (later-owned buckets (buckets-owned buckets) E x.0.journal x.0.acts x.0.value one.step x.2
      (λ q i. known q (in-right q here later
      (subst (λ o. In q (then_pieces o (all_at buckets))) (sym x.1) i)))))

-- ---- the run of a target

module _ (tools : List ℕ → ToolInput → ToolAnswer) (files : List File) (target : UsedTarget)
    (scope : Scope) (id : RunId) (j k : Journal) (a : AlikeJournals (bytes_in files) AnyPath j k)
    (fw : HasNotActed id j) (fc : HasNotActed id k) (mode : Mode) where
  abbrev run : Run
  run = run_at files id target

  abbrev from_w : State
  from_w = begun scope j

  abbrev from_c : State
  from_c = begun scope k

  -- what the run does in the build: each path on which it acts is an output of one of these pieces,
  -- where they succeed in the clean build
  pub record RunOwns (pieces : List Piece) : Type 0 where
    pub outcome : Outcome
    pub total : List Act
    pub ends : alone tools id (body_at files mode id (Some target) scope j) j []
        ≡ Some (outcome, total)
    pub owned : ((q : Piece) → In q pieces →
        (u : State) × (more : List Act) × SucceedsWith tools id run q u more) →
        (path : List ℕ) → is_some (last_bytes total path) ≡ true →
        (q : Piece) × In q pieces × In path q.lists.outputs

  -- by the ends of the buckets
  by-end : (pieces : List Piece) (E : End (Result State Stopped)) →
      end_of tools id (buckets_by (choice_of mode run) run scope from_w) j [] ≡ Some E →
      (((q : Piece) → In q pieces →
      (u : State) × (more : List Act) × SucceedsWith tools id run q u more) →
      (path : List ℕ) → is_some (last_bytes E.acts path) ≡ true →
      (q : Piece) × In q pieces × In path q.lists.outputs) → RunOwns pieces
  by-end pieces E he owned =
      let end : End Outcome =
      record { value = outcome_of E.value; journal = E.journal; acts = E.acts } in
      record {
        outcome = outcome_of E.value;
        total = E.acts;
        ends = alone-end tools id (work_by (choice_of mode run) run scope j) j [] end
            (bound-end tools id (buckets_by (choice_of mode run) run scope from_w)
            (λ end. done (outcome_of end)) j [] E he);
        owned = owned;
      }

  abbrev Pieces : List Bucket → List Piece
  Pieces found = pieces_among tools id all_of run scope found from_c []

  -- the ends of all buckets, in the build and in the clean one
  by-both : (found : List Bucket) →
      found_w tools files target scope id j k a fw fc mode ≡ Ok found → NeverNone run →
      (E F : End (Result State Stopped)) →
      end_of tools id (each_in_turn (bucket_by (choice_of mode run) run scope) found from_w) j []
      ≡ Some E →
      end_of tools id (each_in_turn (bucket_by all_of run scope) found from_c) k [] ≡ Some F →
      LacksOnly (bytes_in files) j E.acts F.acts →
      ((q : Piece) → In q (Pieces found) → PieceIsDeclared tools id run q) →
      RunOwns (Pieces found)
  by-both found ew takes E F he hf lacks declared = by-end (Pieces found) E
      (ap (λ z. end_of tools id (unless_stopped (or_failed (or_stop from_w z))
      (λ found. each_in_turn (bucket_by (choice_of mode run) run scope) found from_w)) j []) ew
      ∙ he)
      (λ succeed path h.
      let there : is_some (last_bytes F.acts path) ≡ true = elim (lacks.acted path) [
        | inl n ↦ absurd (let no : false ≡ true = sym (ap is_some n) ∙ h in cc)
        | inr e ↦ sym (ap is_some e) ∙ h
      ] in
      elim (buckets-owned tools id run scope takes found from_c [] F hf
      (λ q i. (declared q i, succeed q i)) path there) [
        | inl n ↦ absurd (cc)
        | inr x ↦ x
      ])

  by-run : (found : List Bucket) → found_w tools files target scope id j k a fw fc mode ≡ Ok found →
      found_c tools files target scope id j k a fw fc mode ≡ Ok found → NeverNone run →
      (ps : List Piece) → RunIsDeclared tools id run scope k ps → Pieces found ≡ ps →
      ((p : Piece) → In p (Pieces found) → PieceIsFresh tools id run p) →
      RunOwns (Pieces found)
  by-run found ew ec takes ps r e fresh =
      let w = run-ends tools files target scope id j k a fw fc mode ps r in
      let c = r.never_large k (alike-self files k) all_of
      (λ lists s. all-may tools id run lists
      (all_or_nothing lists.inputs lists.outputs) refl) in
      let x = end-mapped tools id (buckets_by (choice_of mode run) run scope from_w) outcome_of
      j [] w.0 w.1 in
      let y = end-mapped tools id (buckets_by all_of run scope from_c) outcome_of k [] c.0 c.1 in
      let ox : outcome_of x.0.value ≡ w.0.value = ap (λ (z : End Outcome). z.value) x.2 in
      let oy : outcome_of y.0.value ≡ c.0.value = ap (λ (z : End Outcome). z.value) y.2 in
      let hx : end_of tools id
      (each_in_turn (bucket_by (choice_of mode run) run scope) found from_w) j [] ≡ Some x.0 =
      sym (ap (λ z. end_of tools id (unless_stopped (or_failed (or_stop from_w z))
      (λ found. each_in_turn (bucket_by (choice_of mode run) run scope) found from_w)) j []) ew)
      ∙ x.1 in
      let hy : end_of tools id (each_in_turn (bucket_by all_of run scope) found from_c) k []
      ≡ Some y.0 =
      sym (ap (λ z. end_of tools id (unless_stopped (or_failed (or_stop from_c z))
      (λ found. each_in_turn (bucket_by all_of run scope) found from_c)) k []) ec) ∙ y.1 in
      let declared : (q : Piece) → In q (Pieces found) → PieceIsDeclared tools id run q =
      λ q i. r.each q (subst (In q) e i) in
      let g = buckets-go tools id run scope j k mode (Fine tools id run scope j k a)
      (Said tools id run scope j k a)
      (bucket-goes tools id run scope j k a mode
      (piece-goes-in tools files target scope id j k a fw fc mode) takes)
      (bucket-keeps tools id run (choice_of mode run) scope)
      (bucket-keeps tools id run all_of scope) found from_w from_c [] []
      (at-start tools files target scope id j k a fw fc mode) x.0 y.0 hx hy
      (λ note u. w.2 note (subst (λ (o : Outcome). In note o.notes) ox (notes-of x.0.value note u)))
      (λ note u. c.2 note (subst (λ (o : Outcome). In note o.notes) oy (notes-of y.0.value note u)))
      (λ q i. (declared q i, fresh q i)) in
      by-both found ew takes x.0 y.0 hx hy
      (outcomes-alike tools id run scope j k x.0.value y.0.value x.0.acts y.0.acts g.ends).1
      declared

  by-buckets : (x : Result (List Bucket) EvalFault) →
      found_w tools files target scope id j k a fw fc mode ≡ x →
      found_c tools files target scope id j k a fw fc mode ≡ x → NeverNone run →
      DeclaredBy tools id run scope k
      (pieces_in tools id all_of run scope (or_stop from_c x) from_c) →
      ((p : Piece) → In p (pieces_in tools id all_of run scope (or_stop from_c x) from_c) →
      PieceIsFresh tools id run p) →
      RunOwns (pieces_in tools id all_of run scope (or_stop from_c x) from_c)
  by-buckets (Err fault) ew ec takes declared fresh =
      let E : End (Result State Stopped) = record {
        value = or_failed (Err (stop_at fault from_w));
        journal = j;
        acts = [];
      } in
      by-end [] E
      (ap (λ z. end_of tools id (unless_stopped (or_failed (or_stop from_w z))
      (λ found. each_in_turn (bucket_by (choice_of mode run) run scope) found from_w)) j []) ew)
      (λ succeed path h. absurd (cc))
  by-buckets (Ok found) ew ec takes declared fresh = go (Pieces found) refl declared
    where
      go : (ps : List Piece) → Pieces found ≡ ps →
          DeclaredBy tools id run scope k (Pieces found) → RunOwns (Pieces found)
      go [] e d =
          let x = none-goes tools id run scope j k a mode takes found from_w from_c [] []
          (at-start tools files target scope id j k a fw fc mode) e in
          by-both found ew takes x.0 x.1 x.2 x.3
          (outcomes-alike tools id run scope j k x.0.value x.1.value x.0.acts x.1.acts x.4.ends).1
          (λ q i. absurd (subst (In q) e i))
      go (p ∷ ps) e d = by-run found ew ec takes (p ∷ ps)
          (subst (DeclaredBy tools id run scope k) e d) e fresh

  pub run-owns : found_w tools files target scope id j k a fw fc mode
      ≡ found_c tools files target scope id j k a fw fc mode → NeverNone run →
      DeclaredBy tools id run scope k (clean_pieces tools files (Some target) scope id k) →
      ((p : Piece) → In p (clean_pieces tools files (Some target) scope id k) →
      PieceIsFresh tools id run p) →
      RunOwns (clean_pieces tools files (Some target) scope id k)
  run-owns same takes declared fresh =
      by-buckets (found_c tools files target scope id j k a fw fc mode) same refl takes declared
      fresh
