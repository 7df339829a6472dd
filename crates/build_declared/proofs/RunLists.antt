-- A declared and fresh run of a target with Inputs and Outputs goes alike, where each of its pieces
-- does.
use Rattle.std.proofs.Common.{
  ◌≡◌,
  ℕ,
  inl,
  List,
  [],
  ◌∷◌,
  Option,
  None,
  Some,
  refl,
  ap,
  sym,
  ◌∙◌,
  subst,
}
use Rattle.std.specs.Prelude.{Result, Ok, Err, codes}
use Rattle.msb_values.specs.declared.mode.Mode.{Mode}
use Rattle.msb_values.specs.declared.mode.Mode.TheVariants.{Incremental, Clean}
use Rattle.msb_values.specs.declared.note.Note.{Note}
use Rattle.msb_values.specs.declared.act.Act.{Act}
use Rattle.msb_values.specs.declared.scope.Scope.{Scope}
use Rattle.msb_expand.specs.declared.lens.Bucket.{Bucket}
use Rattle.file_store.specs.declared.tree.File.{File}
use Rattle.result_cache.specs.Lists.{In}
use Rattle.result_cache.specs.declared.record.Record.{Record}
use Rattle.result_cache.specs.declared.run.RunId.{RunId}
use Rattle.result_cache.specs.Journal.{Journal, record_of}
use Rattle.build_world.specs.Elements.{attribute_of}
use Rattle.build_world.specs.Instances.{UsedTarget}
use Rattle.build_world.specs.declared.fault.EvalFault.{EvalFault}
use Rattle.build_meaning.specs.Walk.{Outcome}
use Rattle.build_incremental.specs.Alike.{AlikeFound, AlikeOutcomes, AlikeJournals}
use Rattle.build_incremental.specs.Alone.{alone, LacksOnly}
use Rattle.build_incremental.specs.SideBySide.{HasNotActed, AlikeRuns, in_part}
use Rattle.element_texts.specs.Contexts.{ElementContext, item_context}
use Rattle.task_trait.specs.declared.tools.ToolAnswer.{ToolAnswer}
use Rattle.task_trait.specs.declared.tools.ToolInput.{ToolInput}
use Rattle.target_incremental.specs.declared.decision.Choice.{Choice}
use Rattle.target_incremental.specs.declared.decision.Choice.TheVariants.{
  Run as RunAll,
  Skip,
  Nothing,
  Part,
}
use Rattle.target_texts.specs.Batched.{target_buckets}
use Rattle.msb_laws.specs.Results.{and_then, map_ok}
use Rattle.target_texts.specs.Lists.{Lists, lists_by, paths_at, typed_items}
use Rattle.target_texts.specs.Returned.{in_target}
use Rattle.target_body.specs.Work.{Work, done, followed_by, unless_stopped, each_in_turn}
use Rattle.target_body.specs.States.{
  Run,
  State,
  Stopped,
  faulted,
  failed,
  begun,
  entered,
  or_stop,
  context_in,
  outcome_of,
  run_at,
  stop_at,
}
use Rattle.target_body.specs.Pieces.{
  lists_at,
  choice_of,
  decided,
  as_failed,
  or_failed,
  Chooser,
  chosen_or_run,
  in_bucket,
  bucket_by,
}
use Rattle.target_body.specs.Bodies.{body, buckets_by, work_by, body_by}
use Rattle.build_declared.proofs.PartEnds.{progress_in}
use Rattle.build_declared.specs.Chosen.{all_of, all_or_nothing}
use Rattle.build_declared.specs.Declared.{
  MayChoose,
  IsNotTooLarge,
  PieceIsDeclared,
  RunIsDeclared,
  DeclaredBy,
}
use Rattle.build_declared.specs.Written.{bytes_in, AnyPath}
use Rattle.build_declared.specs.Ends.{End, end_of}
use Rattle.build_declared.specs.Fresh.{PieceIsFresh}
use Rattle.build_declared.specs.Pieces.{Piece, one_if, piece_if, pieces_among, pieces_in}
use Rattle.build_declared.specs.Skipped.{TakesLists}
use Rattle.build_declared.proofs.Alones.{with_value, some-same, end-mapped, bound-end, alone-end}
use Rattle.build_declared.proofs.BucketsGo.{
  Carry,
  EndsAlike,
  StopsAlike,
  InStep,
  GoAlike,
  IsFine,
  BucketGoes,
  first_of,
  second_of,
  buckets-go,
  outcomes-alike,
}
use Rattle.build_declared.proofs.Choices.{decided-may, clean-all}
use Rattle.build_declared.proofs.CleanBuilds.{RunsGo}
use Rattle.build_declared.proofs.EmptyBuckets.{
  IsEmpty,
  empty-goes,
  entered-pair,
  lists-same,
  none-goes,
}
use Rattle.build_declared.proofs.Looks.{looks-same}
use Rattle.build_declared.proofs.NotesStay.{bucket-keeps}

-- ---- one bucket

pub in-one : (p : Piece) (inputs outputs : List (List ℕ)) → all_or_nothing inputs outputs ≡ RunAll →
    In p (one_if p inputs outputs)
in-one p [] outputs e = absurd (cc)
in-one p (input ∷ inputs) [] e = absurd (cc)
in-one p (input ∷ inputs) (output ∷ outputs) e = inl refl

abbrev pub IsOther : Choice → Type 0
IsOther RunAll = ⊥
IsOther Nothing = ⊥
IsOther Skip = Unit {0}
IsOther (Part old) = Unit {0}

pub never : (inputs outputs : List (List ℕ)) (choice : Choice) →
    all_or_nothing inputs outputs ≡ choice → IsOther choice → ⊥
never [] outputs choice e h = subst IsOther (sym e) h
never (input ∷ inputs) [] choice e h = subst IsOther (sym e) h
never (input ∷ inputs) (output ∷ outputs) choice e h = subst IsOther (sym e) h

-- the end of a bucket that has lists is that of its piece, as is chosen for it
pub bucket-decided : (tools : List ℕ → ToolInput → ToolAnswer) (id : RunId) (run : Run)
    (choose : Chooser) (bucket : Bucket) (s : State) (lists : Lists) (j : Journal) (ps : List Act)
    (E : End (Result State Stopped)) → lists_at run bucket s ≡ Ok (Some lists) →
    end_of tools id (in_bucket choose run bucket s) j ps ≡ Some E →
    (U : End (Result State Stopped))
    × (end_of tools id (decided run bucket (choose lists s) lists.items s) j ps ≡ Some U)
    × (with_value or_failed U ≡ E)
bucket-decided tools id run choose bucket s lists j ps E e h =
    end-mapped tools id (decided run bucket (choose lists s) lists.items s) or_failed j ps E
    (subst (λ z. end_of tools id (followed_by (unless_stopped (or_stop s z)
    (chosen_or_run choose run bucket s)) (λ end. done (or_failed end))) j ps ≡ Some E) e h)

-- the same in a clean build, where all of it runs
pub bucket-whole : (tools : List ℕ → ToolInput → ToolAnswer) (id : RunId) (run : Run)
    (bucket : Bucket) (s : State) (lists : Lists) (j : Journal) (ps : List Act)
    (E : End (Result State Stopped)) → lists_at run bucket s ≡ Ok (Some lists) →
    all_or_nothing lists.inputs lists.outputs ≡ RunAll →
    end_of tools id (in_bucket all_of run bucket s) j ps ≡ Some E →
    (U : End (Result State Stopped))
    × (end_of tools id (decided run bucket RunAll lists.items s) j ps ≡ Some U)
    × (with_value or_failed U ≡ E)
bucket-whole tools id run bucket s lists j ps E e all h =
    let v = bucket-decided tools id run all_of bucket s lists j ps E e h in (
      v.0,
      subst (λ z. end_of tools id (decided run bucket z lists.items s) j ps ≡ Some v.0) all v.1,
      v.2,
    )

module _ (tools : List ℕ → ToolInput → ToolAnswer) (id : RunId) (run : Run) (scope : Scope)
    (j k : Journal) (a : AlikeJournals (bytes_in run.files) AnyPath j k) where
  abbrev pub Fine : Note → Type 0
  Fine = IsNotTooLarge tools id run

  abbrev pub Said : Piece → Type 0
  Said p = PieceIsDeclared tools id run p × PieceIsFresh tools id run p

  abbrev pub piece_at : Bucket → Lists → State → List Act → Piece
  piece_at bucket lists t pt = record {
    bucket = bucket;
    lists = lists;
    from =
        entered scope bucket t;
    before = pt;
  }

  -- what is still to be shown: a piece goes alike, done as is decided and done whole
  abbrev pub PieceGoes : Mode → Type 0
  PieceGoes mode = (bucket : Bucket) (lists : Lists) (s t : State) (ps pt : List Act) →
      Carry tools id run scope j k s t ps pt → lists_at run bucket (entered scope bucket s)
      ≡ Ok (Some lists) → lists_at run bucket (entered scope bucket t) ≡ Ok (Some lists) →
      all_or_nothing lists.inputs lists.outputs ≡ RunAll → (E F : End (Result State Stopped)) →
      end_of tools id (decided run bucket (choice_of mode run lists (entered scope bucket s))
      lists.items (entered scope bucket s)) s.journal ps ≡ Some E →
      end_of tools id (decided run bucket RunAll lists.items (entered scope bucket t)) t.journal
      pt ≡ Some F → IsFine tools id run scope j k Fine E.value →
      IsFine tools id run scope j k Fine F.value → Said (piece_at bucket lists t pt) →
      GoAlike tools id run scope j k E F

  failed-goes : (E F : End (Result State Stopped)) → GoAlike tools id run scope j k E F →
      GoAlike tools id run scope j k (record {
        value = or_failed E.value;
        journal =
            E.journal;
        acts = E.acts;
      }) (record {
        value = or_failed F.value;
        journal =
            F.journal;
        acts = F.acts;
      })
  failed-goes E F g = record {
    ends = ends E.value F.value g.ends;
    w_step =
        step E.value E.journal g.w_step;
    c_step = step F.value F.journal g.c_step;
  }
    where
      step : (r : Result State Stopped) (l : Journal) → InStep tools id run scope j k r l →
          InStep tools id run scope j k (or_failed r) l
      step (Ok s) l h = h
      step (Err d) l h = tt

      stops : (d e : Stopped) → StopsAlike tools id run scope j k d e E.acts F.acts →
          StopsAlike tools id run scope j k (as_failed d) (as_failed e) E.acts F.acts
      stops (faulted s) (faulted t) h = h
      stops (faulted s) (failed t) h = h
      stops (failed s) (faulted t) h = h
      stops (failed s) (failed t) h = h

      ends : (r q : Result State Stopped) → EndsAlike tools id run scope j k r q E.acts F.acts →
          EndsAlike tools id run scope j k (or_failed r) (or_failed q) E.acts F.acts
      ends (Ok s) (Ok t) h = h
      ends (Ok s) (Err e) h = absurd h
      ends (Err d) (Ok t) h = absurd h
      ends (Err d) (Err e) h = stops d e h

  pub fine-failed : (r : Result State Stopped) → IsFine tools id run scope j k Fine (or_failed r) →
      IsFine tools id run scope j k Fine r
  fine-failed (Ok s) f = f
  fine-failed (Err (faulted s)) f = f
  fine-failed (Err (failed s)) f = f

  module _ (mode : Mode) (goes : PieceGoes mode) (takes : (bucket : Bucket) (y : State) →
      lists_at run bucket y ≡ Ok None → ⊥) where
    pub both-same : (bucket : Bucket) (s t : State) (ps pt : List Act) →
        Carry tools id run scope j k s t ps pt → (E F : End (Result State Stopped)) →
        end_of tools id (first_of tools id run scope j k mode bucket s) s.journal ps ≡ Some E →
        end_of tools id (second_of tools id run scope j k bucket t) t.journal pt ≡ Some F →
        IsEmpty tools id run scope j k a (lists_at run bucket (entered scope bucket t)) →
        GoAlike tools id run scope j k E F
    both-same bucket s t ps pt c E F he hf empty =
        let x = empty-goes tools id run scope j k a mode bucket s t ps pt c empty in
        let e : x.0 ≡ E = some-same x.0 E (sym x.2 ∙ he) in
        let f : x.1 ≡ F = some-same x.1 F (sym x.3 ∙ hf) in
        subst (λ z. GoAlike tools id run scope j k z F) e
        (subst (GoAlike tools id run scope j k x.0) f x.4)

    pub bucket-goes : BucketGoes tools id run scope j k mode Fine Said
    bucket-goes bucket s t ps pt c E F he hf fe ff so =
        go (lists_at run bucket (entered scope bucket t)) refl
      where
        whole : (lists : Lists) → lists_at run bucket (entered scope bucket t) ≡ Ok (Some lists) →
            all_or_nothing lists.inputs lists.outputs ≡ RunAll → GoAlike tools id run scope j k E F
        whole lists e all =
            let x : State = entered scope bucket s in
            let y : State = entered scope bucket t in
            let same : lists_at run bucket x ≡ Ok (Some lists) =
            lists-same tools id run scope j k a bucket x y ps pt
            (entered-pair tools id run scope j k a bucket s t ps pt c) ∙ e in
            let u = bucket-decided tools id run (choice_of mode run) bucket x lists s.journal ps E
            same he in
            let v = bucket-whole tools id run bucket y lists t.journal pt F e all hf in
            let fu : IsFine tools id run scope j k Fine u.0.value =
            fine-failed u.0.value (subst (λ (z : End (Result State Stopped)).
            IsFine tools id run scope j k Fine z.value) (sym u.2) fe) in
            let fv : IsFine tools id run scope j k Fine v.0.value =
            fine-failed v.0.value (subst (λ (z : End (Result State Stopped)).
            IsFine tools id run scope j k Fine z.value) (sym v.2) ff) in
            let there : In (piece_at bucket lists t pt)
            (piece_if bucket y pt (lists_at run bucket y)) =
            subst (λ z. In (piece_at bucket lists t pt) (piece_if bucket y pt z)) (sym e)
            (in-one (piece_at bucket lists t pt) lists.inputs lists.outputs all) in
            let g = goes bucket lists s t ps pt c same e all u.0 v.0 u.1 v.1 fu fv
            (so (piece_at bucket lists t pt) there) in
            subst (λ z. GoAlike tools id run scope j k z F) u.2
            (subst (GoAlike tools id run scope j k (with_value or_failed u.0)) v.2
            (failed-goes u.0 v.0 g))

        piece : (lists : Lists) → lists_at run bucket (entered scope bucket t) ≡ Ok (Some lists) →
            (choice : Choice) → all_or_nothing lists.inputs lists.outputs ≡ choice →
            GoAlike tools id run scope j k E F
        piece lists e RunAll all = whole lists e all
        piece lists e Nothing all = both-same bucket s t ps pt c E F he hf
            (subst (IsEmpty tools id run scope j k a) (sym e) all)
        piece lists e Skip all = absurd (never lists.inputs lists.outputs Skip all tt)
        piece lists e (Part old) all = absurd (never lists.inputs lists.outputs (Part old) all tt)

        go : (l : Result (Option Lists) EvalFault) →
            lists_at run bucket (entered scope bucket t) ≡ l → GoAlike tools id run scope j k E F
        go (Ok None) e = absurd (takes bucket (entered scope bucket t) e)
        go (Err fault) e = both-same bucket s t ps pt c E F he hf
            (subst (IsEmpty tools id run scope j k a) (sym e) tt)
        go (Ok (Some lists)) e = piece lists e (all_or_nothing lists.inputs lists.outputs) refl

-- ---- the run

abbrev with-lists : ElementContext → (i o : List ℕ) → List (List ℕ) → List (List ℕ) → Option Lists
with-lists p i o ins outs = Some (record {
  inputs = ins;
  outputs = outs;
  items =
      typed_items p.scope i o;
})

pub lists-there : (p : ElementContext) (target : UsedTarget) → TakesLists target →
    lists_by p target.element (attribute_of (codes "Inputs") target.element)
    (attribute_of (codes "Outputs") target.element) ≡ Ok None → ⊥
lists-there p target t e = go (paths_at p target.element t.inputs)
    (paths_at p target.element t.outputs) (sym (ap
    (λ i. lists_by p target.element i (attribute_of (codes "Outputs") target.element)) t.has_inputs
    ∙ ap (λ o. lists_by p target.element (Some t.inputs) o) t.has_outputs) ∙ e)
  where
    go : (x y : Result (List (List ℕ)) EvalFault) →
        and_then x (λ ins. map_ok (λ outs. with-lists p t.inputs t.outputs ins outs) y) ≡ Ok None →
        ⊥
    go (Ok ins) (Ok outs) h = cc
    go (Ok ins) (Err fault) h = cc
    go (Err fault) y h = cc

found-self : (o : Option Record) → AlikeFound o o
found-self None = tt
found-self (Some m) = record { ok = refl; items = refl; changes = refl }

pub alike-self : (files : List File) (k : Journal) → AlikeJournals (bytes_in files) AnyPath k k
alike-self files k = record {
  same = λ p. refl;
  records = λ r. found-self (record_of k r);
  only = λ r n act i. tt;
}

-- a clean build chooses what may be chosen
pub all-may : (tools : List ℕ → ToolInput → ToolAnswer) (id : RunId) (run : Run) (lists : Lists)
    (choice : Choice) → all_or_nothing lists.inputs lists.outputs ≡ choice →
    MayChoose tools id run lists choice
all-may tools id run lists RunAll e = e
all-may tools id run lists Nothing e = e
all-may tools id run lists Skip e = absurd (never lists.inputs lists.outputs Skip e tt)
all-may tools id run lists (Part old) e =
    absurd (never lists.inputs lists.outputs (Part old) e tt)

-- the notes of a run are those of its record
pub notes-of : (r : Result State Stopped) (note : Note) → In note (progress_in r).notes →
    In note (outcome_of r).notes
notes-of (Ok s) note i = i
notes-of (Err stop) note i = i

module _ (tools : List ℕ → ToolInput → ToolAnswer) (files : List File)
    (goes : (target : UsedTarget) (scope : Scope) (id : RunId) (j k : Journal)
    (a : AlikeJournals (bytes_in files) AnyPath j k) → HasNotActed id j → HasNotActed id k →
    PieceGoes tools id (run_at files id target) scope j k a Incremental) where
  module _ (target : UsedTarget) (scope : Scope) (id : RunId) (j k : Journal) (made : Record)
      (a : AlikeJournals (bytes_in files) AnyPath j k) (takes : TakesLists target)
      (fw : HasNotActed id j) (fc : HasNotActed id k) where
    abbrev pub run : Run
    run = run_at files id target

    abbrev pub s0 : State
    s0 = begun scope j

    abbrev pub t0 : State
    t0 = begun scope k

    abbrev Went : Type 0
    Went = AlikeRuns (bytes_in files) AnyPath tools id j k (body Incremental run scope j)
        (body Clean run scope k) made (λ first. Unit {0})

    pub at-start : Carry tools id run scope j k s0 t0 [] []
    at-start = record {
      items = refl;
      changes = refl;
      w_is = refl;
      c_is = refl;
      lacks =
          record { acted = λ p. inl refl; left_out = λ p b n e. absurd (cc) };
    }

    pub buckets-same : target_buckets (context_in run s0 scope) target.element
        ≡ target_buckets (context_in run t0 scope) target.element
    buckets-same = ap (λ l. target_buckets (item_context l id.instance.path scope) target.element)
        ((looks-same files AnyPath).paths j k a)

    -- by the ends of the buckets
    done-so : (E F : End (Result State Stopped)) →
        end_of tools id (buckets_by (choice_of Incremental run) run scope s0) j [] ≡ Some E →
        end_of tools id (buckets_by all_of run scope t0) k [] ≡ Some F →
        AlikeOutcomes (outcome_of E.value) (outcome_of F.value) →
        LacksOnly (bytes_in files) j E.acts F.acts → Went
    done-so E F he hf o lacks =
        let ew : end_of tools id (work_by (choice_of Incremental run) run scope j) j []
        ≡ Some (record { value = outcome_of E.value; journal = E.journal; acts = E.acts }) =
        bound-end tools id (buckets_by (choice_of Incremental run) run scope s0)
        (λ end. done (outcome_of end)) j [] E he in
        let ec : end_of tools id (work_by all_of run scope k) k []
        ≡ Some (record { value = outcome_of F.value; journal = F.journal; acts = F.acts }) =
        bound-end tools id (buckets_by all_of run scope t0)
        (λ end. done (outcome_of end)) k [] F hf in
        let aw : alone tools id (body_by (choice_of Incremental run) run scope j) j []
        ≡ Some (outcome_of E.value, E.acts) = alone-end tools id
        (work_by (choice_of Incremental run) run scope j) j [] (record {
          value =
              outcome_of E.value;
          journal = E.journal;
          acts = E.acts;
        }) ew in
        let ac : alone tools id (body_by all_of run scope k) k [] ≡ Some (
          outcome_of F.value,
          F.acts,
        ) = alone-end tools id (work_by all_of run scope k) k [] (record {
          value =
              outcome_of F.value;
          journal = F.journal;
          acts = F.acts;
        }) ec in
        in_part (outcome_of E.value) (outcome_of F.value) E.acts F.acts aw
        (subst (λ c. alone tools id (body_by c run scope k) k [] ≡ Some (
          outcome_of F.value,
          F.acts,
        )) (sym (clean-all run)) ac) o lacks (λ act i. tt) tt

    pub takes-clean : (bucket : Bucket) (y : State) → lists_at run bucket y ≡ Ok None → ⊥
    takes-clean bucket y e = lists-there (in_target (context_in run y y.scope) bucket) target
        takes e

    abbrev pub first : Bucket → State → Work (Result State Stopped)
    first = first_of tools id run scope j k Incremental

    abbrev pub second : Bucket → State → Work (Result State Stopped)
    second = second_of tools id run scope j k

    -- all buckets of both runs come to ends, with notes that are as Fine says
    pub record BothEnd (Good : Note → Type 0) (found : List Bucket) : Type 0 where
      pub E : End (Result State Stopped)
      pub F : End (Result State Stopped)
      pub first_ends : end_of tools id (each_in_turn first found s0) j [] ≡ Some E
      pub second_ends : end_of tools id (each_in_turn second found t0) k [] ≡ Some F
      pub first_fine : IsFine tools id run scope j k Good E.value
      pub second_fine : IsFine tools id run scope j k Good F.value

    from-w : (found : List Bucket) → target_buckets (context_in run s0 scope) target.element
        ≡ Ok found → (E : End (Result State Stopped)) →
        end_of tools id (buckets_by (choice_of Incremental run) run scope s0) j [] ≡ Some E →
        end_of tools id (each_in_turn first found s0) j [] ≡ Some E
    from-w found ew E h = sym (ap (λ z. end_of tools id (unless_stopped (or_failed (or_stop s0 z))
        (λ found. each_in_turn first found s0)) j []) ew) ∙ h

    from-c : (found : List Bucket) → target_buckets (context_in run t0 scope) target.element
        ≡ Ok found → (F : End (Result State Stopped)) →
        end_of tools id (buckets_by all_of run scope t0) k [] ≡ Some F →
        end_of tools id (each_in_turn second found t0) k [] ≡ Some F
    from-c found ec F h = sym (ap (λ z. end_of tools id (unless_stopped (or_failed (or_stop t0 z))
        (λ found. each_in_turn second found t0)) k []) ec) ∙ h

    pub both-end : (found : List Bucket) → target_buckets (context_in run s0 scope) target.element
        ≡ Ok found → target_buckets (context_in run t0 scope) target.element ≡ Ok found →
        (pieces : List Piece) → RunIsDeclared tools id run scope k pieces →
        BothEnd (Fine tools id run scope j k a) found
    both-end found ew ec pieces r =
        let w = r.never_large j a (choice_of Incremental run)
        (decided-may tools id run) in
        let c = r.never_large k (alike-self files k) all_of
        (λ lists s. all-may tools id run lists
        (all_or_nothing lists.inputs lists.outputs) refl) in
        let x = end-mapped tools id (buckets_by (choice_of Incremental run) run scope s0) outcome_of
        j [] w.0 w.1 in
        let y = end-mapped tools id (buckets_by all_of run scope t0) outcome_of k [] c.0 c.1 in
        let ox : outcome_of x.0.value ≡ w.0.value = ap (λ (z : End Outcome). z.value) x.2 in
        let oy : outcome_of y.0.value ≡ c.0.value = ap (λ (z : End Outcome). z.value) y.2 in
        record {
          E = x.0;
          F = y.0;
          first_ends = from-w found ew x.0 x.1;
          second_ends = from-c found ec y.0 y.1;
          first_fine = λ note i.
              w.2 note (subst (λ (o : Outcome). In note o.notes) ox (notes-of x.0.value note i));
          second_fine = λ note i.
              c.2 note (subst (λ (o : Outcome). In note o.notes) oy (notes-of y.0.value note i));
        }

    finish-alike : (E F : End (Result State Stopped)) →
        end_of tools id (buckets_by (choice_of Incremental run) run scope s0) j [] ≡ Some E →
        end_of tools id (buckets_by all_of run scope t0) k [] ≡ Some F →
        GoAlike tools id run scope j k E F → Went
    finish-alike E F he hf g = let o = outcomes-alike tools id run scope j k E.value F.value E.acts
        F.acts g.ends in done-so E F he hf o.0 o.1

    by-buckets : (x : Result (List Bucket) EvalFault) →
        target_buckets (context_in run s0 scope) target.element ≡ x →
        target_buckets (context_in run t0 scope) target.element ≡ x →
        DeclaredBy tools id run scope k (pieces_in tools id all_of run scope
        (or_stop t0 x) t0) → ((p : Piece) → In p
        (pieces_in tools id all_of run scope (or_stop t0 x) t0) →
        PieceIsFresh tools id run p) → Went
    by-buckets (Err fault) ew ec declared fresh =
        let E : End (Result State Stopped) = record {
          value =
              or_failed (Err (stop_at fault s0));
          journal =
              j;
          acts = [];
        } in
        let F : End (Result State Stopped) = record {
          value =
              or_failed (Err (stop_at fault t0));
          journal =
              k;
          acts = [];
        } in
        done-so E F
        (ap (λ z. end_of tools id (unless_stopped (or_failed (or_stop s0 z))
        (λ found. each_in_turn (bucket_by (choice_of Incremental run) run scope) found s0)) j [])
        ew)
        (ap (λ z. end_of tools id (unless_stopped (or_failed (or_stop t0 z))
        (λ found. each_in_turn (bucket_by all_of run scope) found t0)) k []) ec)
        (record { ok = refl; items = refl; changes = refl })
        (record { acted = λ p. inl refl; left_out = λ p b n e. absurd (cc) })
    by-buckets (Ok found) ew ec declared fresh =
        go (pieces_among tools id all_of run scope found t0 []) refl declared
      where
        to-w : (E : End (Result State Stopped)) → end_of tools id
            (each_in_turn (bucket_by (choice_of Incremental run) run scope) found s0) j []
            ≡ Some E →
            end_of tools id (buckets_by (choice_of Incremental run) run scope s0) j [] ≡ Some E
        to-w E h = ap (λ z. end_of tools id (unless_stopped (or_failed (or_stop s0 z))
            (λ found. each_in_turn (bucket_by (choice_of Incremental run) run scope) found s0))
            j []) ew ∙ h

        to-c : (F : End (Result State Stopped)) → end_of tools id
            (each_in_turn (bucket_by all_of run scope) found t0) k [] ≡ Some F →
            end_of tools id (buckets_by all_of run scope t0) k [] ≡ Some F
        to-c F h = ap (λ z. end_of tools id (unless_stopped (or_failed (or_stop t0 z))
            (λ found. each_in_turn (bucket_by all_of run scope) found t0)) k []) ec ∙ h

        go : (pieces : List Piece) → pieces_among tools id all_of run scope found t0 []
            ≡ pieces → DeclaredBy tools id run scope k
            (pieces_among tools id all_of run scope found t0 []) → Went
        go [] e d =
            let x = none-goes tools id run scope j k a Incremental takes-clean found s0 t0 [] []
            at-start e in
            finish-alike x.0 x.1 (to-w x.0 x.2) (to-c x.1 x.3) x.4
        go (p ∷ ps) e d =
            let r : RunIsDeclared tools id run scope k (p ∷ ps) =
            subst (DeclaredBy tools id run scope k) e d in
            let x = both-end found ew ec (p ∷ ps) r in
            let g = buckets-go tools id run scope j k Incremental (Fine tools id run scope j k a)
            (Said tools id run scope j k a) (bucket-goes tools id run scope j k a Incremental
            (goes target scope id j k a fw fc) takes-clean)
            (bucket-keeps tools id run (choice_of Incremental run) scope)
            (bucket-keeps tools id run all_of scope) found s0 t0 []
            [] at-start x.E x.F x.first_ends x.second_ends x.first_fine x.second_fine
            (λ q i. (r.each q (subst (In q) e i), fresh q i)) in
            finish-alike x.E x.F (to-w x.E x.first_ends) (to-c x.F x.second_ends) g

  pub runs-go : RunsGo tools files
  runs-go target scope id j k made a declared fresh takes fw fc =
      by-buckets target scope id j k made a takes fw fc
      (target_buckets (context_in (run_at files id target)
      (begun scope k) scope) target.element) (buckets-same target scope id j k made a takes fw
      fc) refl declared fresh
