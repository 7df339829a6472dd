-- The buckets of a run, one after the other, where each one is over at once.
use Rattle.std.proofs.Common.{
  ◌≡◌,
  ℕ,
  ◌+◌,
  ◌⊎◌,
  inl,
  inr,
  Bool,
  true,
  false,
  List,
  [],
  ◌∷◌,
  ◌++◌,
  length,
  Option,
  None,
  Some,
  is_some,
  refl,
  ap,
  sym,
  ◌∙◌,
  subst,
  arith,
  length-append,
}
use Rattle.std.specs.Prelude.{Result, Ok, Err}
use Rattle.msb_values.specs.declared.mode.Mode.TheVariants.{Incremental}
use Rattle.msb_values.specs.declared.note.Note.{Note}
use Rattle.msb_values.specs.declared.act.Act.{Act}
use Rattle.msb_values.specs.declared.scope.Scope.{Scope}
use Rattle.msb_expand.specs.declared.lens.Bucket.{Bucket}
use Rattle.result_cache.specs.declared.record.Decision.{Decision}
use Rattle.result_cache.specs.declared.record.Decision.TheVariants.{
  Ran,
  UpToDate,
  NothingToDo,
  Part as InPart,
  Failed,
}
use Rattle.result_cache.specs.declared.run.RunId.{RunId}
use Rattle.result_cache.specs.Lists.{In}
use Rattle.result_cache.specs.Journal.{Journal, content}
use Rattle.build_world.specs.declared.fault.EvalFault.{EvalFault}
use Rattle.build_meaning.proofs.MeaningDerived.{in-left, in-right}
use Rattle.build_incremental.specs.Alike.{AlikeJournals}
use Rattle.build_incremental.proofs.Entries.{in-parts}
use Rattle.task_trait.specs.declared.tools.ToolAnswer.{ToolAnswer}
use Rattle.task_trait.specs.declared.tools.ToolInput.{ToolInput}
use Rattle.target_incremental.specs.declared.decision.Choice.TheVariants.{
  Run as RunAll,
  Skip,
  Nothing,
}
use Rattle.target_texts.specs.Lists.{Lists}
use Rattle.target_body.specs.Work.{Work, done, followed_by, unless_stopped, each_in_turn}
use Rattle.target_body.specs.States.{Run, State, Stopped, entered, progress_at}
use Rattle.target_body.specs.Pieces.{lists_at, choice_of, or_failed}
use Rattle.build_declared.proofs.PartEnds.{progress_in}
use Rattle.build_declared.specs.Chosen.{all_of, all_or_nothing}
use Rattle.build_declared.specs.Written.{bytes_in, AnyPath}
use Rattle.build_declared.specs.Ends.{End, end_of}
use Rattle.build_declared.specs.NoOlder.{PieceIsNoOlder}
use Rattle.build_declared.specs.Pieces.{Piece, one_if, piece_if, then_pieces, pieces_among}
use Rattle.build_declared.specs.Skipped.{IsIdle, one_if_up, up_to_date}
use Rattle.build_declared.proofs.Alones.{with_value, some-same, end-bound, KeepsNotes}
use Rattle.build_declared.proofs.BucketsGo.{
  Carry,
  carry-alike,
  EndsAlike,
  InStep,
  GoAlike,
  IsFine,
  AreSo,
  BucketGoes,
  rest-keeps,
  first_of,
  second_of,
}
use Rattle.build_declared.proofs.EmptyBuckets.{IsEmpty, nothing-chosen}
use Rattle.build_declared.proofs.NewPieces.{new-skips}
use Rattle.build_declared.proofs.PieceSkips.{first-output}
use Rattle.build_declared.proofs.RunLists.{Said, piece_at, bucket-whole}
use Rattle.build_declared.proofs.SkippedPieces.{skip-kept}
use Rattle.build_declared.proofs.SkippedWork.{
  EndsBy,
  IsOver,
  skip-over,
  nothing-over,
  fault-over,
}

-- ---- words

abbrev pub AllIdle : Bool → List Decision → Type 0
AllIdle ok words = (word : Decision) → In word words → IsIdle ok word

-- a run goes on, or has stopped, with such words
abbrev pub HasIdle : Result State Stopped → Type 0
HasIdle (Ok s) = AllIdle true s.decisions
HasIdle (Err d) = AllIdle false (progress_at d).decisions

fails-too : (word : Decision) → IsIdle true word → IsIdle false word
fails-too Ran h = h
fails-too UpToDate h = tt
fails-too NothingToDo h = tt
fails-too (InPart old all) h = h
fails-too Failed h = refl

one-more : (ok : Bool) (words : List Decision) (word : Decision) → AllIdle ok words →
    IsIdle ok word → AllIdle ok (words ++ word ∷ [])
one-more ok words word a known other i = elim (in-parts other words (word ∷ []) i) [
  | inl u ↦ a other u
  | inr u ↦ elim u [ inl e ↦ subst (IsIdle ok) e known | inr n ↦ absurd n ]
]

idle-by : (word : Decision) → IsIdle true word → (before : List Decision)
    (r : Result State Stopped) → EndsBy word before r → AllIdle true before → HasIdle r
idle-by word known before (Ok t) h a = subst (AllIdle true) (sym h)
    (one-more true before word a known)
idle-by word known before (Err d) h a = subst (AllIdle false) (sym h)
    (one-more false before Failed (λ other i. fails-too other (a other i)) refl)

counts-more : (words : List Decision) (word : Decision) →
    up_to_date (words ++ word ∷ []) ≡ up_to_date words + one_if_up word
counts-more [] word = let e : one_if_up word + 0 ≡ 0 + one_if_up word = omega arith in e
counts-more (other ∷ words) word =
    let h : up_to_date (words ++ word ∷ []) ≡ up_to_date words + one_if_up word =
    counts-more words word in
    omega (arith, h)

plus-none : (n : ℕ) → n ≡ n + 0
plus-none n = omega arith

-- how many more words say `up to date`
abbrev gain : Decision → Result State Stopped → ℕ
gain word (Ok t) = one_if_up word
gain word (Err d) = 0

counts-by : (word : Decision) (before : List Decision) (r : Result State Stopped) →
    EndsBy word before r → up_to_date (progress_in r).decisions ≡ up_to_date before + gain word r
counts-by word before (Ok t) h = ap up_to_date h ∙ counts-more before word
counts-by word before (Err d) h = ap up_to_date h ∙ counts-more before Failed

no-gain : (r : Result State Stopped) → gain NothingToDo r ≡ 0
no-gain (Ok t) = refl
no-gain (Err d) = refl

none-at : (p : Piece) (inputs outputs : List (List ℕ)) →
    all_or_nothing inputs outputs ≡ Nothing → one_if p inputs outputs ≡ []
none-at p [] outputs e = refl
none-at p (input ∷ inputs) [] e = refl
none-at p (input ∷ inputs) (output ∷ outputs) e = absurd (cc)

one-at : (p : Piece) (inputs outputs : List (List ℕ)) →
    all_or_nothing inputs outputs ≡ RunAll → one_if p inputs outputs ≡ p ∷ []
one-at p [] outputs e = absurd (cc)
one-at p (input ∷ inputs) [] e = absurd (cc)
one-at p (input ∷ inputs) (output ∷ outputs) e = refl

module _ (tools : List ℕ → ToolInput → ToolAnswer) (id : RunId) (run : Run) (scope : Scope)
    (j k : Journal) where
  abbrev first : Bucket → State → Work (Result State Stopped)
  first = first_of tools id run scope j k Incremental

  abbrev second : Bucket → State → Work (Result State Stopped)
  second = second_of tools id run scope j k

  -- ---- one bucket

  -- a bucket is over at once, and each of its pieces is skipped
  pub record IdleAt (bucket : Bucket) (s : State) (pieces : List Piece) : Type 0 where
    pub end : Result State Stopped
    pub at_once : first bucket s ≡ done end
    pub words : AllIdle true s.decisions → HasIdle end
    pub as_many : up_to_date (progress_in end).decisions
        ≡ up_to_date s.decisions + length pieces
    pub skips : (p : Piece) → In p pieces → choice_of Incremental run p.lists p.from ≡ Skip

  abbrev pub pieces_here : Bucket → State → List Piece
  pieces_here bucket s = let begins : State = entered scope bucket s in
      piece_if bucket begins [] (lists_at run bucket begins)

  idle-over : (word : Decision) → IsIdle true word → (bucket : Bucket) (s : State)
      (pieces : List Piece) → (o : IsOver word s.decisions (first bucket s)) →
      gain word o.end ≡ length pieces →
      ((p : Piece) → In p pieces → choice_of Incremental run p.lists p.from ≡ Skip) →
      IdleAt bucket s pieces
  idle-over word known bucket s pieces o g skips = record {
    end = o.end;
    at_once = o.at_once;
    words = idle-by word known s.decisions o.end o.words;
    as_many = counts-by word s.decisions o.end o.words ∙ ap (λ n. up_to_date s.decisions + n) g;
    skips = skips;
  }

  module _ (a : AlikeJournals (bytes_in run.files) AnyPath j k) where
    -- a bucket without a piece
    pub empty-idle : (bucket : Bucket) (s : State) → IsEmpty tools id run scope j k a
        (lists_at run bucket (entered scope bucket s)) → IdleAt bucket s (pieces_here bucket s)
    empty-idle bucket s h = go (lists_at run bucket (entered scope bucket s)) refl h
      where
        go : (l : Result (Option Lists) EvalFault) →
            lists_at run bucket (entered scope bucket s) ≡ l →
            IsEmpty tools id run scope j k a l → IdleAt bucket s (pieces_here bucket s)
        go (Ok None) e m = absurd m
        go (Err fault) e m =
            let o = fault-over run (choice_of Incremental run) scope bucket s fault e in
            subst (IdleAt bucket s) (sym (ap (piece_if bucket (entered scope bucket s) []) e))
            (idle-over NothingToDo tt bucket s [] o (no-gain o.end) (λ p i. absurd i))
        go (Ok (Some lists)) e m =
            let x : State = entered scope bucket s in
            let p : Piece = record { bucket = bucket; lists = lists; from = x; before = [] } in
            let o = nothing-over run (choice_of Incremental run) scope bucket s lists e
            (nothing-chosen tools id run scope j k a Incremental lists x m) in
            subst (IdleAt bucket s) (sym (ap (piece_if bucket x []) e
            ∙ none-at p lists.inputs lists.outputs m))
            (idle-over NothingToDo tt bucket s [] o (no-gain o.end) (λ p i. absurd i))

    -- A piece whose outputs are no older than its inputs, and on whose files nobody has acted by
    -- the journal with which the first run begins.
    pub record IsNew (p : Piece) : Type 0 where
      pub no_older : PieceIsNoOlder run.files p
      pub untouched : (path : List ℕ) → In path p.lists.inputs ⊎ In path p.lists.outputs →
          content j path ≡ None

    abbrev pub SaidNew : Piece → Type 0
    SaidNew p = Said tools id run scope j k a p × IsNew p

    -- a bucket with such a piece
    pub piece-idle : (bucket : Bucket) (lists : Lists) (s t : State)
        (pt : List Act) → Carry tools id run scope j k s t [] pt →
        lists_at run bucket (entered scope bucket s) ≡ Ok (Some lists) →
        lists_at run bucket (entered scope bucket t) ≡ Ok (Some lists) →
        all_or_nothing lists.inputs lists.outputs ≡ RunAll → (E F : End (Result State Stopped)) →
        end_of tools id (first bucket s) s.journal [] ≡ Some E →
        end_of tools id (second bucket t) t.journal pt ≡ Some F →
        GoAlike tools id run scope j k E F →
        SaidNew (piece_at tools id run scope j k a bucket lists t pt) →
        IdleAt bucket s (pieces_here bucket s)
    piece-idle bucket lists s t pt c lw lc all E F he hf g said =
        let p : Piece = piece_at tools id run scope j k a bucket lists t pt in
        let x : State = entered scope bucket s in
        let y : State = entered scope bucket t in
        let met : Piece = record { bucket = bucket; lists = lists; from = x; before = [] } in
        let chosen : choice_of Incremental run lists x ≡ Skip =
        new-skips run p said.1.no_older x
        (λ path i. ap (λ l. is_some (content l path)) c.w_is
        ∙ ap is_some (said.1.untouched path i)) all in
        let over = skip-over run (choice_of Incremental run) scope bucket s lists lw chosen in
        let alike = carry-alike tools id run scope j k a s t [] pt c in
        let kept = skip-kept tools id run p said.0.1 x alike.same chosen in
        let output = first-output lists.inputs lists.outputs all in
        let w = (kept output.0 output.1).2 in
        let whole : End (Result State Stopped) = record {
          value = Ok w.0;
          journal = w.0.journal;
          acts = w.1;
        } in
        let v = bucket-whole tools id run bucket y lists t.journal pt F lc all hf in
        let f : whole ≡ F =
        ap (with_value or_failed) (some-same whole v.0 (sym w.2 ∙ v.1)) ∙ v.2 in
        let e : record { value = over.end; journal = s.journal; acts = [] } ≡ E =
        some-same (record { value = over.end; journal = s.journal; acts = [] }) E
        (sym (ap (λ v. end_of tools id v s.journal []) over.at_once) ∙ he) in
        let ends : EndsAlike tools id run scope j k over.end (Ok w.0) [] w.1 =
        subst (λ (z : End (Result State Stopped)).
        EndsAlike tools id run scope j k z.value (Ok w.0) z.acts w.1) (sym e)
        (subst (λ (z : End (Result State Stopped)).
        EndsAlike tools id run scope j k E.value z.value E.acts z.acts) (sym f) g.ends) in
        subst (IdleAt bucket s) (sym (ap (piece_if bucket x []) lw
        ∙ one-at met lists.inputs lists.outputs all))
        (idle-over UpToDate tt bucket s (met ∷ []) over (gains over.end w.0 w.1 ends)
        (λ q i. elim i [
          | inl same ↦
              subst (λ (z : Piece). choice_of Incremental run z.lists z.from ≡ Skip) same chosen
          | inr n ↦ absurd n
        ]))
      where
        gains : (r : Result State Stopped) (after : State) (qt : List Act) →
            EndsAlike tools id run scope j k r (Ok after) [] qt → gain UpToDate r ≡ 1
        gains (Ok z) after qt h = refl
        gains (Err d) after qt h = absurd h

  -- ---- all buckets

  -- they are over at once, and each of their pieces is skipped
  pub record IdleAll (buckets : List Bucket) (s : State) : Type 0 where
    pub end : Result State Stopped
    pub at_once : each_in_turn first buckets s ≡ done end
    pub words : HasIdle end
    pub as_many : up_to_date (progress_in end).decisions ≡ up_to_date s.decisions
        + length (pieces_among tools id (choice_of Incremental run) run scope buckets s [])
    pub skips : (p : Piece) →
        In p (pieces_among tools id (choice_of Incremental run) run scope buckets s []) →
        choice_of Incremental run p.lists p.from ≡ Skip

  abbrev pub BucketIdles : (Piece → Type 0) → Type 0
  BucketIdles S = (bucket : Bucket) (s t : State) (pt : List Act) →
      Carry tools id run scope j k s t [] pt → (E F : End (Result State Stopped)) →
      end_of tools id (first bucket s) s.journal [] ≡ Some E →
      end_of tools id (second bucket t) t.journal pt ≡ Some F →
      GoAlike tools id run scope j k E F →
      AreSo tools id run scope j k S (piece_if bucket (entered scope bucket t) pt
      (lists_at run bucket (entered scope bucket t))) → IdleAt bucket s (pieces_here bucket s)

  module _ (Fine : Note → Type 0) (S : Piece → Type 0)
      (goes : BucketGoes tools id run scope j k Incremental Fine S) (idles : BucketIdles S)
      (first-keeps : (bucket : Bucket) (s : State) → KeepsNotes tools id s (first bucket s))
      (second-keeps : (bucket : Bucket) (t : State) →
      KeepsNotes tools id t (second bucket t)) where
    -- what is to be shown of some buckets
    abbrev Idles : List Bucket → Type 0
    Idles buckets = (s t : State) (pt : List Act) → Carry tools id run scope j k s t [] pt →
        AllIdle true s.decisions → (E F : End (Result State Stopped)) →
        end_of tools id (each_in_turn first buckets s) s.journal [] ≡ Some E →
        end_of tools id (each_in_turn second buckets t) t.journal pt ≡ Some F →
        IsFine tools id run scope j k Fine E.value → IsFine tools id run scope j k Fine F.value →
        AreSo tools id run scope j k S (pieces_among tools id all_of run scope buckets t pt) →
        IdleAll buckets s

    -- the pieces of some buckets behind one that is over
    abbrev rest : Journal → List Bucket → Result State Stopped → List Piece
    rest l buckets r = then_pieces (end_of tools id (done r) l [])
        (pieces_among tools id (choice_of Incremental run) run scope buckets)

    -- what follows from the end of a bucket
    record Next (l : Journal) (buckets : List Bucket) (r : Result State Stopped) : Type 0 where
      end : Result State Stopped
      over : unless_stopped r (each_in_turn first buckets) ≡ done end
      words : HasIdle end
      as_many : up_to_date (progress_in end).decisions ≡ up_to_date (progress_in r).decisions
          + length (rest l buckets r)
      skips : (p : Piece) → In p (rest l buckets r) →
          choice_of Incremental run p.lists p.from ≡ Skip

    then-idle : (bucket : Bucket) (buckets : List Bucket) (s : State) →
        (o : IdleAt bucket s (pieces_here bucket s)) → Next s.journal buckets o.end →
        IdleAll (bucket ∷ buckets) s
    then-idle bucket buckets s o n =
        let here : List Piece = pieces_here bucket s in
        let later : List Piece = rest s.journal buckets o.end in
        let all : pieces_among tools id (choice_of Incremental run) run scope
        (bucket ∷ buckets) s [] ≡ here ++ later =
        ap (λ v. here ++ then_pieces (end_of tools id v s.journal [])
        (pieces_among tools id (choice_of Incremental run) run scope buckets)) o.at_once in
        let long : length (here ++ later) ≡ length here + length later =
        length-append here later in
        let one : up_to_date (progress_in o.end).decisions ≡ up_to_date s.decisions + length here =
        o.as_many in
        let two : up_to_date (progress_in n.end).decisions
        ≡ up_to_date (progress_in o.end).decisions
        + length later = n.as_many in
        let sum : up_to_date (progress_in n.end).decisions ≡ up_to_date s.decisions
        + length (here ++ later) = omega (arith, long, one, two) in
        record {
          end = n.end;
          at_once = ap (λ v. followed_by v (λ end. unless_stopped end
              (each_in_turn first buckets))) o.at_once ∙ n.over;
          words = n.words;
          as_many = sum ∙ ap (λ l. up_to_date s.decisions + length l) (sym all);
          skips = λ p i. elim (in-parts p here later (subst (In p) all i))
              [ inl u ↦ o.skips p u | inr u ↦ n.skips p u ];
        }

    next-idle : (bucket : Bucket) (buckets : List Bucket) → Idles buckets →
        Idles (bucket ∷ buckets)
    next-idle bucket buckets ih s t pt c words E F he hf fe ff so =
        let x = end-bound tools id (first bucket s)
        (λ end. unless_stopped end (each_in_turn first buckets)) s.journal [] E he in
        let y = end-bound tools id (second bucket t)
        (λ end. unless_stopped end (each_in_turn second buckets)) t.journal pt F hf in
        let fine-e : IsFine tools id run scope j k Fine x.0.value = λ note i.
        fe note (rest-keeps tools id run scope j k first first-keeps buckets x.0.value x.0.journal
        x.0.acts E x.2 note i) in
        let fine-f : IsFine tools id run scope j k Fine y.0.value = λ note i.
        ff note (rest-keeps tools id run scope j k second second-keeps buckets y.0.value
        y.0.journal y.0.acts F y.2 note i) in
        let here = piece_if bucket (entered scope bucket t) pt
        (lists_at run bucket (entered scope bucket t)) in
        let later = then_pieces (end_of tools id (second bucket t) t.journal pt)
        (pieces_among tools id all_of run scope buckets) in
        let so-here : AreSo tools id run scope j k S here = λ p i. so p (in-left p here later i) in
        let so-later : AreSo tools id run scope j k S (then_pieces (Some y.0)
        (pieces_among tools id all_of run scope buckets)) =
        λ p i. so p (in-right p here later (subst (λ z. In p (then_pieces z
        (pieces_among tools id all_of run scope buckets))) (sym y.1) i)) in
        let g = goes bucket s t [] pt c x.0 y.0 x.1 y.1 fine-e fine-f so-here in
        let o = idles bucket s t pt c x.0 y.0 x.1 y.1 g so-here in
        let e : record { value = o.end; journal = s.journal; acts = [] } ≡ x.0 =
        some-same (record { value = o.end; journal = s.journal; acts = [] }) x.0
        (sym (ap (λ v. end_of tools id v s.journal []) o.at_once) ∙ x.1) in
        let g2 : GoAlike tools id run scope j k
        (record { value = o.end; journal = s.journal; acts = [] }) y.0 =
        subst (λ z. GoAlike tools id run scope j k z y.0) (sym e) g in
        let he2 : end_of tools id (unless_stopped o.end (each_in_turn first buckets)) s.journal []
        ≡ Some E =
        subst (λ (z : End (Result State Stopped)). end_of tools id (unless_stopped z.value
        (each_in_turn first buckets)) z.journal z.acts ≡ Some E) (sym e) x.2 in
        then-idle bucket buckets s o (go o.end y.0.value y.0.journal y.0.acts (o.words words)
        g2.ends g2.w_step g2.c_step he2 y.2 so-later ih)
      where
        go : (r q : Result State Stopped) (m : Journal) (qt : List Act) → HasIdle r →
            EndsAlike tools id run scope j k r q [] qt → InStep tools id run scope j k r s.journal →
            InStep tools id run scope j k q m → end_of tools id
            (unless_stopped r (each_in_turn first buckets)) s.journal [] ≡ Some E →
            end_of tools id (unless_stopped q (each_in_turn second buckets)) m qt ≡ Some F →
            AreSo tools id run scope j k S (then_pieces (Some (record {
              value = q;
              journal = m;
              acts = qt;
            })) (pieces_among tools id all_of run scope buckets)) → Idles buckets →
            Next s.journal buckets r
        go (Ok u) (Ok v) m qt w ends a b he hf so ih =
            let n = ih u v qt ends w E F
            (subst (λ z. end_of tools id (each_in_turn first buckets u) z [] ≡ Some E) (sym a) he)
            (subst (λ z. end_of tools id (each_in_turn second buckets v) z qt ≡ Some F) (sym b) hf)
            fe ff so in
            record {
              end = n.end;
              over = n.at_once;
              words = n.words;
              as_many = n.as_many;
              skips = n.skips;
            }
        go (Ok u) (Err d) m qt w ends a b he hf so ih = absurd ends
        go (Err d) q m qt w ends a b he hf so ih = record {
          end = Err d;
          over = refl;
          words = w;
          as_many = plus-none (up_to_date (progress_at d).decisions);
          skips = λ p i. absurd i;
        }

    pub idle-go : (buckets : List Bucket) → Idles buckets
    idle-go [] = λ s t pt c words E F he hf fe ff so. record {
      end = Ok s;
      at_once = refl;
      words = words;
      as_many = plus-none (up_to_date s.decisions);
      skips = λ p i. absurd i;
    }
    idle-go (bucket ∷ buckets) = next-idle bucket buckets (idle-go buckets)
