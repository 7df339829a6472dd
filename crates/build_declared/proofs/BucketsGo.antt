-- The buckets of a run in two modes, one after the other, where each goes alike.
use Rattle.std.proofs.Common.{◌≡◌, ℕ, List, [], ◌∷◌, ◌++◌, Option, Some, refl, ap, sym, ◌∙◌, subst}
use Rattle.std.specs.Prelude.{Result, Ok, Err, unwrap_or}
use Rattle.std.specs.Option.{option_or}
use Rattle.msb_values.specs.declared.mode.Mode.{Mode}
use Rattle.msb_values.specs.declared.note.Note.{Note}
use Rattle.msb_values.specs.declared.act.Act.{Act}
use Rattle.msb_values.specs.declared.scope.Scope.{Scope}
use Rattle.msb_expand.specs.declared.lens.Bucket.{Bucket}
use Rattle.result_cache.specs.Lists.{In}
use Rattle.result_cache.specs.declared.run.RunId.{RunId}
use Rattle.result_cache.specs.Journal.{Journal, record_of}
use Rattle.build_meaning.proofs.MeaningDerived.{in-left, in-right}
use Rattle.build_incremental.specs.Alike.{seen, AlikeFound, AlikeOutcomes, AlikeJournals}
use Rattle.build_incremental.specs.Alone.{LacksOnly}
use Rattle.build_incremental.proofs.Entries.{record-append}
use Rattle.build_incremental.proofs.Numbered.{numbered, content-numbered}
use Rattle.build_incremental.proofs.OpenRuns.{numbered-record, lacks-same}
use Rattle.build_incremental.proofs.Moves.{seen-append}
use Rattle.task_trait.specs.declared.tools.ToolAnswer.{ToolAnswer}
use Rattle.task_trait.specs.declared.tools.ToolInput.{ToolInput}
use Rattle.target_body.specs.Work.{Work, unless_stopped, each_in_turn}
use Rattle.target_body.specs.States.{Run, State, Stopped, progress_at, entered, outcome_of}
use Rattle.target_body.specs.Pieces.{lists_at, choice_of, bucket_by}
use Rattle.build_declared.proofs.PartEnds.{progress_in}
use Rattle.build_declared.specs.Chosen.{all_of}
use Rattle.build_declared.specs.Written.{bytes_in, AnyPath}
use Rattle.build_declared.specs.Ends.{End, end_of}
use Rattle.build_declared.specs.Pieces.{Piece, piece_if, then_pieces, pieces_among}
use Rattle.build_declared.proofs.Alones.{some-same, end-bound, KeepsNotes, keeps-each}

-- a run, in a build and in the clean one; the journals with which they begin
module _ (tools : List ℕ → ToolInput → ToolAnswer) (id : RunId) (run : Run) (scope : Scope)
    (j k : Journal) where
  abbrev T : List ℕ → Option (List ℕ)
  T = bytes_in run.files

  -- between two buckets: what the record says of both is the same, and the first has left out to
  -- write only what was there
  pub record Carry (s t : State) (ps pt : List Act) : Type 0 where
    pub items : s.items ≡ t.items
    pub changes : s.changes ≡ t.changes
    pub w_is : s.journal ≡ numbered id ps ++ j
    pub c_is : t.journal ≡ numbered id pt ++ k
    pub lacks : LacksOnly T j ps pt

  -- so the journals are alike
  pub carry-alike : AlikeJournals T AnyPath j k → (s t : State) (ps pt : List Act) →
      Carry s t ps pt → AlikeJournals T AnyPath s.journal t.journal
  carry-alike a s t ps pt h = subst (λ z. AlikeJournals T AnyPath z t.journal) (sym h.w_is)
      (subst (AlikeJournals T AnyPath (numbered id ps ++ j)) (sym h.c_is) (record {
        same = λ p.
            seen-append T AnyPath (numbered id ps) j p
            ∙ (ap (λ z. unwrap_or z (seen T j p)) (content-numbered id ps p)
            ∙ (lacks-same T AnyPath (λ r m. Unit {0}) j k ps pt a h.lacks p
            ∙ (sym (ap (λ z. unwrap_or z (seen T k p)) (content-numbered id pt p))
            ∙ sym (seen-append T AnyPath (numbered id pt) k p))));
        records = λ r.
            subst (λ x. AlikeFound x (record_of (numbered id pt ++ k) r))
            (sym (record-append (numbered id ps) j r
            ∙ ap (λ z. option_or z (record_of j r)) (numbered-record id r ps)))
            (subst (AlikeFound (record_of j r)) (sym (record-append (numbered id pt) k r
            ∙ ap (λ z. option_or z (record_of k r)) (numbered-record id r pt))) (a.records r));
        only = λ r n act i. tt;
      }))

  -- two ends of buckets: both come to an end, and so it goes on, or both have stopped
  abbrev pub StopsAlike : (d e : Stopped) → List Act → List Act → Type 0
  StopsAlike d e ps pt = ((progress_at d).changes ≡ (progress_at e).changes) × LacksOnly T j ps pt

  abbrev pub EndsAlike : Result State Stopped → Result State Stopped → List Act → List Act → Type 0
  EndsAlike (Ok s) (Ok t) ps pt = Carry s t ps pt
  EndsAlike (Ok s) (Err e) ps pt = ⊥
  EndsAlike (Err d) (Ok t) ps pt = ⊥
  EndsAlike (Err d) (Err e) ps pt = StopsAlike d e ps pt

  -- the state's journal is the one then
  abbrev pub InStep : Result State Stopped → Journal → Type 0
  InStep (Ok s) l = s.journal ≡ l
  InStep (Err d) l = Unit {0}

  pub record GoAlike (E F : End (Result State Stopped)) : Type 0 where
    pub ends : EndsAlike E.value F.value E.acts F.acts
    pub w_step : InStep E.value E.journal
    pub c_step : InStep F.value F.journal

  abbrev pub first_of : Mode → Bucket → State → Work (Result State Stopped)
  first_of mode bucket s = bucket_by (choice_of mode run) run scope bucket s

  abbrev pub second_of : Bucket → State → Work (Result State Stopped)
  second_of bucket t = bucket_by all_of run scope bucket t

  -- one bucket goes alike, where notes are as Fine says, and pieces of the clean run as S says
  abbrev pub IsFine : (Note → Type 0) → Result State Stopped → Type 0
  IsFine Fine r = (note : Note) → In note (progress_in r).notes → Fine note

  abbrev pub AreSo : (Piece → Type 0) → List Piece → Type 0
  AreSo S pieces = (p : Piece) → In p pieces → S p

  abbrev pub BucketGoes : Mode → (Note → Type 0) → (Piece → Type 0) → Type 0
  BucketGoes mode Fine S = (bucket : Bucket) (s t : State) (ps pt : List Act) → Carry s t ps pt →
      (E F : End (Result State Stopped)) → end_of tools id (first_of mode bucket s) s.journal ps
      ≡ Some E → end_of tools id (second_of bucket t) t.journal pt ≡ Some F →
      IsFine Fine E.value → IsFine Fine F.value →
      AreSo S (piece_if bucket (entered scope bucket t) pt
      (lists_at run bucket (entered scope bucket t))) → GoAlike E F

  -- the notes of a bucket are among those of the run
  pub rest-keeps : (part : Bucket → State → Work (Result State Stopped)) →
      ((bucket : Bucket) (s : State) → KeepsNotes tools id s (part bucket s)) →
      (buckets : List Bucket) (r : Result State Stopped) (l : Journal) (qs : List Act)
      (E : End (Result State Stopped)) →
      end_of tools id (unless_stopped r (each_in_turn part buckets)) l qs ≡ Some E →
      (note : Note) → In note (progress_in r).notes → In note (progress_in E.value).notes
  rest-keeps part f buckets (Ok s) l qs E h note i =
      keeps-each tools id part f buckets s l qs E h note i
  rest-keeps part f buckets (Err d) l qs E h note i =
      let same : record { value = Err d; journal = l; acts = qs } ≡ E =
      some-same (record { value = Err d; journal = l; acts = qs }) E h in
      subst (λ (z : End (Result State Stopped)). In note (progress_in z.value).notes) same i

  module _ (mode : Mode) (Fine : Note → Type 0) (S : Piece → Type 0)
      (goes : BucketGoes mode Fine S)
      (first-keeps : (bucket : Bucket) (s : State) → KeepsNotes tools id s (first_of mode bucket s))
      (second-keeps : (bucket : Bucket) (t : State) →
      KeepsNotes tools id t (second_of bucket t)) where
    pub buckets-go : (buckets : List Bucket) (s t : State) (ps pt : List Act) → Carry s t ps pt →
        (E F : End (Result State Stopped)) → end_of tools id
        (each_in_turn (first_of mode) buckets s) s.journal ps ≡ Some E →
        end_of tools id (each_in_turn second_of buckets t) t.journal pt ≡ Some F →
        IsFine Fine E.value → IsFine Fine F.value →
        AreSo S (pieces_among tools id all_of run scope buckets t pt) → GoAlike E F
    buckets-go [] s t ps pt c E F he hf fe ff so =
        let e : record { value = Ok s; journal = s.journal; acts = ps } ≡ E =
        some-same (record { value = Ok s; journal = s.journal; acts = ps }) E he in
        let f : record { value = Ok t; journal = t.journal; acts = pt } ≡ F =
        some-same (record { value = Ok t; journal = t.journal; acts = pt }) F hf in
        subst (λ z. GoAlike z F) e (subst (GoAlike (record {
          value = Ok s;
          journal =
              s.journal;
          acts = ps;
        })) f (record { ends = c; w_step = refl; c_step = refl }))
    buckets-go (bucket ∷ buckets) s t ps pt c E F he hf fe ff so =
        let x = end-bound tools id (first_of mode bucket s)
        (λ end. unless_stopped end (each_in_turn (first_of mode) buckets)) s.journal ps E he in
        let y = end-bound tools id (second_of bucket t)
        (λ end. unless_stopped end (each_in_turn second_of buckets)) t.journal pt F hf in
        let fine-e : IsFine Fine x.0.value = λ note i.
        fe note (rest-keeps (first_of mode) first-keeps buckets x.0.value x.0.journal x.0.acts E x.2
        note i) in
        let fine-f : IsFine Fine y.0.value = λ note i.
        ff note (rest-keeps second_of second-keeps buckets y.0.value y.0.journal y.0.acts F y.2 note
        i) in
        let here = piece_if bucket (entered scope bucket t) pt
        (lists_at run bucket (entered scope bucket t)) in
        let later = then_pieces (end_of tools id (second_of bucket t) t.journal pt)
        (pieces_among tools id all_of run scope buckets) in
        let one = goes bucket s t ps pt c x.0 y.0 x.1 y.1 fine-e fine-f
        (λ p i. so p (in-left p here later i)) in
        go x.0.value y.0.value x.0.journal y.0.journal x.0.acts y.0.acts one.ends one.w_step
        one.c_step x.2 y.2 (buckets-go buckets)
        (λ p i. so p (in-right p here later (subst
        (λ z. In p (then_pieces z (pieces_among tools id all_of run scope buckets)))
        (sym y.1) i)))
      where
        go : (r q : Result State Stopped) (l m : Journal) (ps pt : List Act) → EndsAlike r q ps pt →
            InStep r l → InStep q m → end_of tools id
            (unless_stopped r (each_in_turn (first_of mode) buckets)) l ps ≡ Some E →
            end_of tools id (unless_stopped q (each_in_turn second_of buckets)) m pt ≡ Some F →
            ((s t : State) (ps pt : List Act) → Carry s t ps pt →
            (E F : End (Result State Stopped)) → end_of tools id
            (each_in_turn (first_of mode) buckets s) s.journal ps ≡ Some E →
            end_of tools id (each_in_turn second_of buckets t) t.journal pt ≡ Some F →
            IsFine Fine E.value → IsFine Fine F.value →
            AreSo S (pieces_among tools id all_of run scope buckets t pt) →
            GoAlike E F) →
            AreSo S (then_pieces (Some (record { value = q; journal = m; acts = pt }))
            (pieces_among tools id all_of run scope buckets)) → GoAlike E F
        go (Ok s) (Ok t) l m ps pt c a b he hf ih so =
            ih s t ps pt c E F (subst (λ z. end_of tools id
            (each_in_turn (first_of mode) buckets s) z ps ≡ Some E) (sym a) he)
            (subst (λ z. end_of tools id (each_in_turn second_of buckets t) z pt ≡ Some F)
            (sym b) hf) fe ff so
        go (Ok s) (Err e) l m ps pt c a b he hf ih so = absurd c
        go (Err d) (Ok t) l m ps pt c a b he hf ih so = absurd c
        go (Err d) (Err e) l m ps pt c a b he hf ih so =
            let x : record { value = Err d; journal = l; acts = ps } ≡ E =
            some-same (record { value = Err d; journal = l; acts = ps }) E he in
            let y : record { value = Err e; journal = m; acts = pt } ≡ F =
            some-same (record { value = Err e; journal = m; acts = pt }) F hf in
            subst (λ z. GoAlike z F) x (subst (GoAlike (record {
              value = Err d;
              journal = l;
              acts =
                  ps;
            })) y (record { ends = c; w_step = tt; c_step = tt }))

  -- what the record says
  pub outcomes-alike : (r q : Result State Stopped) (ps pt : List Act) → EndsAlike r q ps pt →
      AlikeOutcomes (outcome_of r) (outcome_of q) × LacksOnly T j ps pt
  outcomes-alike (Ok s) (Ok t) ps pt c = (
    record {
      ok = refl;
      items = c.items;
      changes =
          c.changes;
    },
    c.lacks,
  )
  outcomes-alike (Ok s) (Err e) ps pt c = absurd c
  outcomes-alike (Err d) (Ok t) ps pt c = absurd c
  outcomes-alike (Err d) (Err e) ps pt c = (record { ok = refl; items = refl; changes = c.0 }, c.1)
