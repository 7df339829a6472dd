-- The pieces of a run in a build and in the clean build of the same files: what each leaves.
use Rattle.std.proofs.Common.{
  ◌≡◌,
  ℕ,
  ◌⊎◌,
  inl,
  inr,
  Bool,
  true,
  false,
  List,
  [],
  ◌∷◌,
  ◌++◌,
  length,
  Option,
  None,
  Some,
  refl,
  ap,
  sym,
  ◌∙◌,
  subst,
  append_assoc,
}
use Rattle.std.specs.Prelude.{Result, Ok, Err, codes}
use Rattle.msb_values.specs.declared.mode.Mode.{Mode}
use Rattle.msb_values.specs.declared.mode.Mode.TheVariants.{Incremental, Clean}
use Rattle.msb_values.specs.declared.note.Note.{Note}
use Rattle.msb_values.specs.declared.act.Act.{Act}
use Rattle.msb_values.specs.declared.scope.Scope.{Scope}
use Rattle.msb_expand.specs.declared.lens.Bucket.{Bucket}
use Rattle.file_store.specs.declared.tree.File.{File}
use Rattle.result_cache.specs.declared.run.RunId.{RunId}
use Rattle.result_cache.specs.Lists.{In}
use Rattle.result_cache.specs.Journal.{Journal, acted, add}
use Rattle.build_world.specs.Elements.{attribute_of}
use Rattle.build_world.specs.Instances.{UsedTarget}
use Rattle.build_world.specs.declared.fault.EvalFault.{EvalFault}
use Rattle.build_meaning.proofs.MeaningDerived.{in-left, in-right}
use Rattle.build_meaning.specs.Walk.{Outcome}
use Rattle.build_incremental.specs.Alike.{AlikeJournals}
use Rattle.build_incremental.specs.Alone.{alone}
use Rattle.build_incremental.specs.SideBySide.{HasNotActed}
use Rattle.build_incremental.proofs.Entries.{in-parts}
use Rattle.build_incremental.proofs.Numbered.{numbered}
use Rattle.element_texts.specs.Contexts.{item_context}
use Rattle.task_trait.specs.declared.tools.ToolAnswer.{ToolAnswer}
use Rattle.task_trait.specs.declared.tools.ToolInput.{ToolInput}
use Rattle.target_incremental.specs.declared.decision.Choice.{Choice}
use Rattle.target_incremental.specs.declared.decision.Choice.TheVariants.{Run as RunAll}
use Rattle.target_texts.specs.Batched.{target_buckets}
use Rattle.target_texts.specs.Lists.{Lists}
use Rattle.target_texts.specs.Returned.{in_target}
use Rattle.target_body.specs.Work.{Work, done, does, uses, calls, unless_stopped, each_in_turn}
use Rattle.target_body.specs.States.{
  Run,
  State,
  Stopped,
  begun,
  entered,
  or_stop,
  outcome_of,
  context_in,
  view_of,
  run_at,
}
use Rattle.target_body.specs.Pieces.{lists_at, choice_of, decided, or_failed, Chooser, bucket_by}
use Rattle.target_body.specs.Bodies.{buckets_by, work_by}
use Rattle.request_machine.specs.Worlds.{body_at}
use Rattle.build_declared.specs.Chosen.{all_of, all_or_nothing}
use Rattle.build_declared.specs.Declared.{
  IsNotTooLarge,
  SucceedsWith,
  RunIsDeclared,
  DeclaredBy,
  DeclaredAt,
  clean_pieces,
}
use Rattle.build_declared.specs.Ends.{End, end_of}
use Rattle.build_declared.specs.Fresh.{Pairing, FreshAt, PieceIsFresh}
use Rattle.build_declared.specs.Pieces.{
  Piece,
  one_if,
  piece_if,
  next_by,
  then_pieces,
  pieces_among,
  pieces_in,
  pieces_of,
  end_of_piece,
}
use Rattle.build_declared.specs.Skipped.{TakesLists}
use Rattle.build_declared.specs.Written.{bytes_in, AnyPath, since}
use Rattle.build_declared.proofs.Alones.{
  with_value,
  some-same,
  end-bound,
  end-mapped,
  bound-end,
  alone-end,
}
use Rattle.build_declared.proofs.BucketsGo.{
  Carry,
  EndsAlike,
  InStep,
  GoAlike,
  IsFine,
  AreSo,
  first_of,
  second_of,
  rest-keeps,
}
use Rattle.build_declared.proofs.Choices.{decided-may, clean-all}
use Rattle.build_declared.proofs.CleanOutcomes.{pieces-go}
use Rattle.build_declared.proofs.EmptyBuckets.{entered-pair, lists-same}
use Rattle.build_declared.proofs.Looks.{looks-same}
use Rattle.build_declared.proofs.NotesStay.{bucket-keeps}
use Rattle.build_declared.proofs.PairFates.{IsPaired, Fate, fates}
use Rattle.build_declared.proofs.PieceRuns.{GoesBy, IsSkip, IsPart, IsNothing, piece-goes}
use Rattle.build_declared.proofs.RunLists.{
  Fine,
  Said,
  piece_at,
  PieceGoes,
  in-one,
  bucket-decided,
  bucket-whole,
  fine-failed,
  bucket-goes,
  lists-there,
  alike-self,
  all-may,
  notes-of,
}
use Rattle.build_declared.proofs.Sides.{no-lists, takes}

-- ---- what a part of a run has done

pub end-grows : {R : Type 0} (tools : List ℕ → ToolInput → ToolAnswer) (id : RunId) (v : Work R)
    (j : Journal) (ps : List Act) (E : End R) → end_of tools id v j ps ≡ Some E →
    (more : List Act) × (E.acts ≡ more ++ ps)
end-grows {R} tools id (done x) j ps E h =
    let e : record { value = x; journal = j; acts = ps } ≡ E =
    some-same (record { value = x; journal = j; acts = ps }) E h in
    ([], sym (ap (λ (z : End R). z.acts) e))
end-grows tools id (does act go) j ps E h =
    let n : Journal = add j (acted id (length ps) act) in
    let x = end-grows tools id (go n) n (act ∷ ps) E h in
    (x.0 ++ act ∷ [], x.1 ∙ sym (append_assoc x.0 (act ∷ []) ps))
end-grows tools id (uses name input go) j ps E h =
    end-grows tools id (go (tools name input)) j ps E h
end-grows tools id (calls key keys go) j ps E h = absurd (cc)

the-one : (p q : Piece) (inputs outputs : List (List ℕ)) → In q (one_if p inputs outputs) →
    (all_or_nothing inputs outputs ≡ RunAll) × (p ≡ q)
the-one p q [] outputs i = absurd i
the-one p q (input ∷ inputs) [] i = absurd i
the-one p q (input ∷ inputs) (output ∷ outputs) (inl e) = (refl, e)
the-one p q (input ∷ inputs) (output ∷ outputs) (inr i) = absurd i

-- a run, in a build and in the clean one; the journals with which they begin
module _ (tools : List ℕ → ToolInput → ToolAnswer) (id : RunId) (run : Run) (scope : Scope)
    (j k : Journal) (a : AlikeJournals (bytes_in run.files) AnyPath j k)
    (fw : HasNotActed id j) (fc : HasNotActed id k) where
  -- as it is decided, the piece succeeds, and these are the acts of the run then
  abbrev pub Ends : Mode → Piece → List Act → Type 0
  Ends mode p acts = (t : State)
      × (end_of_piece tools id run p (choice_of mode run p.lists p.from)
      ≡ Some (record { value = Ok t; journal = t.journal; acts = acts }))

  -- p is the piece in the build, q in the clean one, where it succeeds too; total are the acts of
  -- the run
  pub record Fares (total : List Act) (p q : Piece) (acts : List Act) : Type 0 where
    pub after : State
    pub more : List Act
    pub succeeds : SucceedsWith tools id run q after more
    pub new : List Act
    pub own : acts ≡ new ++ p.before
    pub rest : List Act
    pub within : total ≡ rest ++ acts
    pub each : (pair : Pairing) → IsPaired q pair →
        Fate (view_of run p.from) new (since q.before more) pair

  pub record Counterpart (mode : Mode) (total : List Act) (p q : Piece) : Type 0 where
    pub lists : p.lists ≡ q.lists
    pub begins : p.from.journal ≡ numbered id p.before ++ j
    pub fares : (acts : List Act) → Ends mode p acts → Fares total p q acts

  -- the piece has one in the build
  abbrev pub HasCounterpart : Mode → List Act → List Piece → Piece → Type 0
  HasCounterpart mode total ps q = (p : Piece) × In p ps × Counterpart mode total p q

  -- both come to an end
  ok-both : (r q : Result State Stopped) (l : Journal) (ps pt : List Act) →
      EndsAlike tools id run scope j k r q ps pt → InStep tools id run scope j k q l → (t : State) →
      r ≡ Ok t → (u : State) × (q ≡ Ok u) × (u.journal ≡ l)
  ok-both (Ok s) (Ok u) l ps pt c step t e = (u, refl, step)
  ok-both (Ok s) (Err d) l ps pt c step t e = absurd c
  ok-both (Err d) q l ps pt c step t e = absurd (cc)

  whole-end : (F : End (Result State Stopped)) (u : State) → F.value ≡ Ok u →
      u.journal ≡ F.journal → F ≡ record { value = Ok u; journal = u.journal; acts = F.acts }
  whole-end F u v l =
      ap (λ r. record { value = r; journal = F.journal; acts = F.acts }) v
      ∙ ap (λ m. record { value = Ok u; journal = m; acts = F.acts }) (sym l)

  module _ (mode : Mode) (goes : PieceGoes tools id run scope j k a mode)
      (takes : (bucket : Bucket) (y : State) → lists_at run bucket y ≡ Ok None → ⊥) where
    abbrev Good : Note → Type 0
    Good = Fine tools id run scope j k a

    abbrev Known : Piece → Type 0
    Known = Said tools id run scope j k a

    abbrev here_w : Bucket → State → List Act → List Piece
    here_w bucket s ps =
        piece_if bucket (entered scope bucket s) ps (lists_at run bucket (entered scope bucket s))

    abbrev here_c : Bucket → State → List Act → List Piece
    here_c bucket t pt =
        piece_if bucket (entered scope bucket t) pt (lists_at run bucket (entered scope bucket t))

    -- ---- one bucket

    module _ (bucket : Bucket) (s t : State) (ps pt : List Act)
        (c : Carry tools id run scope j k s t ps pt) (E F : End (Result State Stopped))
        (he : end_of tools id (first_of tools id run scope j k mode bucket s) s.journal ps ≡ Some E)
        (hf : end_of tools id (second_of tools id run scope j k bucket t) t.journal pt ≡ Some F)
        (fe : IsFine tools id run scope j k Good E.value)
        (ff : IsFine tools id run scope j k Good F.value)
        (total rest : List Act) (within : total ≡ rest ++ E.acts)
        (so : AreSo tools id run scope j k Known (here_c bucket t pt)) where
      abbrev x : State
      x = entered scope bucket s

      abbrev y : State
      y = entered scope bucket t

      -- the ends of what is done with the piece, which are those of the bucket
      pub record PieceEnds (lists : Lists) : Type 0 where
        pub U : End (Result State Stopped)
        pub V : End (Result State Stopped)
        pub first : end_of tools id (decided run bucket (choice_of mode run lists x) lists.items x)
            s.journal ps ≡ Some U
        pub second : end_of tools id (decided run bucket RunAll lists.items y) t.journal pt
            ≡ Some V
        pub first_fine : IsFine tools id run scope j k Good U.value
        pub second_fine : IsFine tools id run scope j k Good V.value
        pub acts_so : U.acts ≡ E.acts

      piece-ends : (lists : Lists) → lists_at run bucket y ≡ Ok (Some lists) →
          lists_at run bucket x ≡ Ok (Some lists) →
          all_or_nothing lists.inputs lists.outputs ≡ RunAll → PieceEnds lists
      piece-ends lists e same all =
          let u = bucket-decided tools id run (choice_of mode run) bucket x lists s.journal ps E
          same he in
          let v = bucket-whole tools id run bucket y lists t.journal pt F e all hf in
          record {
            U = u.0;
            V = v.0;
            first = u.1;
            second = v.1;
            first_fine = fine-failed tools id run scope j k a u.0.value
                (subst (λ (z : End (Result State Stopped)). IsFine tools id run scope j k Good
                z.value) (sym u.2) fe);
            second_fine = fine-failed tools id run scope j k a v.0.value
                (subst (λ (z : End (Result State Stopped)). IsFine tools id run scope j k Good
                z.value) (sym v.2) ff);
            acts_so = ap (λ (z : End (Result State Stopped)). z.acts) u.2;
          }

      abbrev as_decided : Lists → Piece
      as_decided lists = record { bucket = bucket; lists = lists; from = x; before = ps }

      abbrev as_clean : Lists → Piece
      as_clean lists = piece_at tools id run scope j k a bucket lists t pt

      how-fares : (lists : Lists) → lists_at run bucket y ≡ Ok (Some lists) →
          lists_at run bucket x ≡ Ok (Some lists) →
          all_or_nothing lists.inputs lists.outputs ≡ RunAll → Known (as_clean lists) →
          PieceEnds lists → (acts : List Act) → Ends mode (as_decided lists) acts →
          Fares total (as_decided lists) (as_clean lists) acts
      how-fares lists e same all known p acts ended =
          let ours : p.U ≡ record { value = Ok ended.0; journal = ended.0.journal; acts = acts } =
          some-same p.U (record { value = Ok ended.0; journal = ended.0.journal; acts = acts })
          (sym p.first ∙ ended.1) in
          let acts_are : p.U.acts ≡ acts =
          ap (λ (z : End (Result State Stopped)). z.acts) ours in
          let g = goes bucket lists s t ps pt c same e all p.U p.V p.first p.second p.first_fine
          p.second_fine known in
          let theirs = ok-both p.U.value p.V.value p.V.journal p.U.acts p.V.acts g.ends g.c_step
          ended.0 (ap (λ (z : End (Result State Stopped)). z.value) ours) in
          let second : end_of tools id (decided run bucket RunAll lists.items y) t.journal pt
          ≡ Some (record {
            value = Ok theirs.0;
            journal = theirs.0.journal;
            acts = p.V.acts;
          }) = p.second ∙ ap Some (whole-end p.V theirs.0 theirs.1 theirs.2) in
          let fine : IsFine tools id run scope j k Good (Ok theirs.0) =
          subst (IsFine tools id run scope j k Good) theirs.1 p.second_fine in
          let f = fates tools id run scope j k a fw fc bucket lists s t ps pt c all p.U theirs.0
          p.V.acts second p.first_fine fine known mode p.first in
          record {
            after = theirs.0;
            more = p.V.acts;
            succeeds = second;
            new = f.0;
            own = sym acts_are ∙ f.1;
            rest = rest;
            within = within ∙ ap (λ l. rest ++ l) (sym p.acts_so ∙ acts_are);
            each = f.2;
          }

      one-counter : (q : Piece) → In q (here_c bucket t pt) →
          HasCounterpart mode total (here_w bucket s ps) q
      one-counter q i = go (lists_at run bucket y) refl i
        where
          go : (l : Result (Option Lists) EvalFault) → lists_at run bucket y ≡ l →
              In q (piece_if bucket y pt l) → HasCounterpart mode total (here_w bucket s ps) q
          go (Ok None) e i = absurd i
          go (Err fault) e i = absurd i
          go (Ok (Some lists)) e i =
              let one = the-one (as_clean lists) q lists.inputs lists.outputs i in
              let same : lists_at run bucket x ≡ Ok (Some lists) =
              lists-same tools id run scope j k a bucket x y ps pt
              (entered-pair tools id run scope j k a bucket s t ps pt c) ∙ e in
              let there : In (as_clean lists) (here_c bucket t pt) =
              subst (λ z. In (as_clean lists) (piece_if bucket y pt z)) (sym e)
              (in-one (as_clean lists) lists.inputs lists.outputs one.0) in
              let counter : Counterpart mode total (as_decided lists) (as_clean lists) = record {
                lists = refl;
                begins = c.w_is;
                fares = how-fares lists e same one.0 (so (as_clean lists) there)
                    (piece-ends lists e same one.0);
              } in
              subst (HasCounterpart mode total (here_w bucket s ps)) one.1 (
                as_decided lists,
                subst (λ z. In (as_decided lists) (piece_if bucket x ps z)) (sym same)
                    (in-one (as_decided lists) lists.inputs lists.outputs one.0),
                counter,
              )

    -- ---- the buckets in turn

    abbrev first : Bucket → State → Work (Result State Stopped)
    first = first_of tools id run scope j k mode

    abbrev second : Bucket → State → Work (Result State Stopped)
    second = second_of tools id run scope j k

    abbrev all_w : List Bucket → State → List Act → List Piece
    all_w = pieces_among tools id (choice_of mode run) run scope

    abbrev all_c : List Bucket → State → List Act → List Piece
    all_c = pieces_among tools id all_of run scope

    wider : (total : List Act) (ps qs rs : List Piece) (q : Piece) →
        ((p : Piece) → In p ps → In p (qs ++ rs)) → HasCounterpart mode total ps q →
        HasCounterpart mode total (qs ++ rs) q
    wider total ps qs rs q f x = (x.0, f x.0 x.1, x.2)

    abbrev Counters : List Bucket → Type 0
    Counters buckets = (s t : State) (ps pt : List Act) → Carry tools id run scope j k s t ps pt →
        (E F : End (Result State Stopped)) →
        end_of tools id (each_in_turn first buckets s) s.journal ps ≡ Some E →
        end_of tools id (each_in_turn second buckets t) t.journal pt ≡ Some F →
        IsFine tools id run scope j k Good E.value → IsFine tools id run scope j k Good F.value →
        AreSo tools id run scope j k Known (all_c buckets t pt) → (q : Piece) →
        In q (all_c buckets t pt) → HasCounterpart mode E.acts (all_w buckets s ps) q

    -- the pieces of the later buckets, by how the first one ends
    later-counters : (buckets : List Bucket) → Counters buckets → (E F : End (Result State Stopped))
        → (X Y : End (Result State Stopped)) → GoAlike tools id run scope j k X Y →
        end_of tools id (unless_stopped X.value (each_in_turn first buckets)) X.journal X.acts
        ≡ Some E →
        end_of tools id (unless_stopped Y.value (each_in_turn second buckets)) Y.journal Y.acts
        ≡ Some F →
        IsFine tools id run scope j k Good E.value → IsFine tools id run scope j k Good F.value →
        AreSo tools id run scope j k Known (then_pieces (Some Y) (all_c buckets)) → (q : Piece) →
        In q (then_pieces (Some Y) (all_c buckets)) →
        HasCounterpart mode E.acts (then_pieces (Some X) (all_w buckets)) q
    later-counters buckets ih E F X Y g he hf fe ff so q i =
        go X.value Y.value g.ends g.w_step g.c_step he hf so i
      where
        go : (r v : Result State Stopped) → EndsAlike tools id run scope j k r v X.acts Y.acts →
            InStep tools id run scope j k r X.journal → InStep tools id run scope j k v Y.journal →
            end_of tools id (unless_stopped r (each_in_turn first buckets)) X.journal X.acts
            ≡ Some E →
            end_of tools id (unless_stopped v (each_in_turn second buckets)) Y.journal Y.acts
            ≡ Some F →
            AreSo tools id run scope j k Known (next_by v Y.acts (all_c buckets)) →
            In q (next_by v Y.acts (all_c buckets)) →
            HasCounterpart mode E.acts (next_by r X.acts (all_w buckets)) q
        go (Ok s) (Ok t) c sw sc he hf so i = ih s t X.acts Y.acts c E F
            (subst (λ z. end_of tools id (each_in_turn first buckets s) z X.acts ≡ Some E)
            (sym sw) he)
            (subst (λ z. end_of tools id (each_in_turn second buckets t) z Y.acts ≡ Some F)
            (sym sc) hf) fe ff so q i
        go (Ok s) (Err d) c sw sc he hf so i = absurd c
        go (Err d) (Ok t) c sw sc he hf so i = absurd c
        go (Err d) (Err e) c sw sc he hf so i = absurd i

    counters : (buckets : List Bucket) → Counters buckets
    counters [] s t ps pt c E F he hf fe ff so q i = absurd i
    counters (bucket ∷ buckets) s t ps pt c E F he hf fe ff so q i =
        let X = end-bound tools id (first bucket s)
        (λ end. unless_stopped end (each_in_turn first buckets)) s.journal ps E he in
        let Y = end-bound tools id (second bucket t)
        (λ end. unless_stopped end (each_in_turn second buckets)) t.journal pt F hf in
        let fx : IsFine tools id run scope j k Good X.0.value = λ note u.
        fe note (rest-keeps tools id run scope j k first
        (bucket-keeps tools id run (choice_of mode run) scope) buckets
        X.0.value X.0.journal X.0.acts E X.2 note u) in
        let fy : IsFine tools id run scope j k Good Y.0.value = λ note u.
        ff note (rest-keeps tools id run scope j k second
        (bucket-keeps tools id run all_of scope) buckets
        Y.0.value Y.0.journal Y.0.acts F Y.2 note u) in
        let here = here_c bucket t pt in
        let later = then_pieces (end_of tools id (second bucket t) t.journal pt)
        (all_c buckets) in
        let later_w = then_pieces (end_of tools id (first bucket s) s.journal ps)
        (all_w buckets) in
        let so_here : AreSo tools id run scope j k Known here =
        λ p u. so p (in-left p here later u) in
        let grown = end-grows tools id (unless_stopped X.0.value (each_in_turn first buckets))
        X.0.journal X.0.acts E X.2 in
        let g = bucket-goes tools id run scope j k a mode goes takes bucket s t ps pt c X.0 Y.0 X.1
        Y.1 fx fy so_here in
        elim (in-parts q here later i) [
          | inl u ↦ wider E.acts (here_w bucket s ps) (here_w bucket s ps) later_w q
              (λ p v. in-left p (here_w bucket s ps) later_w v)
              (one-counter bucket s t ps pt c X.0 Y.0 X.1 Y.1 fx fy E.acts grown.0 grown.1 so_here
              q u)
          | inr u ↦
              let told : In q (then_pieces (Some Y.0) (all_c buckets)) =
              subst (λ z. In q (then_pieces z (all_c buckets))) Y.1 u in
              let so_later : AreSo tools id run scope j k Known
              (then_pieces (Some Y.0) (all_c buckets)) =
              λ p v. so p (in-right p here later
              (subst (λ z. In p (then_pieces z (all_c buckets))) (sym Y.1) v)) in
              wider E.acts (then_pieces (Some X.0) (all_w buckets)) (here_w bucket s ps) later_w q
              (λ p v. in-right p (here_w bucket s ps) later_w
              (subst (λ z. In p (then_pieces z (all_w buckets))) (sym X.1) v))
              (later-counters buckets (counters buckets) E F X.0 Y.0 g X.2 Y.2 fe ff so_later q
              told)
        ]

-- ---- a run that takes lists, or takes none

module _ (run : Run) where
  abbrev pub TakesNone : Type 0
  TakesNone = (bucket : Bucket) (y : State) → lists_at run bucket y ≡ Ok None

  abbrev pub NeverNone : Type 0
  NeverNone = (bucket : Bucket) (y : State) → lists_at run bucket y ≡ Ok None → ⊥

  pub takes-or-none : NeverNone ⊎ TakesNone
  takes-or-none =
      let t = takes run.target (attribute_of (codes "Inputs") run.target.element)
      (attribute_of (codes "Outputs") run.target.element) refl refl in go t.0 t.1 t.2
    where
      go : (b : Bool) → (b ≡ true → TakesLists run.target) →
          (b ≡ false → TakesLists run.target → ⊥) → NeverNone ⊎ TakesNone
      go true y n = inl (λ bucket s e.
          lists-there (in_target (context_in run s s.scope) bucket) run.target (y refl) e)
      go false y n = inr (λ bucket s.
          no-lists (in_target (context_in run s s.scope) bucket) run.target
          (attribute_of (codes "Inputs") run.target.element)
          (attribute_of (codes "Outputs") run.target.element) refl refl (n refl))

-- a run that takes no lists has no piece
none-then : (next : State → List Act → List Piece) → ((s : State) (acts : List Act) (q : Piece) →
    In q (next s acts) → ⊥) → (o : Option (End (Result State Stopped))) (q : Piece) →
    In q (then_pieces o next) → ⊥
none-then next none None q i = i
none-then next none (Some end) q i = go end.value i
  where
    go : (r : Result State Stopped) → In q (next_by r end.acts next) → ⊥
    go (Ok s) i = none s end.acts q i
    go (Err stop) i = i

no-pieces : (tools : List ℕ → ToolInput → ToolAnswer) (id : RunId) (run : Run) (scope : Scope) →
    TakesNone run → (buckets : List Bucket) (s : State) (acts : List Act) (q : Piece) →
    In q (pieces_among tools id all_of run scope buckets s acts) → ⊥
no-pieces tools id run scope takes [] s acts q i = i
no-pieces tools id run scope takes (bucket ∷ buckets) s acts q i =
    let here = piece_if bucket (entered scope bucket s) acts
    (lists_at run bucket (entered scope bucket s)) in
    let later = then_pieces (end_of tools id (bucket_by all_of run scope bucket s) s.journal acts)
    (pieces_among tools id all_of run scope buckets) in
    elim (in-parts q here later i) [
      | inl u ↦ subst (λ z. In q (piece_if bucket (entered scope bucket s) acts z))
          (takes bucket (entered scope bucket s)) u
      | inr u ↦ none-then (pieces_among tools id all_of run scope buckets)
          (no-pieces tools id run scope takes buckets)
          (end_of tools id (bucket_by all_of run scope bucket s) s.journal acts) q u
    ]

-- ---- the run of a target

module _ (tools : List ℕ → ToolInput → ToolAnswer) (files : List File) (target : UsedTarget)
    (scope : Scope) (id : RunId) (j k : Journal) (a : AlikeJournals (bytes_in files) AnyPath j k)
    (fw : HasNotActed id j) (fc : HasNotActed id k) where
  abbrev pub run : Run
  run = run_at files id target

  abbrev pub t0 : State
  t0 = begun scope k

  -- a clean build chooses nothing else
  never-chosen : (C : Choice → Type 0) → (C RunAll → ⊥) →
      GoesBy tools id run scope j k a fw fc Clean C
  never-chosen C not_all bucket lists s t ps pt c lw lc all choice e w E F he hf fe ff said =
      let is : choice ≡ RunAll =
      sym e ∙ (ap (λ (f : Chooser). f lists (entered scope bucket s)) (clean-all run)
      ∙ all) in
      absurd (not_all (subst C is w))

  pub piece-goes-in : (mode : Mode) → PieceGoes tools id run scope j k a mode
  piece-goes-in Incremental = pieces-go tools files target scope id j k a fw fc
  piece-goes-in Clean = piece-goes tools id run scope j k a fw fc Clean
      (never-chosen (IsSkip tools id run scope j k a fw fc) (λ h. h))
      (never-chosen (IsPart tools id run scope j k a fw fc) (λ h. h))
      (never-chosen (IsNothing tools id run scope j k a fw fc) (λ h. h))

  -- all buckets of the run come to an end
  abbrev pub RunEnds : Chooser → Type 0
  RunEnds choose = (end : End Outcome)
      × (end_of tools id (work_by choose run scope j) j [] ≡ Some end)
      × ((note : Note) → In note end.value.notes → IsNotTooLarge tools id run note)

  pub run-ends : (mode : Mode) (ps : List Piece) → RunIsDeclared tools id run scope k ps →
      RunEnds (choice_of mode run)
  run-ends Incremental ps r = r.never_large j a (choice_of Incremental run)
      (decided-may tools id run)
  run-ends Clean ps r = subst RunEnds (sym (clean-all run))
      (r.never_large j a all_of (λ lists s. all-may tools id run lists
      (all_or_nothing lists.inputs lists.outputs) refl))

  module _ (mode : Mode) where
    abbrev pub s0 : State
    s0 = begun scope j

    -- what the run comes to in the build, and the counterpart of its piece
    pub record RunFares (q : Piece) : Type 0 where
      pub outcome : Outcome
      pub total : List Act
      pub ends : alone tools id (body_at files mode id (Some target) scope j) j []
          ≡ Some (outcome, total)
      pub counter : HasCounterpart tools id run scope j k a fw fc mode total
          (pieces_of tools id (choice_of mode run) run scope j) q

    abbrev pub found_w : Result (List Bucket) EvalFault
    found_w = target_buckets (context_in run s0 scope) target.element

    abbrev pub found_c : Result (List Bucket) EvalFault
    found_c = target_buckets (context_in run t0 scope) target.element

    pub buckets-same : found_w ≡ found_c
    buckets-same = ap (λ l. target_buckets (item_context l id.instance.path scope) target.element)
        ((looks-same files AnyPath).paths j k a)

    pub at-start : Carry tools id run scope j k s0 t0 [] []
    at-start = record {
      items = refl;
      changes = refl;
      w_is = refl;
      c_is = refl;
      lacks = record { acted = λ p. inl refl; left_out = λ p b n e. absurd (cc) };
    }

    abbrev all_clean : List Bucket → List Piece
    all_clean found = pieces_among tools id all_of run scope found t0 []

    by-run : (found : List Bucket) → found_w ≡ Ok found → found_c ≡ Ok found →
        (ps : List Piece) → RunIsDeclared tools id run scope k ps → all_clean found ≡ ps →
        ((p : Piece) → In p (all_clean found) → PieceIsFresh tools id run p) →
        NeverNone run → (q : Piece) → In q (all_clean found) → RunFares q
    by-run found ew ec ps r e fresh takes q i =
        let w = run-ends mode ps r in
        let c = r.never_large k (alike-self files k) all_of
        (λ lists s. all-may tools id run lists
        (all_or_nothing lists.inputs lists.outputs) refl) in
        let x = end-mapped tools id (buckets_by (choice_of mode run) run scope s0) outcome_of
        j [] w.0 w.1 in
        let y = end-mapped tools id (buckets_by all_of run scope t0) outcome_of k [] c.0 c.1 in
        let ox : outcome_of x.0.value ≡ w.0.value = ap (λ (z : End Outcome). z.value) x.2 in
        let oy : outcome_of y.0.value ≡ c.0.value = ap (λ (z : End Outcome). z.value) y.2 in
        let hx : end_of tools id (each_in_turn (bucket_by (choice_of mode run) run scope) found s0)
        j [] ≡ Some x.0 =
        sym (ap (λ z. end_of tools id (unless_stopped (or_failed (or_stop s0 z))
        (λ found. each_in_turn (bucket_by (choice_of mode run) run scope) found s0)) j []) ew)
        ∙ x.1 in
        let hy : end_of tools id (each_in_turn (bucket_by all_of run scope) found t0) k []
        ≡ Some y.0 =
        sym (ap (λ z. end_of tools id (unless_stopped (or_failed (or_stop t0 z))
        (λ found. each_in_turn (bucket_by all_of run scope) found t0)) k []) ec) ∙ y.1 in
        let work : end_of tools id (work_by (choice_of mode run) run scope j) j []
        ≡ Some (with_value outcome_of x.0) =
        bound-end tools id (buckets_by (choice_of mode run) run scope s0)
        (λ end. done (outcome_of end)) j [] x.0 x.1 in
        let counted = counters tools id run scope j k a fw fc mode (piece-goes-in mode) takes
        found s0 t0 [] [] at-start x.0 y.0 hx hy
        (λ note u. w.2 note (subst (λ (o : Outcome). In note o.notes) ox
        (notes-of x.0.value note u)))
        (λ note u. c.2 note (subst (λ (o : Outcome). In note o.notes) oy
        (notes-of y.0.value note u)))
        (λ p u. (r.each p (subst (In p) e u), fresh p u)) q i in
        let listed : all_w tools id run scope j k a fw fc mode (piece-goes-in mode) takes
        found s0 [] ≡ pieces_of tools id (choice_of mode run) run scope j =
        sym (ap (λ z. pieces_in tools id (choice_of mode run) run scope (or_stop s0 z) s0) ew) in
        record {
          outcome = outcome_of x.0.value;
          total = x.0.acts;
          ends = alone-end tools id (work_by (choice_of mode run) run scope j) j []
              (with_value outcome_of x.0) work;
          counter = subst (λ l. HasCounterpart tools id run scope j k a fw fc mode x.0.acts l q)
              listed counted;
        }

    by-buckets : (x : Result (List Bucket) EvalFault) → found_w ≡ x → found_c ≡ x →
        DeclaredBy tools id run scope k
        (pieces_in tools id all_of run scope (or_stop t0 x) t0) →
        ((p : Piece) → In p (pieces_in tools id all_of run scope (or_stop t0 x) t0) →
        PieceIsFresh tools id run p) → (q : Piece) →
        In q (pieces_in tools id all_of run scope (or_stop t0 x) t0) → RunFares q
    by-buckets (Err fault) ew ec declared fresh q i = absurd i
    by-buckets (Ok found) ew ec declared fresh q i = go (all_clean found) refl declared
      where
        never_none : NeverNone run
        never_none = elim (takes-or-none run) [
          | inl h ↦ h
          | inr h ↦ absurd (no-pieces tools id run scope h found t0 [] q i)
        ]

        go : (ps : List Piece) → all_clean found ≡ ps →
            DeclaredBy tools id run scope k (all_clean found) → RunFares q
        go [] e d = absurd (subst (In q) e i)
        go (p ∷ ps) e d = by-run found ew ec (p ∷ ps)
            (subst (DeclaredBy tools id run scope k) e d) e fresh never_none q i

    pub run-fares : DeclaredAt tools files (Some target) scope id k →
        FreshAt tools files (Some target) scope id k → (q : Piece) →
        In q (clean_pieces tools files (Some target) scope id k) → RunFares q
    run-fares declared fresh q i = by-buckets found_c buckets-same refl declared fresh q i
