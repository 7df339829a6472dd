-- A piece that is skipped goes alike, where skipping changes what running changes.
use Rattle.std.proofs.Common.{
  ◌≡◌,
  ℕ,
  ◌-◌,
  inl,
  inr,
  true,
  List,
  [],
  ◌∷◌,
  ◌++◌,
  length,
  take,
  Some,
  is_some,
  refl,
  ap,
  sym,
  ◌∙◌,
  subst,
  arith,
  length-append,
}
use Rattle.std.specs.Prelude.{Result, Ok, Err}
use Rattle.std.specs.List.{list_any}
use Rattle.std.specs.Str.{bytes_eq}
use Rattle.std.proofs.lemmas.Slice.Eq.{bytes_eq-Decides}
use Rattle.msb_values.specs.declared.mode.Mode.TheVariants.{Incremental}
use Rattle.msb_values.specs.declared.note.Note.{Note}
use Rattle.msb_values.specs.declared.act.Act.{Act}
use Rattle.msb_values.specs.declared.scope.Scope.{Scope}
use Rattle.msb_expand.specs.declared.lens.Bucket.{Bucket}
use Rattle.result_cache.specs.Lists.{In}
use Rattle.result_cache.specs.declared.run.RunId.{RunId}
use Rattle.result_cache.specs.Journal.{Journal}
use Rattle.result_cache.proofs.RunTests.{or_cases}
use Rattle.build_incremental.specs.Alike.{AlikeJournals, seen}
use Rattle.build_incremental.specs.Alone.{last_bytes, LacksOnly}
use Rattle.build_incremental.specs.SideBySide.{HasNotActed}
use Rattle.build_incremental.proofs.Numbered.{numbered}
use Rattle.task_trait.specs.declared.tools.ToolAnswer.{ToolAnswer}
use Rattle.task_trait.specs.declared.tools.ToolInput.{ToolInput}
use Rattle.target_incremental.specs.declared.decision.Choice.TheVariants.{
  Run as RunAll,
  Skip,
  Nothing,
  Part,
}
use Rattle.target_texts.specs.Lists.{Lists}
use Rattle.target_body.specs.States.{Run, State, Stopped, faulted, failed, entered}
use Rattle.target_body.specs.Pieces.{decided}
use Rattle.build_declared.proofs.PartEnds.{progress_in}
use Rattle.build_declared.specs.Chosen.{all_or_nothing}
use Rattle.build_declared.specs.Declared.{PieceIsDeclared}
use Rattle.build_declared.specs.Written.{bytes_in, AnyPath, since, is_one_of}
use Rattle.build_declared.specs.Ends.{End, end_of}
use Rattle.build_declared.specs.Pieces.{Piece}
use Rattle.build_declared.proofs.Alones.{some-same}
use Rattle.build_declared.proofs.BucketsGo.{carry-alike, GoAlike, IsFine}
use Rattle.build_declared.proofs.Cousins.{CousinEnd}
use Rattle.build_declared.proofs.PieceRuns.{
  PartLacks,
  lacks-append,
  seen-over,
  same-goes,
  GoesBy,
  IsSkip,
}
use Rattle.build_declared.proofs.RunLists.{Fine, piece_at}
use Rattle.build_declared.proofs.SkippedPieces.{skip-kept}
use Rattle.build_declared.proofs.Steps.{decided-steps}

take-front : {X : Type 0} (a b : List X) → take (length (a ++ b) - length b) (a ++ b) ≡ a
take-front {X} a b = ap (λ n. take n (a ++ b)) (let e : length (a ++ b) - length b ≡ length a =
    omega (arith, length-append a b) in e) ∙ front a b
  where
    front : (a b : List X) → take (length a) (a ++ b) ≡ a
    front [] b = refl
    front (x ∷ a) b = ap (λ l. x ∷ l) (front a b)

pub since-front : (a b : List Act) → since b (a ++ b) ≡ a
since-front a b = take-front a b

pub one-in : (path : List ℕ) (paths : List (List ℕ)) → is_one_of path paths ≡ true → In path paths
one-in path [] h = absurd (cc)
one-in path (p ∷ paths) h = elim (or_cases (bytes_eq path p)
    (list_any (bytes_eq path) paths) h) [
      | inl e ↦ inl (sym ((bytes_eq-Decides path p).0 e))
      | inr i ↦ inr (one-in path paths i)
    ]

pub first-output : (inputs outputs : List (List ℕ)) → all_or_nothing inputs outputs ≡ RunAll →
    (o : List ℕ) × In o outputs
first-output [] outputs e = absurd (cc)
first-output (i ∷ inputs) [] e = absurd (cc)
first-output (i ∷ inputs) (o ∷ outputs) e = (o, inl refl)

pub no-front : (new pt : List Act) → pt ≡ new ++ pt → new ≡ []
no-front [] pt e = refl
no-front (act ∷ new) pt e = let l : length pt ≡ length ((act ∷ new) ++ pt) = ap length e in
    absurd (omega (arith, length-append (act ∷ new) pt))

module _ (tools : List ℕ → ToolInput → ToolAnswer) (id : RunId) (run : Run) (scope : Scope)
    (j k : Journal) (a : AlikeJournals (bytes_in run.files) AnyPath j k) (fw : HasNotActed id j)
    (fc : HasNotActed id k) where
  -- shown in SkipsSame, by returns_given: where all outputs are there, skipping a piece that
  -- succeeds writes nothing, and changes and returns what the whole does
  abbrev pub SkipsSame : Type 0
  SkipsSame = (bucket : Bucket) (lists : Lists) (t : State) (pt : List Act) (after : State)
      (acts : List Act) → PieceIsDeclared tools id run
      (piece_at tools id run scope j k a bucket lists t pt) → t.journal ≡ numbered id pt ++ k →
      end_of tools id (decided run bucket RunAll lists.items (entered scope bucket t)) t.journal
      pt ≡ Some (record { value = Ok after; journal = after.journal; acts = acts }) →
      ((output : List ℕ) → In output lists.outputs →
      is_some (seen (bytes_in run.files) t.journal output) ≡ true) →
      (skipped : State) × (end_of tools id (decided run bucket Skip lists.items
      (entered scope bucket t)) t.journal pt ≡ Some (record {
        value = Ok skipped;
        journal =
            t.journal;
        acts = pt;
      }))
      × (skipped.changes ≡ after.changes) × (skipped.items ≡ after.items)
      × ((note : Note) → In note skipped.notes → In note after.notes)

  pub skip-goes : SkipsSame → GoesBy tools id run scope j k a fw fc Incremental
      (IsSkip tools id run scope j k a fw fc)
  skip-goes skips bucket lists s t ps pt c lw lc all RunAll e w E F he hf fe ff said = absurd w
  skip-goes skips bucket lists s t ps pt c lw lc all Nothing e w E F he hf fe ff said = absurd w
  skip-goes skips bucket lists s t ps pt c lw lc all (Part old) e w E F he hf fe ff said = absurd w
  skip-goes skips bucket lists s t ps pt c lw lc all Skip e w E F he hf fe ff said =
      let p : Piece = piece_at tools id run scope j k a bucket lists t pt in
      let x : State = entered scope bucket s in
      let y : State = entered scope bucket t in
      let alike = carry-alike tools id run scope j k a s t ps pt c in
      let kept = skip-kept tools id run p said.1 x alike.same e in
      let o = first-output lists.inputs lists.outputs all in
      let w1 = (kept o.0 o.1).2 in
      let after : State = w1.0 in
      let acts : List Act = w1.1 in
      let whole : record { value = Ok after; journal = after.journal; acts = acts } ≡ F =
      some-same (record { value = Ok after; journal = after.journal; acts = acts }) F (sym w1.2
      ∙ hf) in
      let sk = skips bucket lists t pt after acts said.0 c.c_is w1.2 (λ q i.
      ap is_some (kept q i).1.unchanged) in
      let mid : End (Result State Stopped) = record {
        value = Ok sk.0;
        journal = t.journal;
        acts =
            pt;
      } in
      let fine-mid : IsFine tools id run scope j k (Fine tools id run scope j k a) (Ok sk.0) =
      λ note i. ff note (subst (λ (z : End (Result State Stopped)).
      In note (progress_in z.value).notes) whole (sk.4 note i)) in
      let both = same-goes tools id run scope j k a fw fc bucket lists Skip s t ps pt c E mid he
      sk.1 fe fine-mid in
      let none : both.new ≡ [] = no-front both.new pt both.c_acts in
      let ep : E.acts ≡ ps = both.w_acts ∙ ap (λ l. l ++ ps) none in
      let st = decided-steps tools id run k fc bucket RunAll lists.items y pt c.c_is F hf in
      let own : List Act = st.more in
      let fp : F.acts ≡ own ++ pt = st.grown in
      let pf : acts ≡ own ++ pt = ap (λ (z : End (Result State Stopped)). z.acts) whole ∙ fp in
      let part : PartLacks (bytes_in run.files) s.journal [] own = record {
        acted = λ q. inl refl;
        left_out = λ q left n h.
            let there : last_bytes (since pt acts) q ≡ Some left =
            ap (λ l. last_bytes (since pt l) q) pf
            ∙ (ap (λ l. last_bytes l q) (since-front own pt) ∙ h) in
            let one : is_one_of q lists.outputs ≡ true =
            sym (said.0.writes_outputs after acts w1.2 q) ∙ ap is_some there in
            let g = kept q (one-in q lists.outputs one) in
            let end-same : record {
              value = Ok g.2.0;
              journal = g.2.0.journal;
              acts =
                  g.2.1;
            } ≡ record { value = Ok after; journal = after.journal; acts = acts } =
            some-same (record { value = Ok g.2.0; journal = g.2.0.journal; acts = g.2.1 })
            (record { value = Ok after; journal = after.journal; acts = acts })
            (sym g.2.2 ∙ w1.2) in
            let gb : last_bytes (since pt acts) q ≡ Some (Some g.0.bytes) =
            ap (λ (z : End (Result State Stopped)). last_bytes (since pt z.acts) q)
            (sym end-same) ∙ g.2.3 in
            let same : Some g.0.bytes ≡ left = some-same (Some g.0.bytes) left (sym gb ∙ there) in
            alike.same q ∙ (g.1.unchanged ∙ same);
      } in
      let lacks : LacksOnly (bytes_in run.files) j E.acts F.acts =
      subst (λ l. LacksOnly (bytes_in run.files) j l F.acts) (sym ep)
      (subst (LacksOnly (bytes_in run.files) j ps) (sym fp)
      (lacks-append (bytes_in run.files) j s.journal [] own ps pt
      (seen-over tools id run scope j k a fw fc s t ps pt c) c.lacks part)) in
      subst (GoAlike tools id run scope j k E) whole
      (finish E.value E.journal E.acts sk.0 after acts both.cousins both.w_step
      (subst (λ (z : End (Result State Stopped)).
      LacksOnly (bytes_in run.files) j E.acts z.acts) (sym whole) lacks) sk.2 sk.3
      (ap (λ (z : End (Result State Stopped)). z.journal) whole
      ∙ (st.numbered_so ∙ ap (λ (z : End (Result State Stopped)). numbered id z.acts ++ k)
      (sym whole))))
    where
      finish : (r : Result State Stopped) (l : Journal) (qs : List Act) (skipped after : State)
          (acts : List Act) → CousinEnd tools id run j k fw fc r (Ok skipped) qs pt →
          (progress_in r).journal ≡ l → LacksOnly (bytes_in run.files) j qs acts →
          skipped.changes ≡ after.changes → skipped.items ≡ after.items →
          after.journal ≡ numbered id acts ++ k →
          GoAlike tools id run scope j k (record { value = r; journal = l; acts = qs })
          (record { value = Ok after; journal = after.journal; acts = acts })
      finish (Ok z) l qs skipped after acts h step lacks ch it n =
          record {
            ends = record {
              items = h.items ∙ it;
              changes = h.changes ∙ ch;
              w_is =
                  h.w_is;
              c_is = n;
              lacks = lacks;
            };
            w_step = step;
            c_step = refl;
          }
      finish (Err (faulted d)) l qs skipped after acts h step lacks ch it n = absurd h
      finish (Err (failed d)) l qs skipped after acts h step lacks ch it n = absurd h
