-- A piece that runs in part goes alike.
use Rattle.std.proofs.Common.{
  ◌≡◌,
  ℕ,
  ◌||◌,
  inl,
  inr,
  Bool,
  true,
  false,
  List,
  [],
  ◌∷◌,
  ◌++◌,
  length,
  map,
  not,
  ◌==◌,
  ◌&&◌,
  Option,
  None,
  Some,
  is_some,
  refl,
  ap,
  sym,
  ◌∙◌,
  subst,
  arith,
}
use Rattle.std.specs.Prelude.{Result, Ok, Err, option_map, IsSome, if◌then◌else◌}
use Rattle.std.specs.List.{list_any}
use Rattle.std.specs.Str.{bytes_eq}
use Rattle.std.proofs.lemmas.Slice.Eq.{bytes_eq-Decides}
use Rattle.msb_values.specs.declared.mode.Mode.TheVariants.{Incremental}
use Rattle.msb_values.specs.declared.act.Act.{Act}
use Rattle.msb_values.specs.declared.scope.Scope.{Scope}
use Rattle.msb_expand.specs.declared.lens.Bucket.{Bucket}
use Rattle.file_store.specs.declared.tree.File.{File}
use Rattle.result_cache.specs.Lists.{In}
use Rattle.result_cache.specs.declared.run.RunId.{RunId}
use Rattle.result_cache.specs.Journal.{Journal}
use Rattle.result_cache.proofs.RunTests.{or_cases, or_left, or_right, tells, clash, and_both}
use Rattle.build_incremental.specs.Alike.{seen, AlikeJournals}
use Rattle.build_incremental.specs.Alone.{last_bytes, LacksOnly}
use Rattle.build_incremental.specs.SideBySide.{HasNotActed}
use Rattle.build_incremental.proofs.Entries.{none-some}
use Rattle.build_incremental.proofs.Numbered.{numbered}
use Rattle.task_trait.specs.declared.tools.ToolAnswer.{ToolAnswer}
use Rattle.task_trait.specs.declared.tools.ToolInput.{ToolInput}
use Rattle.target_incremental.specs.declared.decision.Choice.{Choice}
use Rattle.target_incremental.specs.declared.decision.Choice.TheVariants.{
  Run as RunAll,
  Skip,
  Nothing,
  Part,
}
use Rattle.target_texts.specs.Lists.{Lists}
use Rattle.target_body.specs.States.{Run, State, Stopped, faulted, failed, entered, view_of}
use Rattle.target_body.specs.Pieces.{choice_of, decided}
use Rattle.build_declared.proofs.PartEnds.{progress_in}
use Rattle.build_declared.specs.Declared.{PartIsDeclared, PieceIsDeclared}
use Rattle.build_declared.specs.Pieces.{ByItems}
use Rattle.build_declared.specs.Sublists.{kept_if, kept, ArePart}
use Rattle.build_declared.specs.Written.{bytes_in, AnyPath, since, is_one_of}
use Rattle.build_declared.specs.Ends.{End, end_of}
use Rattle.build_declared.specs.Fresh.{IsAsInTree, IsTrusted, Pairing, pairs_of, WritesSame}
use Rattle.build_declared.specs.Pieces.{Piece}
use Rattle.build_declared.proofs.Alones.{some-same}
use Rattle.build_declared.proofs.BucketsGo.{Carry, carry-alike, GoAlike, IsFine}
use Rattle.build_declared.proofs.Cousins.{CousinEnd, BothEnd}
use Rattle.build_declared.proofs.PieceRuns.{
  PartLacks,
  lacks-append,
  seen-over,
  same-goes,
  GoesBy,
  IsPart,
}
use Rattle.build_declared.proofs.PieceSkips.{since-front}
use Rattle.build_declared.proofs.Choices.{marks_of, old-kept, marks-length, some-kept, all-kept}
use Rattle.build_declared.proofs.Trusted.{pair-trusted}
use Rattle.target_incremental.specs.Ages.{pair_is_old, any_is_old}
use Rattle.target_incremental.specs.Decisions.{by_pairs, old_items, of_items, by_shape, decision}
use Rattle.msb_values.specs.declared.item.Item.{Item}
use Rattle.msb_files.specs.Views as views
use Rattle.msb_files.specs.Views.{View}
use Rattle.std.proofs.lemmas.Bool.{eqb-true, eq-eqb}
use Rattle.build_declared.proofs.RunLists.{Fine, piece_at}
use Rattle.build_declared.proofs.Steps.{decided-steps}

abbrev is-part : Choice → Bool
is-part Skip = false
is-part RunAll = false
is-part Nothing = false
is-part (Part old) = true

abbrev old-of : Choice → List Item
old-of Skip = []
old-of RunAll = []
old-of Nothing = []
old-of (Part old) = old

-- an output is marked or it is not
kept-or : (q : List ℕ) (marks : List Bool) (paths : List (List ℕ)) → length marks ≡ length paths →
    is_one_of q paths ≡ true → is_one_of q (kept marks paths) ≡ false →
    is_one_of q (kept (map not marks) paths) ≡ true
kept-or q [] [] l h n = absurd (cc)
kept-or q [] (p ∷ paths) l h n = absurd (omega arith)
kept-or q (mark ∷ marks) [] l h n = absurd (omega arith)
kept-or q (true ∷ marks) (p ∷ paths) l h n = elim (or_cases (bytes_eq q p) (is_one_of q paths) h) [
  | inl e ↦ absurd (clash (bytes_eq q p || is_one_of q (kept marks paths))
      (or_left (bytes_eq q p) (is_one_of q (kept marks paths)) e) n)
  | inr r ↦ kept-or q marks paths (omega arith) r
      (elim (tells (is_one_of q (kept marks paths))) [
        | inl y ↦ absurd (clash (bytes_eq q p || is_one_of q (kept marks paths))
            (or_right (bytes_eq q p) (is_one_of q (kept marks paths)) y) n)
        | inr y ↦ y
      ])
]
kept-or q (false ∷ marks) (p ∷ paths) l h n = elim (or_cases (bytes_eq q p) (is_one_of q paths) h) [
  | inl e ↦ or_left (bytes_eq q p) (is_one_of q (kept (map not marks) paths)) e
  | inr r ↦ or_right (bytes_eq q p) (is_one_of q (kept (map not marks) paths))
      (kept-or q marks paths (omega arith) r n)
]

-- some output is not marked
some-unmarked : (marks : List Bool) (paths : List (List ℕ)) → length marks ≡ length paths →
    list_any not marks ≡ true → (q : List ℕ) × (is_one_of q (kept (map not marks) paths) ≡ true)
some-unmarked [] paths l h = absurd (cc)
some-unmarked (mark ∷ marks) [] l h = absurd (omega arith)
some-unmarked (true ∷ marks) (p ∷ paths) l h = some-unmarked marks paths (omega arith) h
some-unmarked (false ∷ marks) (p ∷ paths) l h = (
  p,
  or_left (bytes_eq p p) (is_one_of p (kept (map not marks) paths))
      ((bytes_eq-Decides p p).1 refl),
)

module _ (v u : View) (files : v.files ≡ u.files) (same : (path : List ℕ) →
    views.content v path ≡ views.content u path) where
  -- an output that is not marked is trusted
  unmarked-trusted : (q : List ℕ) (inputs outputs : List (List ℕ)) (items : List Item) →
      is_one_of q (kept (map not (marks_of v inputs outputs items)) outputs) ≡ true →
      (pair : Pairing) × In pair (pairs_of inputs outputs) × (pair.output ≡ q)
      × ((file : File) × IsTrusted u pair.inputs pair.output file)
  unmarked-trusted q (input ∷ inputs) (o ∷ outputs) (item ∷ items) h =
      go (pair_is_old v input o) refl h (unmarked-trusted q inputs outputs items)
    where
      go : (b : Bool) → pair_is_old v input o ≡ b →
          is_one_of q (kept_if (not b) o (kept (map not (marks_of v inputs outputs items)) outputs))
          ≡ true →
          (is_one_of q (kept (map not (marks_of v inputs outputs items)) outputs) ≡ true →
          (pair : Pairing) × In pair (pairs_of inputs outputs) × (pair.output ≡ q)
          × ((file : File) × IsTrusted u pair.inputs pair.output file)) →
          (pair : Pairing) × In pair (pairs_of (input ∷ inputs) (o ∷ outputs)) × (pair.output ≡ q)
          × ((file : File) × IsTrusted u pair.inputs pair.output file)
      go true e n rest = let r = rest n in (r.0, inr r.1, r.2, r.3)
      go false e n rest = elim (or_cases (bytes_eq q o)
          (is_one_of q (kept (map not (marks_of v inputs outputs items)) outputs)) n) [
            | inl x ↦ (let pair : Pairing = record { output = o; inputs = input ∷ [] } in (
              pair,
              inl refl,
              sym ((bytes_eq-Decides q o).0 x),
              pair-trusted v u files same pair input refl e,
            ))
            | inr x ↦ (let r = rest x in (r.0, inr r.1, r.2, r.3))
          ]
  unmarked-trusted q [] [] [] h = absurd (cc)
  unmarked-trusted q [] [] (item ∷ items) h = absurd (cc)
  unmarked-trusted q [] (o ∷ outputs) [] h = absurd (cc)
  unmarked-trusted q [] (o ∷ outputs) (item ∷ items) h = absurd (cc)
  unmarked-trusted q (input ∷ inputs) [] [] h = absurd (cc)
  unmarked-trusted q (input ∷ inputs) [] (item ∷ items) h = absurd (cc)
  unmarked-trusted q (input ∷ inputs) (o ∷ outputs) [] h = absurd (cc)

-- what is decided where a piece runs in part
pub record PartFacts (v : View) (lists : Lists) (old : List Item) : Type 0 where
  pub kind : List ℕ
  pub items : List Item
  pub typed : lists.items ≡ Some (kind, items)
  pub li : length lists.inputs ≡ length items
  pub lo : length lists.outputs ≡ length items
  pub old_is : old ≡ kept (marks_of v lists.inputs lists.outputs items) items
  pub part : ArePart (marks_of v lists.inputs lists.outputs items) items

module _ (v : View) (lists : Lists) (old : List Item) where
  pairs-not : (b : Bool) → (if b then RunAll else Skip) ≡ Part old → ⊥
  pairs-not true e = let h : false ≡ true = ap is-part e in cc
  pairs-not false e = let h : false ≡ true = ap is-part e in cc

  of-facts : (kind : List ℕ) (items : List Item) → lists.items ≡ Some (kind, items) →
      length lists.inputs ≡ length items → length lists.outputs ≡ length items →
      (some : List Item) → some ≡ old_items v lists.inputs lists.outputs items →
      of_items some (length items) ≡ Part old → PartFacts v lists old
  of-facts kind items t li lo [] s e = absurd (let h : false ≡ true = ap is-part e in
      clash false h refl)
  of-facts kind items t li lo (item ∷ some) s e = go (length (item ∷ some) == length items) refl e
    where
      go : (b : Bool) → (length (item ∷ some) == length items) ≡ b →
          (if b then RunAll else Part (item ∷ some)) ≡ Part old → PartFacts v lists old
      go true x e = absurd (let h : false ≡ true = ap is-part e in clash false h refl)
      go false x e =
          let marks : List Bool = marks_of v lists.inputs lists.outputs items in
          let so : item ∷ some ≡ kept marks items =
          s ∙ old-kept v lists.inputs lists.outputs items in
          record {
            kind = kind;
            items = items;
            typed = t;
            li = li;
            lo = lo;
            old_is = sym (ap old-of e) ∙ so;
            part = record {
              each = marks-length v lists.inputs lists.outputs items li lo;
              some = elim (tells (list_any (λ mark. mark) marks)) [
                | inl h ↦ h
                | inr h ↦ absurd (let none : item ∷ some ≡ [] = so ∙ some-kept marks items h in
                    let l : length (item ∷ some) ≡ 0 = ap length none in omega arith)
              ];
              not_all = elim (tells (list_any not marks)) [
                | inl h ↦ h
                | inr h ↦ absurd (
                    let long : length (item ∷ some) ≡ length items =
                    ap length so ∙ all-kept marks items
                    (marks-length v lists.inputs lists.outputs items li lo) h in
                    clash (length (item ∷ some) == length items)
                    (eq-eqb (length (item ∷ some)) (length items) long) x)
              ];
            };
          }

  shape-facts : (o : Option (List ℕ × List Item)) → lists.items ≡ o →
      by_shape v lists.inputs lists.outputs (option_map (λ typed. typed.1) o) ≡ Part old →
      PartFacts v lists old
  shape-facts None t h = absurd (pairs-not (any_is_old v lists.inputs lists.outputs) h)
  shape-facts (Some typed) t h = go ((length lists.inputs == length typed.1)
      && (length lists.outputs == length typed.1)) refl h
    where
      go : (b : Bool) → ((length lists.inputs == length typed.1)
          && (length lists.outputs == length typed.1)) ≡ b →
          (if b then of_items (old_items v lists.inputs lists.outputs typed.1)
          (length typed.1) else by_pairs v lists.inputs lists.outputs) ≡ Part old →
          PartFacts v lists old
      go true g h =
          let both = and_both (length lists.inputs == length typed.1)
          (length lists.outputs == length typed.1) g in
          of-facts typed.0 typed.1 t (eqb-true (length lists.inputs) (length typed.1) both.0)
          (eqb-true (length lists.outputs) (length typed.1) both.1)
          (old_items v lists.inputs lists.outputs typed.1) refl h
      go false g h = absurd (pairs-not (any_is_old v lists.inputs lists.outputs) h)

pub part-facts : (run : Run) (lists : Lists) (x : State) (old : List Item) →
    choice_of Incremental run lists x ≡ Part old → PartFacts (view_of run x) lists old
part-facts run lists x old e = go lists.inputs lists.outputs refl refl e
  where
    go : (ins outs : List (List ℕ)) → lists.inputs ≡ ins → lists.outputs ≡ outs →
        decision (view_of run x) ins outs (option_map (λ typed. typed.1) lists.items) Incremental
        ≡ Part old → PartFacts (view_of run x) lists old
    go [] outs a b h = absurd (let k : false ≡ true = ap is-part h in clash false k refl)
    go (first ∷ ins) [] a b h = absurd (let k : false ≡ true = ap is-part h in clash false k refl)
    go (first ∷ ins) (o ∷ outs) a b h =
        let h2 : by_shape (view_of run x) lists.inputs (o ∷ outs)
        (option_map (λ typed. typed.1) lists.items) ≡ Part old =
        subst (λ l. by_shape (view_of run x) l (o ∷ outs)
        (option_map (λ typed. typed.1) lists.items) ≡ Part old) (sym a) h in
        shape-facts (view_of run x) lists old lists.items refl
        (subst (λ l. by_shape (view_of run x) lists.inputs l
        (option_map (λ typed. typed.1) lists.items) ≡ Part old) (sym b) h2)

is-some-of : {X : Type 0} (o : Option X) (x : X) → o ≡ Some x → IsSome o
is-some-of None x e = absurd (cc)
is-some-of (Some y) x e = refl

-- what a part lacks of the whole
parts-lack : (files : List ℕ → Option (List ℕ)) (from : Journal) (new own : List Act)
    (outs : List (List ℕ)) (marks : List Bool) → length marks ≡ length outs →
    ((q : List ℕ) → is_one_of q (kept marks outs) ≡ true → last_bytes new q ≡ last_bytes own q) →
    ((q : List ℕ) → is_one_of q (kept marks outs) ≡ false → last_bytes new q ≡ None) →
    ((q : List ℕ) → is_some (last_bytes own q) ≡ is_one_of q outs) →
    ((q : List ℕ) (left : Option (List ℕ)) → is_one_of q (kept (map not marks) outs) ≡ true →
    last_bytes own q ≡ Some left → seen files from q ≡ left) →
    PartLacks files from new own
parts-lack files from new own outs marks ml same other writes there = record {
  acted = λ q. elim (tells (is_one_of q (kept marks outs))) [
    | inl h ↦ inr (same q h)
    | inr h ↦ inl (other q h)
  ];
  left_out = λ q left n h. elim (tells (is_one_of q (kept marks outs))) [
    | inl g ↦ absurd (none-some (last_bytes new q) n (same q g ∙ h))
    | inr g ↦ there q left (kept-or q marks outs ml (sym (writes q) ∙ ap is_some h) g) h
  ];
}

module _ (tools : List ℕ → ToolInput → ToolAnswer) (id : RunId) (run : Run) (scope : Scope)
    (j k : Journal) (a : AlikeJournals (bytes_in run.files) AnyPath j k) (fw : HasNotActed id j)
    (fc : HasNotActed id k) where
  -- the end of the whole, and that of the part in the clean world
  abbrev whole-end : State → List Act → End (Result State Stopped)
  whole-end after acts = record { value = Ok after; journal = after.journal; acts = acts }

  finish : (after : State) (acts : List Act) (r : Result State Stopped) (l : Journal)
      (qs qt : List Act) (skipped : State) → CousinEnd tools id run j k fw fc r (Ok skipped) qs qt →
      (progress_in r).journal ≡ l → LacksOnly (bytes_in run.files) j qs acts →
      skipped.changes ≡ after.changes → skipped.items ≡ after.items →
      after.journal ≡ numbered id acts ++ k → GoAlike tools id run scope j k (record {
        value =
            r;
        journal = l;
        acts = qs;
      }) (whole-end after acts)
  finish after acts (Ok z) l qs qt skipped h step lacks ch it n =
      record {
        ends = record {
          items = h.items ∙ it;
          changes = h.changes ∙ ch;
          w_is = h.w_is;
          c_is =
              n;
          lacks = lacks;
        };
        w_step = step;
        c_step = refl;
      }
  finish after acts (Err (faulted d)) l qs qt skipped h step lacks ch it n = absurd h
  finish after acts (Err (failed d)) l qs qt skipped h step lacks ch it n = absurd h

  module _ (bucket : Bucket) (lists : Lists) (s t : State) (ps pt : List Act)
      (c : Carry tools id run scope j k s t ps pt) (marks : List Bool) (items : List Item)
      (after : State) (acts : List Act)
      (hf : end_of tools id (decided run bucket RunAll lists.items (entered scope bucket t))
      t.journal pt ≡ Some (whole-end after acts)) where
    abbrev p : Piece
    p = piece_at tools id run scope j k a bucket lists t pt

    abbrev y : State
    y = entered scope bucket t

    -- what the whole has done itself
    grown : (own : List Act) × (acts ≡ own ++ pt) × (after.journal ≡ numbered id acts ++ k)
    grown = let st = decided-steps tools id run k fc bucket RunAll lists.items y pt c.c_is
        (whole-end after acts) hf in (st.more, st.grown, st.numbered_so)

    -- what is kept of a trusted output
    kept-bytes : (own : List Act) → acts ≡ own ++ pt → (q : List ℕ) (left : Option (List ℕ))
        (file : File) → IsAsInTree (view_of run y) q file → WritesSame tools id run p q file →
        last_bytes own q ≡ Some left → seen (bytes_in run.files) s.journal q ≡ left
    kept-bytes own pf q left file tree (t1, acts1, e1, b1) h =
        let same : whole-end t1 acts1 ≡ whole-end after acts =
        some-same (whole-end t1 acts1) (whole-end after acts) (sym e1 ∙ hf) in
        let ep : acts1 ≡ own ++ pt = ap (λ (z : End (Result State Stopped)). z.acts) same ∙ pf in
        let own1 : since pt acts1 ≡ own = ap (since pt) ep ∙ since-front own pt in
        let b2 : last_bytes own q ≡ Some (Some file.bytes) =
        sym (ap (λ l. last_bytes l q) own1) ∙ b1 in
        let kept : Some file.bytes ≡ left = some-same (Some file.bytes) left (sym b2 ∙ h) in
        (carry-alike tools id run scope j k a s t ps pt c).same q ∙ (tree.unchanged ∙ kept)

    part-whole : length marks ≡ length lists.outputs →
        ((q : List ℕ) → is_one_of q (kept (map not marks) lists.outputs) ≡ true →
        (file : File) × IsAsInTree (view_of run y) q file × WritesSame tools id run p q file) →
        PieceIsDeclared tools id run p → PartIsDeclared tools id run p after acts items marks →
        (E : End (Result State Stopped)) → end_of tools id
        (decided run bucket (Part (kept marks items)) lists.items (entered scope bucket s))
        s.journal ps ≡ Some E →
        IsFine tools id run scope j k (Fine tools id run scope j k a) E.value →
        GoAlike tools id run scope j k E (whole-end after acts)
    part-whole ml there declared part E he fe =
        with-both (same-goes tools id run scope j k a fw fc bucket lists
        (Part (kept marks items)) s t ps pt c E (record {
          value = Ok part.after;
          journal =
              part.after.journal;
          acts = part.acts;
        }) he part.succeeds fe part.never_large) grown.0
        grown.1
      where
        changed : (part.after.changes ≡ after.changes) × (part.after.items ≡ after.items)
        changed = part.changes (λ q h. let r = there q h in
            is-some-of (views.content (view_of run y) q) r.0.bytes r.1.unchanged)

        with-both : BothEnd tools id run j k fw fc ps pt E (record {
          value =
              Ok part.after;
          journal = part.after.journal;
          acts = part.acts;
        }) → (own : List Act) →
            acts ≡ own ++ pt → GoAlike tools id run scope j k E (whole-end after acts)
        with-both both own pf =
            let new : List Act = both.new in
            let own-is : since pt acts ≡ own = ap (since pt) pf ∙ since-front own pt in
            let new-is : since pt part.acts ≡ new =
            ap (since pt) both.c_acts ∙ since-front new pt in
            let lacking : PartLacks (bytes_in run.files) s.journal new own =
            parts-lack (bytes_in run.files) s.journal new own lists.outputs marks ml
            (λ q h. sym (ap (λ l. last_bytes l q) new-is)
            ∙ (part.bytes q h ∙ ap (λ l. last_bytes l q) own-is))
            (λ q h. sym (ap (λ l. last_bytes l q) new-is) ∙ part.no_other q h)
            (λ q. sym (ap (λ l. is_some (last_bytes l q)) own-is)
            ∙ declared.writes_outputs after acts hf q)
            (λ q left g h. let r = there q g in kept-bytes own pf q left r.0 r.1 r.2 h) in
            let lacks : LacksOnly (bytes_in run.files) j E.acts acts =
            subst (λ l. LacksOnly (bytes_in run.files) j l acts) (sym both.w_acts)
            (subst (LacksOnly (bytes_in run.files) j (new ++ ps)) (sym pf)
            (lacks-append (bytes_in run.files) j s.journal new own ps pt
            (seen-over tools id run scope j k a fw fc s t ps pt c) c.lacks lacking)) in
            finish after acts E.value E.journal E.acts part.acts part.after both.cousins
            both.w_step lacks changed.0 changed.1 grown.2

  pub part-goes : GoesBy tools id run scope j k a fw fc Incremental
      (IsPart tools id run scope j k a fw fc)
  part-goes bucket lists s t ps pt c lw lc all RunAll e w E F he hf fe ff said = absurd w
  part-goes bucket lists s t ps pt c lw lc all Nothing e w E F he hf fe ff said = absurd w
  part-goes bucket lists s t ps pt c lw lc all Skip e w E F he hf fe ff said = absurd w
  part-goes bucket lists s t ps pt c lw lc all (Part old) e w E F he hf fe ff said =
      by-facts (part-facts run lists (entered scope bucket s) old e)
    where
      by-whole : (facts : PartFacts (view_of run (entered scope bucket s)) lists old) →
          ((q : List ℕ) → is_one_of q (kept (map not
          (marks_of (view_of run (entered scope bucket s)) lists.inputs lists.outputs
          facts.items)) lists.outputs) ≡ true →
          (file : File) × IsAsInTree (view_of run (entered scope bucket t)) q file
          × WritesSame tools id run (piece_at tools id run scope j k a bucket lists t pt)
          q file) →
          (after : State) (acts : List Act) → end_of tools id
          (decided run bucket RunAll lists.items (entered scope bucket t)) t.journal pt
          ≡ Some (whole-end after acts) → GoAlike tools id run scope j k E F
      by-whole facts there after acts w1 =
          let marks : List Bool = marks_of (view_of run (entered scope bucket s)) lists.inputs
          lists.outputs facts.items in
          let by : ByItems (piece_at tools id run scope j k a bucket lists t pt) facts.items =
          record {
            kind = facts.kind;
            typed = facts.typed;
            inputs = facts.li;
            outputs =
                facts.lo;
          } in
          let he' : end_of tools id (decided run bucket (Part (kept marks facts.items)) lists.items
          (entered scope bucket s)) s.journal ps ≡ Some E =
          subst (λ l. end_of tools id (decided run bucket (Part l) lists.items
          (entered scope bucket s)) s.journal ps ≡ Some E) facts.old_is he in
          let same : whole-end after acts ≡ F = some-same (whole-end after acts) F (sym w1 ∙ hf) in
          subst (GoAlike tools id run scope j k E) same
          (part-whole bucket lists s t ps pt c marks facts.items after acts w1 (facts.part.each
          ∙ sym facts.lo) there said.0 (said.0.parts after acts w1 facts.items by marks
          facts.part) E he' fe)

      by-facts : PartFacts (view_of run (entered scope bucket s)) lists old →
          GoAlike tools id run scope j k E F
      by-facts facts =
          let marks : List Bool = marks_of (view_of run (entered scope bucket s)) lists.inputs
          lists.outputs facts.items in
          let by : ByItems (piece_at tools id run scope j k a bucket lists t pt) facts.items =
          record {
            kind = facts.kind;
            typed = facts.typed;
            inputs = facts.li;
            outputs =
                facts.lo;
          } in
          let there : (q : List ℕ) → is_one_of q (kept (map not marks) lists.outputs) ≡ true →
          (file : File) × IsAsInTree (view_of run (entered scope bucket t)) q file
          × WritesSame tools id run (piece_at tools id run scope j k a bucket lists t
          pt) q file =
          λ q h.
          let r = unmarked-trusted (view_of run (entered scope bucket s))
          (view_of run (entered scope bucket t)) refl
          (carry-alike tools id run scope j k a s t ps pt c).same q lists.inputs
          lists.outputs facts.items h in (
            r.3.0,
            subst (λ o. IsAsInTree (view_of run (entered scope bucket t)) o r.3.0)
                r.2 r.3.1.output_there,
            subst (λ o. WritesSame tools id run
                (piece_at tools id run scope j k a bucket lists t pt) o r.3.0) r.2
                (said.1.by_items facts.items by r.0 r.1 r.3.0 r.3.1),
          ) in
          let o = some-unmarked marks lists.outputs (facts.part.each
          ∙ sym facts.lo) facts.part.not_all in
          let w1 = (there o.0 o.1).2 in
          by-whole facts there w1.0 w1.1 w1.2
