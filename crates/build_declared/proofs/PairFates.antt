-- What a build does with each output of a piece that succeeds: it writes what the whole writes, or
-- it leaves what is there, where nobody has acted on the output or an input that it is paired with.
use Rattle.std.proofs.Common.{
  ◌≡◌,
  ℕ,
  ◌≤◌,
  ◌⊎◌,
  inl,
  inr,
  Bool,
  true,
  false,
  List,
  [],
  ◌∷◌,
  ◌++◌,
  length,
  Option,
  None,
  Some,
  is_some,
  refl,
  ap,
  sym,
  ◌∙◌,
  subst,
  arith,
}
use Rattle.std.specs.Prelude.{Result, Ok, option_map, if◌then◌else◌}
use Rattle.std.specs.List.{list_any}
use Rattle.std.specs.Str.{bytes_eq}
use Rattle.std.proofs.lemmas.Slice.Eq.{bytes_eq-Decides}
use Rattle.msb_values.specs.declared.item.Item.{Item}
use Rattle.msb_values.specs.declared.mode.Mode.{Mode}
use Rattle.msb_values.specs.declared.mode.Mode.TheVariants.{Incremental, Clean}
use Rattle.msb_values.specs.declared.act.Act.{Act}
use Rattle.msb_values.specs.declared.scope.Scope.{Scope}
use Rattle.msb_expand.specs.declared.lens.Bucket.{Bucket}
use Rattle.file_store.specs.Files.{file_at}
use Rattle.file_store.specs.declared.tree.File.{File}
use Rattle.result_cache.specs.declared.run.RunId.{RunId}
use Rattle.result_cache.specs.Lists.{In}
use Rattle.result_cache.specs.Journal as journals
use Rattle.result_cache.specs.Journal.{Journal}
use Rattle.result_cache.proofs.RunTests.{tells, clash, or_left, or_right, or_neither}
use Rattle.build_incremental.specs.Alike.{AlikeJournals}
use Rattle.build_incremental.specs.Alone.{last_bytes}
use Rattle.build_incremental.specs.SideBySide.{HasNotActed}
use Rattle.msb_files.specs.Views.{View}
use Rattle.task_trait.specs.declared.tools.ToolAnswer.{ToolAnswer}
use Rattle.task_trait.specs.declared.tools.ToolInput.{ToolInput}
use Rattle.target_incremental.specs.Ages.{pair_is_old, any_is_old}
use Rattle.target_incremental.specs.Decisions.{
  by_pairs,
  item_if,
  old_items,
  of_items,
  by_shape,
  decision,
}
use Rattle.target_incremental.specs.declared.decision.Choice.{Choice}
use Rattle.target_incremental.specs.declared.decision.Choice.TheVariants.{
  Run as RunAll,
  Skip,
  Nothing,
  Part,
}
use Rattle.target_texts.specs.Lists.{Lists}
use Rattle.target_body.specs.States.{Run, State, Stopped, entered, view_of}
use Rattle.target_body.specs.Pieces.{choice_of, decided, Chooser}
use Rattle.build_declared.specs.Chosen.{all_or_nothing}
use Rattle.build_declared.specs.Declared.{MayChoose}
use Rattle.build_declared.specs.Ends.{End, end_of}
use Rattle.build_declared.specs.Fresh.{Pairing, pairs_of, WritesSame}
use Rattle.build_declared.specs.Pieces.{Piece, ByItems}
use Rattle.build_declared.specs.Sublists.{kept_if, kept}
use Rattle.build_declared.specs.Written.{bytes_in, AnyPath, since, is_one_of}
use Rattle.build_declared.proofs.Alones.{some-same}
use Rattle.build_declared.proofs.BucketsGo.{Carry, carry-alike, IsFine}
use Rattle.build_declared.proofs.Choices.{marks_of, decided-may, clean-all}
use Rattle.build_declared.proofs.LastWrites.{last-in, write-leaves}
use Rattle.build_declared.proofs.PieceParts.{part-facts}
use Rattle.build_declared.proofs.PieceRuns.{same-goes}
use Rattle.build_declared.proofs.PieceSkips.{no-front, since-front}
use Rattle.build_declared.proofs.RunLists.{Fine, Said, piece_at}
use Rattle.build_declared.proofs.SkippedPieces.{
  is-skip,
  pairs-skip,
  items-skip,
  as_long,
  counts-items,
  counts-no-items,
  names-none,
  skip-kept,
}
use Rattle.build_declared.proofs.SkipsSame.{skips-same}
use Rattle.build_declared.proofs.Trusted.{not-in, current-pair, pair-trusted}

-- ---- an output and what it is paired with

-- item by item by its own input alone, else by every input
abbrev pub IsPaired : Piece → Pairing → Type 0
IsPaired p pair =
    ((items : List Item) × ByItems p items × In pair (pairs_of p.lists.inputs p.lists.outputs))
    ⊎ (((items : List Item) → ByItems p items → ⊥) × (pair.inputs ≡ p.lists.inputs)
    × In pair.output p.lists.outputs)

pairs-output : (inputs outputs : List (List ℕ)) (pair : Pairing) →
    In pair (pairs_of inputs outputs) → In pair.output outputs
pairs-output [] outputs pair i = absurd i
pairs-output (input ∷ inputs) [] pair i = absurd i
pairs-output (input ∷ inputs) (output ∷ outputs) pair (inl e) =
    inl (ap (λ (z : Pairing). z.output) e)
pairs-output (input ∷ inputs) (output ∷ outputs) pair (inr i) =
    inr (pairs-output inputs outputs pair i)

-- item by item there is one input
pub pairs-input : (inputs outputs : List (List ℕ)) (pair : Pairing) →
    In pair (pairs_of inputs outputs) → (input : List ℕ) × (pair.inputs ≡ input ∷ [])
    × In input inputs
pairs-input [] outputs pair i = absurd i
pairs-input (input ∷ inputs) [] pair i = absurd i
pairs-input (input ∷ inputs) (output ∷ outputs) pair (inl e) =
    (input, sym (ap (λ (z : Pairing). z.inputs) e), inl refl)
pairs-input (input ∷ inputs) (output ∷ outputs) pair (inr i) =
    let x = pairs-input inputs outputs pair i in (x.0, x.1, inr x.2)

only-one : (input one : List ℕ) (inputs : List (List ℕ)) → inputs ≡ one ∷ [] → In input inputs →
    one ≡ input
only-one input one inputs e i = elim (subst (In input) e i) [ inl h ↦ h | inr h ↦ absurd h ]

pub paired-output : (p : Piece) (pair : Pairing) → IsPaired p pair → In pair.output p.lists.outputs
paired-output p pair (inl x) = pairs-output p.lists.inputs p.lists.outputs pair x.2
paired-output p pair (inr x) = x.2

pub paired-input : (p : Piece) (pair : Pairing) → IsPaired p pair → (input : List ℕ) →
    In input pair.inputs → In input p.lists.inputs
paired-input p pair (inl x) input i =
    let one = pairs-input p.lists.inputs p.lists.outputs pair x.2 in
    subst (λ z. In z p.lists.inputs) (only-one input one.0 pair.inputs one.1 i) one.2
paired-input p pair (inr x) input i = subst (In input) x.1 i

first-input : (inputs outputs : List (List ℕ)) → all_or_nothing inputs outputs ≡ RunAll →
    (input : List ℕ) × In input inputs
first-input [] outputs e = absurd (cc)
first-input (i ∷ inputs) outputs e = (i, inl refl)

some-input : (p : Piece) (pair : Pairing) →
    all_or_nothing p.lists.inputs p.lists.outputs ≡ RunAll → IsPaired p pair →
    (input : List ℕ) × In input pair.inputs
some-input p pair all (inl x) =
    let one = pairs-input p.lists.inputs p.lists.outputs pair x.2 in
    (one.0, subst (In one.0) (sym one.1) (inl refl))
some-input p pair all (inr x) =
    let one = first-input p.lists.inputs p.lists.outputs all in
    (one.0, subst (In one.0) (sym x.1) one.1)

-- each output is paired
in-pairs : (output : List ℕ) (inputs outputs : List (List ℕ)) → length inputs ≡ length outputs →
    In output outputs →
    (pair : Pairing) × In pair (pairs_of inputs outputs) × (pair.output ≡ output)
in-pairs output inputs [] l i = absurd i
in-pairs output [] (one ∷ outputs) l i = absurd (omega arith)
in-pairs output (input ∷ inputs) (one ∷ outputs) l (inl e) =
    (record { output = one; inputs = input ∷ [] }, inl refl, e)
in-pairs output (input ∷ inputs) (one ∷ outputs) l (inr i) =
    let x = in-pairs output inputs outputs (omega arith) i in (x.0, inr x.1, x.2)

module _ (p : Piece) (output : List ℕ) (i : In output p.lists.outputs) where
  abbrev Found : Type 0
  Found = (pair : Pairing) × IsPaired p pair × (pair.output ≡ output)

  paired-every : ((items : List Item) → ByItems p items → ⊥) → Found
  paired-every none =
      let pair : Pairing = record { output = output; inputs = p.lists.inputs } in
      (pair, inr (none, refl, i), refl)

  paired-each : (items : List Item) → ByItems p items → Found
  paired-each items by =
      let x = in-pairs output p.lists.inputs p.lists.outputs (by.inputs ∙ sym by.outputs) i in
      (x.0, inl (items, by, x.1), x.2)

  pub output-paired : Found
  output-paired = go p.lists.items refl
    where
      go : (o : Option (List ℕ × List Item)) → p.lists.items ≡ o → Found
      go None t = paired-every (names-none p t)
      go (Some typed) t = by-length (as_long p typed t) refl
        where
          by-length : (b : Bool) → as_long p typed t ≡ b → Found
          by-length true g = paired-each typed.1 (counts-items p typed t g)
          by-length false g = paired-every (counts-no-items p typed t g)

-- ---- which pairs are not out of date

-- none of the items is
none-old : (v : View) (inputs outputs : List (List ℕ)) (items : List Item) →
    length inputs ≡ length items → old_items v inputs outputs items ≡ [] → (pair : Pairing) →
    In pair (pairs_of inputs outputs) → (input : List ℕ) → In input pair.inputs →
    pair_is_old v input pair.output ≡ false
none-old v [] outputs items l h pair k input i = absurd k
none-old v (one ∷ inputs) [] items l h pair k input i = absurd k
none-old v (one ∷ inputs) (output ∷ outputs) [] l h pair k input i = absurd (omega arith)
none-old v (one ∷ inputs) (output ∷ outputs) (item ∷ items) l h pair k input i =
    go (pair_is_old v one output) refl h k (λ n u. none-old v inputs outputs items (omega arith)
    n pair u input i)
  where
    go : (b : Bool) → pair_is_old v one output ≡ b →
        item_if b item (old_items v inputs outputs items) ≡ [] →
        In pair (pairs_of (one ∷ inputs) (output ∷ outputs)) →
        (old_items v inputs outputs items ≡ [] → In pair (pairs_of inputs outputs) →
        pair_is_old v input pair.output ≡ false) → pair_is_old v input pair.output ≡ false
    go true e n k rest = absurd (cc)
    go false e n (inl p) rest =
        let a : one ≡ input =
        only-one input one pair.inputs (sym (ap (λ (z : Pairing). z.inputs) p)) i in
        subst (λ z. pair_is_old v z pair.output ≡ false) a
        (subst (λ z. pair_is_old v one z ≡ false) (ap (λ (z : Pairing). z.output) p) e)
    go false e n (inr u) rest = rest n u

-- an output that no item out of date has
unmarked-old : (v : View) (inputs outputs : List (List ℕ)) (items : List Item) →
    length inputs ≡ length items → (pair : Pairing) → In pair (pairs_of inputs outputs) →
    is_one_of pair.output (kept (marks_of v inputs outputs items) outputs) ≡ false →
    (input : List ℕ) → In input pair.inputs → pair_is_old v input pair.output ≡ false
unmarked-old v [] outputs items l pair k h input i = absurd k
unmarked-old v (one ∷ inputs) [] items l pair k h input i = absurd k
unmarked-old v (one ∷ inputs) (output ∷ outputs) [] l pair k h input i = absurd (omega arith)
unmarked-old v (one ∷ inputs) (output ∷ outputs) (item ∷ items) l pair k h input i =
    go (pair_is_old v one output) refl h k (λ n u. unmarked-old v inputs outputs items
    (omega arith) pair u n input i)
  where
    go : (b : Bool) → pair_is_old v one output ≡ b → is_one_of pair.output
        (kept_if b output (kept (marks_of v inputs outputs items) outputs)) ≡ false →
        In pair (pairs_of (one ∷ inputs) (output ∷ outputs)) →
        (is_one_of pair.output (kept (marks_of v inputs outputs items) outputs) ≡ false →
        In pair (pairs_of inputs outputs) → pair_is_old v input pair.output ≡ false) →
        pair_is_old v input pair.output ≡ false
    go true e n (inl p) rest =
        let o : output ≡ pair.output = ap (λ (z : Pairing). z.output) p in
        absurd (clash (bytes_eq pair.output output)
        ((bytes_eq-Decides pair.output output).1 (sym o)) (or_neither (bytes_eq pair.output output)
        (is_one_of pair.output (kept (marks_of v inputs outputs items) outputs)) n).0)
    go true e n (inr u) rest = rest (or_neither (bytes_eq pair.output output)
        (is_one_of pair.output (kept (marks_of v inputs outputs items) outputs)) n).1 u
    go false e n (inl p) rest =
        let a : one ≡ input =
        only-one input one pair.inputs (sym (ap (λ (z : Pairing). z.inputs) p)) i in
        subst (λ z. pair_is_old v z pair.output ≡ false) a
        (subst (λ z. pair_is_old v one z ≡ false) (ap (λ (z : Pairing). z.output) p) e)
    go false e n (inr u) rest = rest n u

-- where all of a piece is skipped, each pair is not out of date
module _ (run : Run) (p : Piece) (x : State) (pair : Pairing) (paired : IsPaired p pair)
    (input : List ℕ) (one : In input pair.inputs) where
  abbrev v : View
  v = view_of run x

  abbrev Current : Type 0
  Current = pair_is_old v input pair.output ≡ false

  by-every : any_is_old v p.lists.inputs p.lists.outputs ≡ false →
      pair.inputs ≡ p.lists.inputs → In pair.output p.lists.outputs → Current
  by-every old e i = not-in (pair_is_old v input) pair.output p.lists.outputs
      (not-in (λ z. list_any (pair_is_old v z) p.lists.outputs) input p.lists.inputs old
      (subst (In input) e one)) i

  shape-current : (o : Option (List ℕ × List Item)) → p.lists.items ≡ o →
      by_shape v p.lists.inputs p.lists.outputs (option_map (λ typed. typed.1) o) ≡ Skip →
      IsPaired p pair → Current
  shape-current None t h (inl y) = absurd (names-none p t y.0 y.1)
  shape-current None t h (inr y) =
      by-every (pairs-skip (any_is_old v p.lists.inputs p.lists.outputs) h) y.1 y.2
  shape-current (Some typed) t h y = go (as_long p typed t) refl h y
    where
      go : (b : Bool) → as_long p typed t ≡ b →
          (if b then of_items (old_items v p.lists.inputs p.lists.outputs typed.1)
          (length typed.1) else by_pairs v p.lists.inputs p.lists.outputs) ≡ Skip →
          IsPaired p pair → Current
      go true g h (inl y) = none-old v p.lists.inputs p.lists.outputs typed.1
          (counts-items p typed t g).inputs
          (items-skip (old_items v p.lists.inputs p.lists.outputs typed.1) (length typed.1) h)
          pair y.2 input one
      go true g h (inr y) = absurd (y.0 typed.1 (counts-items p typed t g))
      go false g h (inl y) = absurd (counts-no-items p typed t g y.0 y.1)
      go false g h (inr y) =
          by-every (pairs-skip (any_is_old v p.lists.inputs p.lists.outputs) h) y.1 y.2

  skip-current : choice_of Incremental run p.lists x ≡ Skip → Current
  skip-current e = go p.lists.inputs p.lists.outputs refl refl e
    where
      go : (ins outs : List (List ℕ)) → p.lists.inputs ≡ ins → p.lists.outputs ≡ outs →
          decision v ins outs (option_map (λ typed. typed.1) p.lists.items) Incremental ≡ Skip →
          Current
      go [] outs a b h = let k : false ≡ true = ap is-skip h in absurd (cc)
      go (first ∷ ins) [] a b h = let k : false ≡ true = ap is-skip h in absurd (cc)
      go (first ∷ ins) (o ∷ outs) a b h =
          let h2 : by_shape v p.lists.inputs (o ∷ outs)
          (option_map (λ typed. typed.1) p.lists.items) ≡ Skip =
          subst (λ l. by_shape v l (o ∷ outs) (option_map (λ typed. typed.1) p.lists.items)
          ≡ Skip) (sym a) h in
          let h3 : by_shape v p.lists.inputs p.lists.outputs
          (option_map (λ typed. typed.1) p.lists.items) ≡ Skip =
          subst (λ l. by_shape v p.lists.inputs l (option_map (λ typed. typed.1) p.lists.items)
          ≡ Skip) (sym b) h2 in
          shape-current p.lists.items refl h3 paired

-- ---- what comes of an output

-- the piece has written it, with the bytes that the whole writes
pub record WroteIt (new whole : List Act) (output : List ℕ) : Type 0 where
  pub bytes : List ℕ
  pub ours : last_bytes new output ≡ Some (Some bytes)
  pub theirs : last_bytes whole output ≡ Some (Some bytes)

-- it has left the tree's, which the whole writes
pub record LeftIt (v : View) (new whole : List Act) (pair : Pairing) : Type 0 where
  pub file : File
  pub there : file_at pair.output v.files ≡ Some file
  pub untouched : journals.content v.journal pair.output ≡ None
  pub not_now : last_bytes new pair.output ≡ None
  pub theirs : last_bytes whole pair.output ≡ Some (Some file.bytes)
  pub inputs : (input : List ℕ) → In input pair.inputs →
      (other : File) × (file_at input v.files ≡ Some other)
      × (journals.content v.journal input ≡ None) × (other.stamp ≤ file.stamp)

abbrev pub Fate : View → (new whole : List Act) → Pairing → Type 0
Fate v new whole pair = WroteIt new whole pair.output ⊎ LeftIt v new whole pair

left-it : (v : View) (new whole : List Act) (pair : Pairing) (file : File) →
    file_at pair.output v.files ≡ Some file → last_bytes new pair.output ≡ None →
    last_bytes whole pair.output ≡ Some (Some file.bytes) →
    (input : List ℕ) × In input pair.inputs →
    ((input : List ℕ) → In input pair.inputs → pair_is_old v input pair.output ≡ false) →
    LeftIt v new whole pair
left-it v new whole pair file there not_now theirs one current = record {
  file = file;
  there = there;
  untouched = (current-pair v one.0 pair.output (current one.0 one.1)).out_untouched;
  not_now = not_now;
  theirs = theirs;
  inputs = λ input i.
      let x = current-pair v input pair.output (current input i) in
      let s : Some x.out_file ≡ Some file = sym x.out_there ∙ there in
      let same : x.out_file ≡ file = cc in (
        x.in_file,
        x.in_there,
        x.in_untouched,
        subst (λ (z : File). x.in_file.stamp ≤ z.stamp) same x.no_newer,
      );
}

some-of : {X : Type 0} (o : Option X) → is_some o ≡ true → (x : X) × (o ≡ Some x)
some-of None h = absurd (cc)
some-of (Some x) h = (x, refl)

in-one-of : (path : List ℕ) (paths : List (List ℕ)) → In path paths → is_one_of path paths ≡ true
in-one-of path [] i = absurd i
in-one-of path (p ∷ paths) (inl e) = or_left (bytes_eq path p) (is_one_of path paths)
    ((bytes_eq-Decides path p).1 (sym e))
in-one-of path (p ∷ paths) (inr i) = or_right (bytes_eq path p) (is_one_of path paths)
    (in-one-of path paths i)

module _ (tools : List ℕ → ToolInput → ToolAnswer) (id : RunId) (run : Run) (scope : Scope)
    (j k : Journal) (a : AlikeJournals (bytes_in run.files) AnyPath j k)
    (fw : HasNotActed id j) (fc : HasNotActed id k) (bucket : Bucket) (lists : Lists)
    (s t : State) (ps pt : List Act) (c : Carry tools id run scope j k s t ps pt)
    (all : all_or_nothing lists.inputs lists.outputs ≡ RunAll)
    (E : End (Result State Stopped)) (after : State) (acts : List Act)
    (hf : end_of tools id (decided run bucket RunAll lists.items
    (entered scope bucket t)) t.journal pt ≡ Some (record {
      value = Ok after;
      journal = after.journal;
      acts = acts;
    }))
    (fe : IsFine tools id run scope j k (Fine tools id run scope j k a) E.value)
    (ff : IsFine tools id run scope j k (Fine tools id run scope j k a) (Ok after))
    (said : Said tools id run scope j k a (piece_at tools id run scope j k a bucket lists t pt))
  where
    abbrev x : State
    x = entered scope bucket s

    abbrev q : Piece
    q = piece_at tools id run scope j k a bucket lists t pt

    abbrev whole : End (Result State Stopped)
    whole = record { value = Ok after; journal = after.journal; acts = acts }

    -- each output that is paired, by the acts of the piece
    abbrev pub Fates : Type 0
    Fates = (new : List Act) × (E.acts ≡ new ++ ps)
        × ((pair : Pairing) → IsPaired q pair → Fate (view_of run x) new (since pt acts) pair)

    -- what the whole writes to an output
    whole-writes : (output : List ℕ) → In output lists.outputs →
        (bytes : List ℕ) × (last_bytes (since pt acts) output ≡ Some (Some bytes))
    whole-writes output i =
        let left = some-of (last_bytes (since pt acts) output)
        (said.0.writes_outputs after acts hf output ∙ in-one-of output lists.outputs i) in
        let last = last-in (since pt acts) output left.0 left.1 in
        let write = write-leaves last.0 (λ path e. said.0.removes_none after acts hf path
        (subst (λ z. In z (since pt acts)) e last.1)) in
        (write.0, left.1 ∙ ap Some (sym last.3 ∙ write.1))

    -- what a trusted output gets
    same-writes : (output : List ℕ) (file : File) → WritesSame tools id run q output file →
        last_bytes (since pt acts) output ≡ Some (Some file.bytes)
    same-writes output file w =
        let other : End (Result State Stopped) =
        record { value = Ok w.0; journal = w.0.journal; acts = w.1 } in
        let same : other ≡ whole = some-same other whole (sym w.2 ∙ hf) in
        sym (ap (λ (z : End (Result State Stopped)). last_bytes (since pt z.acts) output) same)
        ∙ w.3

    whole-fates : end_of tools id (decided run bucket RunAll lists.items x) s.journal ps ≡ Some E →
        Fates
    whole-fates he =
        let both = same-goes tools id run scope j k a fw fc bucket lists RunAll s t ps pt c E whole
        he hf fe ff in
        let new-is : since pt acts ≡ both.new =
        ap (since pt) both.c_acts ∙ since-front both.new pt in (
          both.new,
          both.w_acts,
          λ pair paired.
              let w = whole-writes pair.output (paired-output q pair paired) in
              inl (record {
                bytes = w.0;
                ours = sym (ap (λ l. last_bytes l pair.output) new-is) ∙ w.1;
                theirs = w.1;
              }),
        )

    skip-fates : choice_of Incremental run lists x ≡ Skip →
        end_of tools id (decided run bucket Skip lists.items x) s.journal ps ≡ Some E → Fates
    skip-fates e he =
        let alike = carry-alike tools id run scope j k a s t ps pt c in
        let kept = skip-kept tools id run q said.1 x alike.same e in
        let sk = skips-same tools id run scope j k a fw fc bucket lists t pt after acts
        said.0 c.c_is hf (λ o i. ap is_some (kept o i).1.unchanged) in
        let mid : End (Result State Stopped) =
        record { value = Ok sk.0; journal = t.journal; acts = pt } in
        let fine : IsFine tools id run scope j k (Fine tools id run scope j k a) (Ok sk.0) =
        λ note i. ff note (sk.4 note i) in
        let both = same-goes tools id run scope j k a fw fc bucket lists Skip s t ps pt c E mid he
        sk.1 fe fine in
        let none : both.new ≡ [] = no-front both.new pt both.c_acts in (
          [],
          both.w_acts ∙ ap (λ l. l ++ ps) none,
          λ pair paired.
              let f = kept pair.output (paired-output q pair paired) in
              inr (left-it (view_of run x) [] (since pt acts) pair f.0 f.1.there refl
              (same-writes pair.output f.0 f.2) (some-input q pair all paired)
              (λ input i. skip-current run q x pair paired input i e)),
        )

    -- the items that are out of date are marked
    abbrev marks : List Item → List Bool
    marks items = marks_of (view_of run x) lists.inputs lists.outputs items

    part-fate : (items : List Item) → ByItems q items → (new ends : List Act) →
        since pt ends ≡ new → ((path : List ℕ) →
        is_one_of path (kept (marks items) lists.outputs) ≡ true →
        last_bytes (since pt ends) path ≡ last_bytes (since pt acts) path) →
        ((path : List ℕ) → is_one_of path (kept (marks items) lists.outputs) ≡ false →
        last_bytes (since pt ends) path ≡ None) → (pair : Pairing) → IsPaired q pair →
        Fate (view_of run x) new (since pt acts) pair
    part-fate items by new ends new-is bytes none pair (inr y) = absurd (y.0 items by)
    part-fate items by new ends new-is bytes none pair (inl y) =
        elim (tells (is_one_of pair.output (kept (marks items) lists.outputs))) [
          | inl h ↦
              let w = whole-writes pair.output
              (pairs-output lists.inputs lists.outputs pair y.2) in
              inl (record {
                bytes = w.0;
                ours = sym (ap (λ l. last_bytes l pair.output) new-is)
                    ∙ (bytes pair.output h ∙ w.1);
                theirs = w.1;
              })
          | inr h ↦
              let one = pairs-input lists.inputs lists.outputs pair y.2 in
              let there : In one.0 pair.inputs = subst (In one.0) (sym one.1) (inl refl) in
              let current = unmarked-old (view_of run x) lists.inputs lists.outputs items
              by.inputs pair y.2 h in
              let alike = carry-alike tools id run scope j k a s t ps pt c in
              let trusted = pair-trusted (view_of run x) (view_of run q.from) refl alike.same
              pair one.0 one.1 (current one.0 there) in
              inr (left-it (view_of run x) new (since pt acts) pair trusted.0
              trusted.1.output_there.there
              (sym (ap (λ l. last_bytes l pair.output) new-is) ∙ none pair.output h)
              (same-writes pair.output trusted.0
              (said.1.by_items items by pair y.2 trusted.0 trusted.1))
              (one.0, there) current)
        ]

    part-fates : (old : List Item) → choice_of Incremental run lists x ≡ Part old →
        end_of tools id (decided run bucket (Part old) lists.items x) s.journal ps ≡ Some E →
        Fates
    part-fates old e he =
        let facts = part-facts run lists x old e in
        let by : ByItems q facts.items = record {
          kind = facts.kind;
          typed = facts.typed;
          inputs = facts.li;
          outputs = facts.lo;
        } in
        let part = said.0.parts after acts hf facts.items by (marks facts.items) facts.part in
        let ended : End (Result State Stopped) = record {
          value = Ok part.after;
          journal = part.after.journal;
          acts = part.acts;
        } in
        let partly : end_of tools id (decided run bucket (Part (kept (marks facts.items)
        facts.items)) lists.items x) s.journal ps ≡ Some E =
        subst (λ l. end_of tools id (decided run bucket (Part l) lists.items x) s.journal ps
        ≡ Some E) facts.old_is he in
        let both = same-goes tools id run scope j k a fw fc bucket lists
        (Part (kept (marks facts.items) facts.items)) s t ps pt c E ended partly part.succeeds
        fe part.never_large in
        let new-is : since pt part.acts ≡ both.new =
        ap (since pt) both.c_acts ∙ since-front both.new pt in (
          both.new,
          both.w_acts,
          part-fate facts.items by both.new part.acts new-is part.bytes part.no_other,
        )

    pub fates : (mode : Mode) →
        end_of tools id (decided run bucket (choice_of mode run lists x) lists.items x) s.journal ps
        ≡ Some E → Fates
    fates Clean he = whole-fates (subst (λ z. end_of tools id (decided run bucket z lists.items x)
        s.journal ps ≡ Some E) (ap (λ (f : Chooser). f lists x) (clean-all run) ∙ all) he)
    fates Incremental he = by-choice (choice_of Incremental run lists x) refl he
      where
        by-choice : (choice : Choice) → choice_of Incremental run lists x ≡ choice →
            end_of tools id (decided run bucket choice lists.items x) s.journal ps ≡ Some E → Fates
        by-choice RunAll h g = whole-fates g
        by-choice Skip h g = skip-fates h g
        by-choice (Part old) h g = part-fates old h g
        by-choice Nothing h g =
            let may : MayChoose tools id run lists Nothing =
            subst (MayChoose tools id run lists) h (decided-may tools id run lists x) in
            let no : Nothing ≡ RunAll = sym may ∙ all in
            absurd (cc)
