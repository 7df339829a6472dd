-- A piece whose outputs are no older than its inputs is skipped, where no run has acted on any of
-- them.
use Rattle.std.proofs.Common.{
  ◌≡◌,
  ℕ,
  ◌≤◌,
  ◌||◌,
  ◌⊎◌,
  inl,
  inr,
  Bool,
  true,
  false,
  List,
  [],
  ◌∷◌,
  length,
  Option,
  None,
  Some,
  refl,
  ap,
  sym,
  ◌∙◌,
  subst,
}
use Rattle.std.specs.Prelude.{option_map, if◌then◌else◌}
use Rattle.std.specs.List.{list_any}
use Rattle.std.proofs.lemmas.Bool.{or_from, le-ltb}
use Rattle.msb_values.specs.declared.item.Item.{Item}
use Rattle.msb_values.specs.declared.mode.Mode.TheVariants.{Incremental}
use Rattle.file_store.specs.Files.{file_at}
use Rattle.file_store.specs.declared.tree.File.{File}
use Rattle.result_cache.specs.Lists.{In}
use Rattle.msb_files.specs.Views.{View, written, stamp}
use Rattle.target_incremental.specs.Ages.{is_missing_or_older, pair_is_old, any_is_old}
use Rattle.target_incremental.specs.Decisions.{
  by_pairs,
  item_if,
  old_items,
  of_items,
  by_shape,
  decision,
}
use Rattle.target_incremental.specs.declared.decision.Choice.TheVariants.{Run as RunAll, Skip}
use Rattle.target_body.specs.States.{Run, State, view_of}
use Rattle.target_body.specs.Pieces.{choice_of}
use Rattle.build_declared.specs.Chosen.{all_or_nothing}
use Rattle.build_declared.specs.Fresh.{Pairing, pairs_of}
use Rattle.build_declared.specs.NoOlder.{OutputIsNoOlder, PieceIsNoOlder}
use Rattle.build_declared.specs.Pieces.{Piece, ByItems}
use Rattle.build_declared.proofs.SkippedPieces.{
  as_long,
  counts-items,
  counts-no-items,
  names-none,
}

none-holds : {X : Type 0} (f : X → Bool) (xs : List X) → ((x : X) → In x xs → f x ≡ false) →
    list_any f xs ≡ false
none-holds f [] h = refl
none-holds f (x ∷ xs) h = or_from (f x) (list_any f xs) (h x (inl refl))
    (none-holds f xs (λ y i. h y (inr i)))

-- the files of a pair are among those of the lists
pairs-in : (inputs outputs : List (List ℕ)) (pair : Pairing) →
    In pair (pairs_of inputs outputs) → In pair.output outputs
    × ((input : List ℕ) → In input pair.inputs → In input inputs)
pairs-in [] outputs pair i = absurd i
pairs-in (input ∷ inputs) [] pair i = absurd i
pairs-in (input ∷ inputs) (output ∷ outputs) pair (inl e) = (
  inl (ap (λ (p : Pairing). p.output) e),
  λ x u. elim (subst (λ (p : Pairing). In x p.inputs) (sym e) u)
      [ inl q ↦ inl q | inr n ↦ absurd n ],
)
pairs-in (input ∷ inputs) (output ∷ outputs) pair (inr i) =
    let r = pairs-in inputs outputs pair i in (inr r.0, λ x u. inr (r.1 x u))

-- a pair of files that are in the tree and on which no run has acted
not-old : (v : View) (input output : List ℕ) (x y : File) → written v input ≡ false →
    written v output ≡ false → file_at input v.files ≡ Some x → file_at output v.files ≡ Some y →
    x.stamp ≤ y.stamp → pair_is_old v input output ≡ false
not-old v input output x y wi wo e f less =
    or_from (written v input)
    (written v output || is_missing_or_older (stamp v input) (stamp v output)) wi
    (or_from (written v output) (is_missing_or_older (stamp v input) (stamp v output)) wo
    (ap (λ o. is_missing_or_older (option_map (λ (z : File). z.stamp) o) (stamp v output)) e
    ∙ (ap (λ o. is_missing_or_older (Some x.stamp) (option_map (λ (z : File). z.stamp) o)) f
    ∙ le-ltb y.stamp x.stamp less)))

-- no pair is out of date, so no item is
old-none : (v : View) (inputs outputs : List (List ℕ)) (items : List Item) →
    ((pair : Pairing) → In pair (pairs_of inputs outputs) → (input : List ℕ) →
    In input pair.inputs → pair_is_old v input pair.output ≡ false) →
    old_items v inputs outputs items ≡ []
old-none v [] outputs items h = refl
old-none v (input ∷ inputs) [] items h = refl
old-none v (input ∷ inputs) (output ∷ outputs) [] h = refl
old-none v (input ∷ inputs) (output ∷ outputs) (item ∷ items) h =
    let pair : Pairing = record { output = output; inputs = input ∷ [] } in
    ap (λ b. item_if b item (old_items v inputs outputs items)) (h pair (inl refl) input (inl refl))
    ∙ old-none v inputs outputs items (λ other i. h other (inr i))

module _ (run : Run) (p : Piece) (new : PieceIsNoOlder run.files p) (x : State)
    (off : (path : List ℕ) → In path p.lists.inputs ⊎ In path p.lists.outputs →
    written (view_of run x) path ≡ false) where
  abbrev v : View
  v = view_of run x

  new-by : (inputs : List (List ℕ)) (output : List ℕ) →
      OutputIsNoOlder run.files inputs output →
      ((input : List ℕ) → In input inputs → In input p.lists.inputs) →
      In output p.lists.outputs → (input : List ℕ) → In input inputs →
      pair_is_old v input output ≡ false
  new-by inputs output o among at input i =
      let f = o.inputs_there input i in
      not-old v input output f.0 o.file (off input (inl (among input i))) (off output (inr at))
      f.1 o.output_there f.2

  by-every : ((items : List Item) → ByItems p items → ⊥) →
      any_is_old v p.lists.inputs p.lists.outputs ≡ false
  by-every apart =
      none-holds (λ input. list_any (pair_is_old v input) p.lists.outputs) p.lists.inputs
      (λ input i. none-holds (pair_is_old v input) p.lists.outputs
      (λ output o. new-by p.lists.inputs output (new.by_pairs apart output o) (λ z u. u) o
      input i))

  by-each : (items : List Item) → ByItems p items →
      old_items v p.lists.inputs p.lists.outputs items ≡ []
  by-each items b = old-none v p.lists.inputs p.lists.outputs items (λ pair i input u.
      let w = pairs-in p.lists.inputs p.lists.outputs pair i in
      new-by pair.inputs pair.output (new.by_items items b pair i) w.1 w.0 input u)

  shape-skips : (o : Option (List ℕ × List Item)) → p.lists.items ≡ o →
      by_shape v p.lists.inputs p.lists.outputs (option_map (λ typed. typed.1) o) ≡ Skip
  shape-skips None t = ap (λ b. if b then RunAll else Skip) (by-every (names-none p t))
  shape-skips (Some typed) t = go (as_long p typed t) refl
    where
      go : (b : Bool) → as_long p typed t ≡ b →
          (if b then of_items (old_items v p.lists.inputs p.lists.outputs typed.1)
          (length typed.1) else by_pairs v p.lists.inputs p.lists.outputs) ≡ Skip
      go true g = ap (λ l. of_items l (length typed.1)) (by-each typed.1 (counts-items p typed t g))
      go false g = ap (λ b. if b then RunAll else Skip) (by-every (counts-no-items p typed t g))

  pub new-skips : all_or_nothing p.lists.inputs p.lists.outputs ≡ RunAll →
      choice_of Incremental run p.lists x ≡ Skip
  new-skips all = go p.lists.inputs p.lists.outputs refl refl all
    where
      go : (ins outs : List (List ℕ)) → p.lists.inputs ≡ ins → p.lists.outputs ≡ outs →
          all_or_nothing ins outs ≡ RunAll →
          decision v ins outs (option_map (λ typed. typed.1) p.lists.items) Incremental ≡ Skip
      go [] outs a b h = absurd (cc)
      go (first ∷ ins) [] a b h = absurd (cc)
      go (first ∷ ins) (o ∷ outs) a b h =
          subst (λ l. by_shape v l (o ∷ outs) (option_map (λ typed. typed.1) p.lists.items)
          ≡ Skip) a
          (subst (λ l. by_shape v p.lists.inputs l (option_map (λ typed. typed.1) p.lists.items)
          ≡ Skip) b (shape-skips p.lists.items refl))
