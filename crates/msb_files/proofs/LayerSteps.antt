-- What is asked of a journal's layers one after the other, one layer on.
use Rattle.std.proofs.Common.{
  ◌≡◌,
  ℕ,
  zero,
  suc,
  ◌+◌,
  ◌-◌,
  ◌<◌,
  ◌≤◌,
  List,
  [],
  ◌∷◌,
  ◌++◌,
  length,
  drop,
  get_or,
  Bool,
  true,
  false,
  ◌||◌,
  Some,
  None,
  refl,
  ap,
  ◌∙◌,
  sym,
  arith,
}
use Rattle.std.specs.List.{list_any, slice_get}
use Rattle.std.specs.Option.{option_or}
use Rattle.std.proofs.lemmas.List.{drop_more}
use Rattle.std.proofs.lemmas.List.Folds.{list_any-append}
use Rattle.std.proofs.lemmas.Option.{slice_get-get_or}
use Rattle.msb_values.specs.declared.act.Act.{Act}
use Rattle.result_cache.specs.Journal.{Journal, Entry, Mark, has}
use Rattle.result_cache.proofs.RunTests.{or_right}
use Rattle.msb_files.specs.Indices.{last_act}
use Rattle.msb_files.specs.Layers.{all_of}
use Rattle.msb_files.specs.Views.{acts_of}
use Rattle.msb_files.proofs.Contents.{acts_of-append, last_act-append, has-append}

pub slice_get_front : {X : Type 0} (xs ys : List X) (n : ℕ) → n < length xs
    → slice_get (xs ++ ys) n ≡ slice_get xs n
slice_get_front [] ys n w = absurd (omega arith)
slice_get_front (x ∷ xs) ys zero w = refl
slice_get_front (x ∷ xs) ys (suc n) w = slice_get_front xs ys n (omega arith)

pub slice_get_back : {X : Type 0} (xs ys : List X) (n : ℕ) → length xs ≤ n
    → slice_get (xs ++ ys) n ≡ slice_get ys (n - length xs)
slice_get_back [] ys n past = ap (slice_get ys) (omega arith)
slice_get_back (x ∷ xs) ys zero past = absurd (omega arith)
slice_get_back (x ∷ xs) ys (suc n) past = slice_get_back xs ys n (omega arith)
    ∙ ap (slice_get ys) (omega arith)

pub has_dropped : (layers : List Journal) (i : ℕ) (m : Mark) →
    has m (all_of (drop i layers)) ≡ true → has m (all_of layers) ≡ true
has_dropped layers zero m there = there
has_dropped [] (suc i) m there = there
has_dropped (layer ∷ layers) (suc i) m there =
    has-append m layer (all_of layers)
    ∙ or_right (has m layer) (has m (all_of layers)) (has_dropped layers i m there)

-- the layer at a place, which a loop has come to
pub record IsAt (layers : List Journal) (i : ℕ) (layer : Journal) : Type 0 where
  pub within : i < length layers
  pub is : layer ≡ get_or layers i layer

module _ (layers : List Journal) (i : ℕ) (layer : Journal) (at : IsAt layers i layer) where
  first : all_of (drop i layers) ≡ layer ++ all_of (drop (i + 1) layers)
  first = ap all_of (drop_more layers i layer at.within)
      ∙ ap (λ l. l ++ all_of (drop (i + 1) layers)) (sym at.is)

  act_first : (path : List ℕ) → last_act (all_of (drop i layers)) path
      ≡ option_or (last_act layer path) (last_act (all_of (drop (i + 1) layers)) path)
  act_first path = ap (λ j. last_act j path) first
      ∙ last_act-append layer (all_of (drop (i + 1) layers)) path

  pub act_here : (path : List ℕ) (act : Act) → Some act ≡ last_act layer path
      → Some act ≡ last_act (all_of (drop i layers)) path
  act_here path act is = sym
      (act_first path ∙ ap (λ o. option_or o (last_act (all_of (drop (i + 1) layers)) path))
      (sym is))

  pub act_later : (path : List ℕ) → None ≡ last_act layer path
      → last_act (all_of (drop (i + 1) layers)) path ≡ last_act (all_of (drop i layers)) path
  act_later path is = sym
      (act_first path ∙ ap (λ o. option_or o (last_act (all_of (drop (i + 1) layers)) path))
      (sym is))

  has_first : (m : Mark) → has m (all_of (drop i layers))
      ≡ (has m layer || has m (all_of (drop (i + 1) layers)))
  has_first m = ap (has m) first ∙ has-append m layer (all_of (drop (i + 1) layers))

  pub has_here : (m : Mark) (r : Bool) → r ≡ has m layer → r ≡ true
      → true ≡ has m (all_of (drop i layers))
  has_here m r is holds = sym
      (has_first m ∙ ap (λ b. b || has m (all_of (drop (i + 1) layers))) (sym is ∙ holds))

  pub has_later : (m : Mark) (r : Bool) → r ≡ has m layer → r ≡ false
      → has m (all_of (drop (i + 1) layers)) ≡ has m (all_of (drop i layers))
  has_later m r is fails = sym
      (has_first m ∙ ap (λ b. b || has m (all_of (drop (i + 1) layers))) (sym is ∙ fails))

  any_first : (test : Act → Bool) → list_any test (acts_of (all_of (drop i layers)))
      ≡ (list_any test (acts_of layer) || list_any test (acts_of (all_of (drop (i + 1) layers))))
  any_first test = ap (λ j. list_any test (acts_of j)) first
      ∙ (ap (list_any test) (acts_of-append layer (all_of (drop (i + 1) layers)))
      ∙ list_any-append test (acts_of layer) (acts_of (all_of (drop (i + 1) layers))))

  pub any_here : (test : Act → Bool) (r : Bool) → r ≡ list_any test (acts_of layer) → r ≡ true
      → true ≡ list_any test (acts_of (all_of (drop i layers)))
  any_here test r is holds = sym (any_first test
      ∙ ap (λ b. b || list_any test (acts_of (all_of (drop (i + 1) layers)))) (sym is ∙ holds))

  pub any_later : (test : Act → Bool) (r : Bool) → r ≡ list_any test (acts_of layer) → r ≡ false
      → list_any test (acts_of (all_of (drop (i + 1) layers)))
      ≡ list_any test (acts_of (all_of (drop i layers)))
  any_later test r is fails = sym (any_first test
      ∙ ap (λ b. b || list_any test (acts_of (all_of (drop (i + 1) layers)))) (sym is ∙ fails))

  pub entry_here : (n : ℕ) (e : Entry) → n < length layer → e ≡ get_or layer n e
      → Some e ≡ slice_get (all_of (drop i layers)) n
  entry_here n e w is = sym (ap (λ j. slice_get j n) first
      ∙ (slice_get_front layer (all_of (drop (i + 1) layers)) n w
      ∙ (slice_get-get_or layer n e w ∙ ap Some (sym is))))

  pub entry_later : (n : ℕ) → length layer ≤ n
      → slice_get (all_of (drop (i + 1) layers)) (n - length layer)
      ≡ slice_get (all_of (drop i layers)) n
  entry_later n past = sym (ap (λ j. slice_get j n) first
      ∙ slice_get_back layer (all_of (drop (i + 1) layers)) n past)
