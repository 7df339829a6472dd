-- What is found in layers of runs one after the other, one layer on, and how layers are joined.
use Rattle.std.proofs.Common.{
  ◌≡◌,
  ℕ,
  zero,
  suc,
  ◌+◌,
  ◌-◌,
  ◌<◌,
  ◌≤◌,
  List,
  [],
  ◌∷◌,
  ◌++◌,
  length,
  take,
  drop,
  get_or,
  true,
  false,
  Some,
  None,
  refl,
  ap,
  subst,
  ◌∙◌,
  sym,
  arith,
  length-append,
  length-drop,
}
use Rattle.std.specs.List.{slice_get}
use Rattle.std.proofs.lemmas.List.{
  append-nil,
  append_assoc,
  take-append-drop,
  drop_more,
  take_all,
  take_more,
}
use Rattle.result_cache.specs.declared.run.RunId.{RunId}
use Rattle.result_cache.specs.declared.record.Record.{Record}
use Rattle.result_cache.specs.Kept.{runs_of, all_of}
use Rattle.result_cache.specs.Lists.{this_or}
use Rattle.result_cache.specs.Same.{same_run, AreDistinct}
use Rattle.result_cache.specs.Table.{FinishedRun, Records, found}
use Rattle.result_cache.proofs.RunLists.{
  run_laws,
  found-here,
  found-later,
  absent-before,
  distinct-front,
  distinct-back,
}

slice_get_front : {X : Type 0} (xs ys : List X) (n : ℕ) → n < length xs
    → slice_get (xs ++ ys) n ≡ slice_get xs n
slice_get_front [] ys n w = absurd (omega arith)
slice_get_front (x ∷ xs) ys zero w = refl
slice_get_front (x ∷ xs) ys (suc n) w = slice_get_front xs ys n (omega arith)

slice_get_back : {X : Type 0} (xs ys : List X) (n : ℕ) → length xs ≤ n
    → slice_get (xs ++ ys) n ≡ slice_get ys (n - length xs)
slice_get_back [] ys n past = ap (slice_get ys) (omega arith)
slice_get_back (x ∷ xs) ys zero past = absurd (omega arith)
slice_get_back (x ∷ xs) ys (suc n) past =
    slice_get_back xs ys n (omega arith) ∙ ap (slice_get ys) (omega arith)

pub all_of-append : (xs ys : List Records) → all_of (xs ++ ys) ≡ all_of xs ++ all_of ys
all_of-append [] ys = refl
all_of-append (x ∷ xs) ys =
    ap (λ l. x ++ l) (all_of-append xs ys) ∙ sym (append_assoc x (all_of xs) (all_of ys))

pub all_of-split : (layers : List Records) (n : ℕ)
    → all_of layers ≡ all_of (take n layers) ++ all_of (drop n layers)
all_of-split layers n =
    ap all_of (sym (take-append-drop n layers)) ∙ all_of-append (take n layers) (drop n layers)

-- all layers from a place on
pub rest_all : (layers : List Records) (n : ℕ)
    → take (length layers - n) (drop n layers) ≡ drop n layers
rest_all layers n =
    take_all (length layers - n) (drop n layers) (omega (arith, length-drop n layers))

module _ (layers : List Records) (n : ℕ) (more : Records) where
  parted : all_of layers ++ more ≡ all_of (take n layers) ++ (all_of (drop n layers) ++ more)
  parted =
      ap (λ l. l ++ more) (all_of-split layers n)
      ∙ append_assoc (all_of (take n layers)) (all_of (drop n layers)) more

  -- the last layers and the runs behind them are put into one
  pub distinct_last : AreDistinct (runs_of (all_of layers ++ more))
      → AreDistinct (runs_of (all_of (drop n layers) ++ more))
  distinct_last d =
      distinct-back (all_of (take n layers)) (all_of (drop n layers) ++ more)
      (subst (λ l. AreDistinct (runs_of l)) parted d)

  pub joined_last : (last : Records) → last ≡ all_of (drop n layers) ++ more
      → all_of (take n layers ++ last ∷ []) ≡ all_of layers ++ more
  joined_last last is =
      all_of-append (take n layers) (last ∷ [])
      ∙ (ap (λ l. all_of (take n layers) ++ l) (append-nil last ∙ is) ∙ sym parted)

-- the layer at a place, which a loop has come to
pub record IsAt (layers : List Records) (i : ℕ) (layer : Records) : Type 0 where
  pub within : i < length layers
  pub is : layer ≡ get_or layers i layer

module _ (layers : List Records) (i : ℕ) (layer : Records) (at : IsAt layers i layer) where
  first : all_of (drop i layers) ≡ layer ++ all_of (drop (i + 1) layers)
  first =
      ap all_of (drop_more layers i layer at.within)
      ∙ ap (λ l. l ++ all_of (drop (i + 1) layers)) (sym at.is)

  pub made_here : (run : RunId) (made : Record) → Some made ≡ found layer run
      → Some made ≡ found (all_of (drop i layers)) run
  made_here run made is =
      sym (ap (λ l. found l run) first
      ∙ found-here layer (all_of (drop (i + 1) layers)) run made (sym is))

  pub made_later : (run : RunId) → None ≡ found layer run
      → found (all_of (drop (i + 1) layers)) run ≡ found (all_of (drop i layers)) run
  made_later run is =
      sym (ap (λ l. found l run) first
      ∙ found-later layer (all_of (drop (i + 1) layers)) run (sym is))

  with_more : (more : Records)
      → all_of (drop i layers) ++ more ≡ layer ++ (all_of (drop (i + 1) layers) ++ more)
  with_more more =
      ap (λ l. l ++ more) first ∙ append_assoc layer (all_of (drop (i + 1) layers)) more

  pub run_here : (more : Records) (n : ℕ) → n < length layer
      → slice_get layer n ≡ slice_get (all_of (drop i layers) ++ more) n
  run_here more n w =
      sym (ap (λ l. slice_get l n) (with_more more)
      ∙ slice_get_front layer (all_of (drop (i + 1) layers) ++ more) n w)

  pub run_later : (more : Records) (n : ℕ) → length layer ≤ n
      → slice_get (all_of (drop (i + 1) layers) ++ more) (n - length layer)
      ≡ slice_get (all_of (drop i layers) ++ more) n
  run_later more n past =
      sym (ap (λ l. slice_get l n) (with_more more)
      ∙ slice_get_back layer (all_of (drop (i + 1) layers) ++ more) n past)

  -- the layers before it and it are the layers through it
  pub joined_next : all_of (take i layers) ++ layer ≡ all_of (take (i + 1) layers)
  joined_next =
      sym (ap all_of
      (take_more layers i layer at.within ∙ ap (λ x. take i layers ++ x ∷ []) (sym at.is))
      ∙ (all_of-append (take i layers) (layer ∷ [])
      ∙ ap (λ l. all_of (take i layers) ++ l) (append-nil layer)))

  pub distinct_next : AreDistinct (runs_of (all_of layers))
      → AreDistinct (runs_of (all_of (take i layers) ++ layer))
  distinct_next d =
      distinct-front (all_of (take i layers) ++ layer) (all_of (drop (i + 1) layers))
      (subst (λ l. AreDistinct (runs_of l))
      (all_of-split layers (i + 1) ∙ ap (λ l. l ++ all_of (drop (i + 1) layers)) (sym joined_next))
      d)

-- ---- runs one after the other

module _ (runs : Records) (i : ℕ) (f : FinishedRun) (within : i < length runs)
    (is : f ≡ get_or runs i f) (run : RunId) where
  found-first : found (drop i runs) run
      ≡ this_or (same_run f.run run) (found (drop (i + 1) runs) run) f.made
  found-first =
      ap (λ l. found l run) (drop_more runs i f within)
      ∙ ap
      (λ (g : FinishedRun). this_or (same_run g.run run) (found (drop (i + 1) runs) run) g.made)
      (sym is)

  pub run_is : same_run run f.run ≡ true → Some f.made ≡ found (drop i runs) run
  run_is h =
      sym (found-first
      ∙ ap (λ b. this_or b (found (drop (i + 1) runs) run) f.made) (run_laws.symm f.run run ∙ h))

  pub run_is_not : same_run run f.run ≡ false
      → found (drop (i + 1) runs) run ≡ found (drop i runs) run
  run_is_not h =
      sym (found-first
      ∙ ap (λ b. this_or b (found (drop (i + 1) runs) run) f.made) (run_laws.symm f.run run ∙ h))

module _ (before runs : Records) (i : ℕ) (f : FinishedRun) (within : i < length runs)
    (is : f ≡ get_or runs i f) where
  taken : take (i + 1) runs ≡ take i runs ++ f ∷ []
  taken = take_more runs i f within ∙ ap (λ g. take i runs ++ g ∷ []) (sym is)

  -- one more run, behind those before
  pub next_run : (before ++ take i runs) ++ f ∷ [] ≡ before ++ take (i + 1) runs
  next_run = append_assoc before (take i runs) (f ∷ []) ∙ ap (λ l. before ++ l) (sym taken)

  -- it is not among them
  pub next_absent : AreDistinct (runs_of (before ++ runs))
      → found (before ++ take i runs) f.run ≡ None
  next_absent d =
      absent-before (before ++ take i runs) f (drop (i + 1) runs)
      (subst (λ l. AreDistinct (runs_of l)) whole d)
    where
      whole : before ++ runs ≡ (before ++ take i runs) ++ f ∷ drop (i + 1) runs
      whole =
          ap (λ l. before ++ l)
          (sym (take-append-drop i runs)
          ∙ ap (λ l. take i runs ++ l)
          (drop_more runs i f within ∙ ap (λ g. g ∷ drop (i + 1) runs) (sym is)))
          ∙ sym (append_assoc before (take i runs) (f ∷ drop (i + 1) runs))

-- the runs are counted on
pub counted_next : (xs ys zs : Records) (f : FinishedRun) (n : ℕ) → n ≡ length (xs ++ ys)
    → zs ≡ ys ++ f ∷ [] → n + 1 ≡ length (xs ++ zs)
counted_next xs ys zs f n h is =
    omega (arith, length-append xs ys, length-append xs zs, ap length is, length-append ys (f ∷ []))
