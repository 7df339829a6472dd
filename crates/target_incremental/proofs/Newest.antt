-- Each output against the newest input tells the same as every pair.
use Rattle.std.proofs.Common.{
  ◌≡◌,
  ℕ,
  ◌<◌,
  length,
  max,
  nat_lt,
  Bool,
  true,
  false,
  ◌||◌,
  List,
  [],
  ◌∷◌,
  Option,
  Some,
  None,
  refl,
  sym,
  ap,
  ap₂,
  ◌∙◌,
  arith,
}
use Rattle.std.specs.List.{list_any}
use Rattle.std.proofs.lemmas.Bool.Decides.{nat_tests}
use Rattle.msb_files.specs.Views.{View, written, stamp}
use Rattle.target_incremental.specs.Ages.{is_missing_or_older, pair_is_old, any_is_old}
use Rattle.target_incremental.specs.Newest.{
  unless_written,
  settled_stamp,
  newest_from,
  newest_of,
  any_older,
}

missing : (stamp : Option ℕ) → is_missing_or_older stamp None ≡ true
missing None = refl
missing (Some n) = refl

-- a pair by the stamps of files that the journal has neither written nor removed
by_stamps : (input_written output_written : Bool) (input output : Option ℕ)
    → is_missing_or_older (unless_written input_written input)
    (unless_written output_written output)
    ≡ (input_written || (output_written || is_missing_or_older input output))
by_stamps true output_written input output = refl
by_stamps false true input output = missing input
by_stamps false false input output = refl

pub pair_is : (view : View) (input output : List ℕ)
    → is_missing_or_older (settled_stamp view input) (settled_stamp view output)
    ≡ pair_is_old view input output
pair_is view input output = by_stamps (written view input) (written view output) (stamp view input)
    (stamp view output)

-- the newer of two inputs
newer_by : (a b s : ℕ) → (nat_lt s b || nat_lt s a) ≡ nat_lt s (max a b)
newer_by a b s = grind (arith, nat_tests)

newer : (a b : ℕ) (output : Option ℕ)
    → (is_missing_or_older (Some b) output || is_missing_or_older (Some a) output)
    ≡ is_missing_or_older (Some (max a b)) output
newer a b None = refl
newer a b (Some s) = newer_by a b s

turned : (p r n : Bool) → ((p || r) || n) ≡ (r || (p || n))
turned true true n = refl
turned true false n = refl
turned false true n = refl
turned false false n = refl

module _ (view : View) where
  -- an output against some inputs and a stamp is out of date where it is against the newest of all
  -- these
  against_all : (newest : ℕ) (inputs : List (List ℕ)) (output : List ℕ)
      → (list_any (λ input. pair_is_old view input output) inputs
      || is_missing_or_older (Some newest) (settled_stamp view output))
      ≡ is_missing_or_older (newest_from view newest inputs) (settled_stamp view output)
  against_all newest [] output = refl
  against_all newest (input ∷ inputs) output = go (settled_stamp view input) refl
      (λ stamp. against_all (max newest stamp) inputs output)
    where
      rest : Bool
      rest = list_any (λ i. pair_is_old view i output) inputs

      older : Option ℕ → Bool
      older stamp = is_missing_or_older stamp (settled_stamp view output)

      go : (s : Option ℕ) → settled_stamp view input ≡ s
          → ((stamp : ℕ) → (rest || older (Some (max newest stamp)))
          ≡ older (newest_from view (max newest stamp) inputs))
          → ((pair_is_old view input output || rest) || older (Some newest))
          ≡ older
          (elim s [ None ↦ None | Some stamp ↦ newest_from view (max newest stamp) inputs ])
      go None is later = ap (λ t. (t || rest) || older (Some newest))
          (sym (pair_is view input output) ∙ ap older is)
      go (Some number) is later =
          ap (λ t. (t || rest) || older (Some newest))
          (sym (pair_is view input output) ∙ ap older is)
          ∙ turned (older (Some number)) rest (older (Some newest))
          ∙ ap (λ t. rest || t) (newer newest number (settled_stamp view output))
          ∙ later number

-- no test holds of none, and one that always holds of any
none_hold : {X : Type 0} (xs : List X) → list_any (λ (x : X). false) xs ≡ false
none_hold [] = refl
none_hold (x ∷ xs) = none_hold xs

same_tests : {X : Type 0} (f g : X → Bool) → ((x : X) → f x ≡ g x) → (xs : List X)
    → list_any f xs ≡ list_any g xs
same_tests f g same [] = refl
same_tests f g same (x ∷ xs) = ap₂ ◌||◌ (same x) (same_tests f g same xs)

either_holds : {X : Type 0} (f g : X → Bool) (xs : List X)
    → (list_any f xs || list_any g xs) ≡ list_any (λ x. f x || g x) xs
either_holds f g [] = refl
either_holds f g (x ∷ xs) = regrouped (f x) (list_any f xs) (g x) (list_any g xs)
    ∙ ap (λ t. (f x || g x) || t) (either_holds f g xs)
  where
    regrouped : (a b c d : Bool) → ((a || b) || (c || d)) ≡ ((a || c) || (b || d))
    regrouped true b c d = refl
    regrouped false true true d = refl
    regrouped false true false d = refl
    regrouped false false true d = refl
    regrouped false false false d = refl

none_below : (n : ℕ) → nat_lt n 0 ≡ false
none_below n = grind (arith, nat_tests)

-- some input and some output, or some output and some input
turned_round : {X Y : Type 0} (f : X → Y → Bool) (xs : List X) (ys : List Y)
    → list_any (λ x. list_any (f x) ys) xs ≡ list_any (λ y. list_any (λ x. f x y) xs) ys
turned_round f [] ys = sym (none_hold ys)
turned_round f (x ∷ xs) ys = ap (λ t. list_any (f x) ys || t) (turned_round f xs ys)
    ∙ either_holds (f x) (λ y. list_any (λ z. f z y) xs) ys

module _ (view : View) where
  -- of some inputs the newest tells all: an output that is missing is out of date, and no stamp is
  -- below 0
  by_newest : (input : List ℕ) (inputs : List (List ℕ)) (output : List ℕ)
      → is_missing_or_older (newest_of view (input ∷ inputs)) (settled_stamp view output)
      ≡ list_any (λ i. pair_is_old view i output) (input ∷ inputs)
  by_newest input inputs output =
      sym (against_all view 0 (input ∷ inputs) output)
      ∙ go (settled_stamp view output) (list_any (λ i. pair_is_old view i output) inputs)
      (pair_is view input output)
    where
      go : (o : Option ℕ) (rest : Bool) → is_missing_or_older (settled_stamp view input) o
          ≡ pair_is_old view input output
          → ((pair_is_old view input output || rest) || is_missing_or_older (Some 0) o)
          ≡ (pair_is_old view input output || rest)
      go None rest is = ap (λ t. (t || rest) || true) old ∙ ap (λ t. t || rest) (sym old)
        where
          old : pair_is_old view input output ≡ true
          old = sym is ∙ missing (settled_stamp view input)
      go (Some number) rest is = ap (λ t. (pair_is_old view input output || rest) || t)
          (none_below number) ∙ dropped (pair_is_old view input output) rest
        where
          dropped : (a b : Bool) → ((a || b) || false) ≡ (a || b)
          dropped true b = refl
          dropped false true = refl
          dropped false false = refl

  pub any_is : (input : List ℕ) (inputs outputs : List (List ℕ))
      → any_older view (newest_of view (input ∷ inputs)) outputs
      ≡ any_is_old view (input ∷ inputs) outputs
  any_is input inputs outputs =
      same_tests (λ o. is_missing_or_older (newest_of view (input ∷ inputs)) (settled_stamp view o))
      (λ o. list_any (λ i. pair_is_old view i o) (input ∷ inputs)) (by_newest input inputs)
      outputs
      ∙ sym (turned_round (pair_is_old view) (input ∷ inputs) outputs)

pub all_pairs : (view : View) (inputs outputs : List (List ℕ)) → 0 < length inputs
    → any_older view (newest_of view inputs) outputs ≡ any_is_old view inputs outputs
all_pairs view [] outputs some = absurd (omega arith)
all_pairs view (input ∷ inputs) outputs some = any_is view input inputs outputs
