-- The runs that have ended in a journal, counted from the first entry on.
use Rattle.std.proofs.Common.{
  ◌≡◌,
  ◌≤◌,
  ℕ,
  ◌<◌,
  ◌+◌,
  List,
  reverse,
  take,
  length,
  get_or,
  Bool,
  true,
  false,
  cond,
  Some,
  ap,
  sym,
  ◌∙◌,
  arith,
}
use Rattle.std.specs.List.{count_by, slice_get}
use Rattle.std.proofs.lemmas.List.{length-reverse, take_all}
use Rattle.std.proofs.lemmas.List.Sorted.{IsPermutation-reverse, sum_by-IsPermutation}
use Rattle.std.proofs.lemmas.List.Sums.{count_by_more_no, count_by_more_yes}
use Rattle.std.proofs.lemmas.Option.{get_or_from_slice_get}

module _ {X : Type 0} (p : X → Bool) where
  -- all are counted, whichever comes first
  pub count_all : (xs : List X) (i : ℕ) → length xs ≤ i →
      count_by p (take i (reverse xs)) ≡ count_by p xs
  count_all xs i h =
      let long : length (reverse xs) ≤ i = simp length-reverse h in
      ap (count_by p) (take_all i (reverse xs) long) ∙ sum_by-IsPermutation (λ x. cond (p x) 1 0) xs
      (reverse xs) (IsPermutation-reverse xs)

  module _ (xs : List X) (i n : ℕ) (x : X) (so_far : n ≡ count_by p (take i xs)) (h : i < length xs)
      (is : slice_get xs i ≡ Some x) where
    -- one more that is counted, or one that isn't
    pub one_more : p x ≡ true → n + 1 ≡ count_by p (take (i + 1) xs)
    one_more counts =
        ap (λ m. m + 1) so_far
        ∙ sym (count_by_more_yes p xs i x h (ap p (get_or_from_slice_get xs i x x is) ∙ counts))

    pub no_more : p x ≡ false → n ≡ count_by p (take (i + 1) xs)
    no_more fails =
        so_far
        ∙ sym (count_by_more_no p xs i x h (ap p (get_or_from_slice_get xs i x x is) ∙ fails))
