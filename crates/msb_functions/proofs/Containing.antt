-- A part stands somewhere in a text just where the definition says so.
use Rattle.std.proofs.Common.{
  ◌≡◌,
  ℕ,
  Bool,
  true,
  false,
  ◌||◌,
  ◌⊎◌,
  inl,
  inr,
  ◌↔◌,
  List,
  [],
  ◌∷◌,
  ◌++◌,
  length,
  drop,
  nat_eq,
  ap,
  sym,
  true≢false,
  refl,
}
use Rattle.std.specs.List.{starts_with}
use Rattle.std.specs.Str.Iter.{HasSubslice}
use Rattle.std.proofs.lemmas.Slice.Eq.{starts_is}
use Rattle.std.proofs.lemmas.Bool.Decides.{Decides-eqb}
use Rattle.msb_functions.specs.Texts.{contains}

-- what the test of a front says
pub front : (text part : List ℕ) → starts_with nat_eq text part ≡ true
    → text ≡ part ++ drop (length part) text
front text part is = (starts_is Decides-eqb text part (starts_with nat_eq text part) refl).0 is

pub is_front : (text part rest : List ℕ) → text ≡ part ++ rest → starts_with nat_eq text part ≡ true
is_front text part rest is =
    (starts_is Decides-eqb text part (starts_with nat_eq text part) refl).1 rest is

either : (a b : Bool) → (a || b) ≡ true → (a ≡ true) ⊎ (b ≡ true)
either true b h = inl refl
either false b h = inr h

or_right : (a b : Bool) → b ≡ true → (a || b) ≡ true
or_right true b h = refl
or_right false b h = h

or_left : (a b : Bool) → a ≡ true → (a || b) ≡ true
or_left true b h = refl
or_left false b h = absurd (true≢false (sym h))

stands : (text part : List ℕ) → contains text part ≡ true → HasSubslice text part
stands [] part h = ([], drop (length part) [], front [] part h)
stands (b ∷ bs) part h =
    elim (either (starts_with nat_eq (b ∷ bs) part) (contains bs part) h) [
      | inl here ↦ ([], drop (length part) (b ∷ bs), front (b ∷ bs) part here)
      | inr later ↦ (let found = stands bs part later in
          (b ∷ found.0, found.1, ap (λ xs. b ∷ xs) found.2))
    ]

empty_front : (part before after : List ℕ) → [] ≡ before ++ (part ++ after) → [] ≡ part ++ after
empty_front part [] after is = is
empty_front part (x ∷ xs) after is = cc

found_at : (text part before after : List ℕ) → text ≡ before ++ (part ++ after)
    → contains text part ≡ true
found_at [] part before after is = is_front [] part after (empty_front part before after is)
found_at (b ∷ bs) part [] after is =
    or_left (starts_with nat_eq (b ∷ bs) part) (contains bs part) (is_front (b ∷ bs) part after is)
found_at (b ∷ bs) part (x ∷ xs) after is =
    or_right (starts_with nat_eq (b ∷ bs) part) (contains bs part)
    (found_at bs part xs after (let tail : bs ≡ xs ++ (part ++ after) = cc in tail))

same_truth : (r s : Bool) → (r ≡ true → s ≡ true) → (s ≡ true → r ≡ true) → r ≡ s
same_truth true s to from = sym (to refl)
same_truth false true to from = from refl
same_truth false false to from = refl

pub contains_is : (r : Bool) (text part : List ℕ) → (r ≡ true) ↔ HasSubslice text part
    → r ≡ contains text part
contains_is r text part h =
    same_truth r (contains text part)
    (λ is. let found = h.0 is in found_at text part found.0 found.1 found.2)
    (λ is. h.1 (stands text part is))
