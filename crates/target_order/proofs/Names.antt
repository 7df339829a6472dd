-- Names by their numbers.
use Rattle.std.proofs.Common.{
  ◌≡◌,
  ℕ,
  suc,
  ◌<◌,
  Bool,
  true,
  false,
  cond,
  List,
  [],
  ◌∷◌,
  ◌++◌,
  length,
  get_or,
  Option,
  None,
  Some,
  option_map,
  refl,
  sym,
  ap,
  ◌∙◌,
  arith,
}
use Rattle.std.specs.Str.{bytes_eq}
use Rattle.std.specs.Option.{IfSome, option_or}
use Rattle.std.specs.Ordering.{nat_cmp, is_eq}
use Rattle.std.specs.Cmp.Lexicographic.{slice_cmp}
use Rattle.std.specs.BTreeMap.{BTreeMap, get}
use Rattle.std.proofs.lemmas.Slice.Eq.{bytes_eq-Decides}
use Rattle.std.proofs.lemmas.Map.Text.{is_eq-slice_cmp}
use Rattle.msb_laws.specs.Words.{Name}
use Rattle.target_order.specs.Progress.{number_of}
use Rattle.target_order.specs.Numbered.{IsNumbered}

pub same_name : (a b : Name) → bytes_eq a b ≡ true → a ≡ b
same_name a b e = (bytes_eq-Decides a b).0 e

pub own_name : (a : Name) → bytes_eq a a ≡ true
own_name a = (bytes_eq-Decides a a).1 refl

below_cases : (b : Bool) (o : Option ℕ) (k n : ℕ) → ((j : ℕ) → o ≡ Some j → j < n)
    → cond b (Some 0) (option_map suc o) ≡ Some k → k < suc n
below_cases true o k n below e = let z : 0 ≡ k = cc in omega arith
below_cases false None k n below e = absurd (cc)
below_cases false (Some j) k n below e = let s : suc j
    ≡ k = cc in let h = below j refl in omega arith

pub number_below : (names : List Name) (t : Name) (k : ℕ) → number_of names t ≡ Some k
    → k < length names
number_below [] t k e = absurd (cc)
number_below (n ∷ names) t k e = below_cases (bytes_eq n t) (number_of names t) k (length names)
    (λ j h. number_below names t j h) e

pub number_within : (names : List Name) (t : Name) (o : Option ℕ) → o ≡ number_of names t
    → IfSome o (λ k. k < length names)
number_within names t None e = tt
number_within names t (Some k) e = number_below names t k (sym e)

name_cases : (b : Bool) (o : Option ℕ) (n t : Name) (names : List Name) (k : ℕ) → (b ≡ true → n ≡ t)
    → ((j : ℕ) → o ≡ Some j → get_or names j [] ≡ t) → cond b (Some 0) (option_map suc o) ≡ Some k
    → get_or (n ∷ names) k [] ≡ t
name_cases true o n t names k same rest e = let z : k ≡ 0 = cc in rw z (same refl)
name_cases false None n t names k same rest e = absurd (cc)
name_cases false (Some j) n t names k same rest e = let s : k ≡ suc j = cc in rw s (rest j refl)

-- the number of a name leads back to it
pub number_name : (names : List Name) (t : Name) (k : ℕ) → number_of names t ≡ Some k
    → get_or names k [] ≡ t
number_name [] t k e = absurd (cc)
number_name (n ∷ names) t k e = name_cases (bytes_eq n t) (number_of names t) n t names k
    (same_name n t) (λ j h. number_name names t j h) e

push_step : (b c : Bool) (o : Option ℕ) (k : ℕ)
    → cond c (Some 0) (option_map suc (option_or o (cond b (Some k) None)))
    ≡ option_or (cond c (Some 0) (option_map suc o)) (cond b (Some (suc k)) None)
push_step b true o k = refl
push_step b false (Some j) k = refl
push_step true false None k = refl
push_step false false None k = refl

push_all : (names : List Name) (n t : Name) → number_of (names ++ n ∷ []) t
    ≡ option_or (number_of names t) (cond (bytes_eq n t) (Some (length names)) None)
push_all [] n t = elim (bytes_eq n t) as (λ b. cond b (Some 0) (option_map suc None)
    ≡ option_or None (cond b (Some 0) None)) [ true ↦ refl | false ↦ refl ]
push_all (m ∷ names) n t = rw (push_all names n t)
    (push_step (bytes_eq n t) (bytes_eq m t) (number_of names t) (length names))

push_end : (b : Bool) (o : Option ℕ) (k : ℕ) → (b ≡ true → o ≡ None)
    → option_or o (cond b (Some k) None) ≡ cond b (Some k) o
push_end true o k none = rw (none refl) refl
push_end false None k none = refl
push_end false (Some j) k none = refl

-- one more name
pub number_push : (names : List Name) (n t : Name) → number_of names n ≡ None
    → number_of (names ++ n ∷ []) t ≡ cond (bytes_eq n t) (Some (length names)) (number_of names t)
number_push names n t none =
    push_all names n t ∙ push_end (bytes_eq n t) (number_of names t) (length names)
    (λ e. ap (number_of names) (sym (same_name n t e)) ∙ none)

pub numbered_push : (names : List Name) (n : Name) (m m' : BTreeMap (List ℕ) ℕ) → IsNumbered names m
    → number_of names n ≡ None
    → ((q : Name) → get (slice_cmp nat_cmp) m' q
    ≡ cond (is_eq (slice_cmp nat_cmp n q)) (Some (length names)) (get (slice_cmp nat_cmp) m q))
    → IsNumbered (names ++ n ∷ []) m'
numbered_push names n m m' before none updates = record {
  finds = λ t. updates t
      ∙ (ap (λ b. cond b (Some (length names)) (get (slice_cmp nat_cmp) m t)) (is_eq-slice_cmp n t)
      ∙ (ap (λ o. cond (bytes_eq n t) (Some (length names)) o) (before.finds t)
      ∙ sym (number_push names n t none)));
}
