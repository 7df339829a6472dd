-- A loop that collects the answers of a function that may fail.
use Rattle.std.proofs.Common.{
  ◌≡◌,
  ℕ,
  ◌+◌,
  ◌<◌,
  ◌≤◌,
  List,
  [],
  ◌∷◌,
  ◌++◌,
  length,
  drop,
  get_or,
  Option,
  Some,
  None,
  option_map,
  refl,
  sym,
  ap,
  ◌∙◌,
  append_assoc,
  append-nil,
  add-one,
  drop-cons,
  arith,
}
use Rattle.std.proofs.lemmas.Grind.{common_steps}
use Rattle.msb_laws.specs.Traverse.{traverse}

longer : {X : Type 0} (front : List X) (x : X) (o : Option (List X))
    → option_map (λ xs. front ++ xs) (option_map (λ xs. x ∷ xs) o)
    ≡ option_map (λ xs. (front ++ x ∷ []) ++ xs) o
longer front x None = refl
longer front x (Some xs) = ap Some (sym (append_assoc front (x ∷ []) xs))

-- So far the loop has `front`, and `all` is the answer of the whole list.
pub record IsFront {A B : Type 0} (f : A → Option B) (xs : List A) (i : ℕ) (front : List B)
    (all : Option (List B)) : Type 0 where
  pub is : all ≡ option_map (λ ys. front ++ ys) (traverse f (drop i xs))

pub front_stop : {A B : Type 0} (f : A → Option B) (xs : List A) (i : ℕ) (x : A) (front : List B)
    (all : Option (List B)) → IsFront f xs i front all → i < length xs → x ≡ get_or xs i x
    → f x ≡ None → all ≡ None
front_stop f xs i x front all inv h is none = inv.is ∙ rw (drop-cons xs i x, ← is, none) refl

pub front_step : {A B : Type 0} (f : A → Option B) (xs : List A) (i : ℕ) (x : A) (y : B)
    (front : List B) (all : Option (List B)) → IsFront f xs i front all → i < length xs
    → x ≡ get_or xs i x → f x ≡ Some y → IsFront f xs (i + 1) (front ++ y ∷ []) all
front_step f xs i x y front all inv h is some = record
    { is = inv.is ∙ rw (add-one, drop-cons xs i x, ← is, some) (longer front y _) }

past : {X : Type 0} (xs : List X) (i : ℕ) → length xs ≤ i → drop i xs ≡ []
past xs i h = grind (arith, common_steps)

pub front_end : {A B : Type 0} (f : A → Option B) (xs : List A) (i : ℕ) (front : List B)
    (all : Option (List B)) → IsFront f xs i front all → length xs ≤ i → all ≡ Some front
front_end f xs i front all inv h = inv.is ∙ rw (past xs i h) (ap Some (append-nil front))
