-- Where the first target of a name stands, after one more target.
use Rattle.std.proofs.Common.{
  ◌≡◌,
  ℕ,
  ◌+◌,
  ◌<◌,
  suc,
  List,
  [],
  ◌∷◌,
  ◌++◌,
  map,
  length,
  take,
  get_or,
  Bool,
  true,
  false,
  Option,
  Some,
  None,
  is_some,
  option_map,
  cond,
  if◌then◌else◌,
  refl,
  ap,
  ◌∙◌,
  sym,
  add-one,
}
use Rattle.std.specs.List.{find}
use Rattle.std.specs.Option.{option_or, option_and_then}
use Rattle.std.specs.Prelude.{slice_get}
use Rattle.std.specs.Str.{bytes_eq}
use Rattle.std.proofs.Math.Nat.{le_of_lt}
use Rattle.std.proofs.Math.Seq.{take-suc}
use Rattle.std.proofs.lemmas.List.{length-take-le}
use Rattle.build_world.specs.declared.instance.UsedTarget.{UsedTarget}
use Rattle.build_world.specs.Places.{place_of}

pub none_there : (found : Option ℕ) → is_some found ≡ false → found ≡ None
none_there None not = refl
none_there (Some place) not = cc

-- an earlier place counts where there is one
pub earlier_counts : (same : Bool) (old new : Option ℕ) (place : ℕ) → (same ≡ true → old ≡ None)
    → new ≡ cond same (Some place) old → new ≡ option_or old (cond same (Some place) None)
earlier_counts true old new place free is = is
    ∙ sym (ap (λ o. option_or o (Some place)) (free refl))
earlier_counts false None new place free is = is
earlier_counts false (Some earlier) new place free is = is

one_more_at : (name : List ℕ) (ts : List UsedTarget) (t : UsedTarget)
    → place_of name (ts ++ t ∷ []) ≡ option_or (place_of name ts)
    (cond (bytes_eq t.name name) (Some (length ts)) None)
one_more_at name [] t = one (bytes_eq t.name name)
  where
    one : (same : Bool) → cond same (Some 0) (option_map suc None)
        ≡ option_or None (cond same (Some 0) None)
    one true = refl
    one false = refl
one_more_at name (x ∷ ts) t = step (bytes_eq x.name name) (bytes_eq t.name name) (place_of name ts)
    (place_of name (ts ++ t ∷ [])) (one_more_at name ts t)
  where
    step : (first last : Bool) (old new : Option ℕ)
        → new ≡ option_or old (cond last (Some (length ts)) None)
        → cond first (Some 0) (option_map suc new)
        ≡ option_or (cond first (Some 0) (option_map suc old))
        (cond last (Some (suc (length ts))) None)
    step true last old new is = refl
    step false last (Some place) new is = ap (option_map suc) is
    step false true None new is = ap (option_map suc) is
    step false false None new is = ap (option_map suc) is

pub one_more_place : (name : List ℕ) (ts : List UsedTarget) (i : ℕ) (t : UsedTarget) → i < length ts
    → t ≡ get_or ts i t
    → option_or (place_of name (take i ts)) (cond (bytes_eq t.name name) (Some i) None)
    ≡ place_of name (take (i + 1) ts)
one_more_place name ts i t within is =
    ap (λ at. option_or (place_of name (take i ts)) (cond (bytes_eq t.name name) (Some at) None))
    (sym (length-take-le i ts (le_of_lt within)))
    ∙ sym (one_more_at name (take i ts) t)
    ∙ ap (λ last. place_of name (take i ts ++ last ∷ [])) is
    ∙ ap (place_of name) (sym (take-suc ts i t within))
    ∙ rw add-one refl

pub found_there : (name : List ℕ) (ts : List UsedTarget)
    → option_and_then (slice_get ts) (place_of name ts) ≡ find (λ t. bytes_eq t.name name) ts
found_there name [] = refl
found_there name (x ∷ ts) = step (bytes_eq x.name name) (place_of name ts) (found_there name ts)
  where
    step : (first : Bool) (place : Option ℕ) → option_and_then (slice_get ts) place
        ≡ find (λ t. bytes_eq t.name name) ts
        → option_and_then (slice_get (x ∷ ts)) (cond first (Some 0) (option_map suc place))
        ≡ cond first (Some x) (find (λ t. bytes_eq t.name name) ts)
    step true place is = refl
    step false (Some place) is = is
    step false None is = is

chosen : {A B : Type 0} (f : A → B) (b : Bool) (x : A) (rest : Option A) (seen : Option B)
    → option_map f rest ≡ seen
    → option_map f (if b then Some x else rest) ≡ (if b then Some (f x) else seen)
chosen f true x rest seen same = refl
chosen f false x rest seen same = same

-- what is found among what is seen is seen of what is found
pub find_seen : {A B : Type 0} (f : A → B) (p : B → Bool) (xs : List A)
    → option_map f (find (λ x. p (f x)) xs) ≡ find p (map f xs)
find_seen f p [] = refl
find_seen f p (x ∷ xs) = chosen f (p (f x)) x (find (λ y. p (f y)) xs) (find p (map f xs))
    (find_seen f p xs)
