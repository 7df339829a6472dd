-- Each of some things once, as they are met one after another.
use Rattle.std.proofs.Common.{
  ◌≡◌,
  Bool,
  true,
  false,
  not,
  ◌||◌,
  List,
  [],
  ◌∷◌,
  ◌++◌,
  filter,
  refl,
  sym,
  ap,
  ap₂,
  ◌∙◌,
  append_assoc,
  if◌then◌else◌,
  cond,
  true≢false,
}
use Rattle.std.specs.List.{list_any}
use Rattle.std.proofs.lemmas.List.Elements.{filter-append}
use Rattle.std.proofs.lemmas.List.{append-nil}
use Rattle.indexmap.specs.IndexSet.{insert_key, insert_all}
use Rattle.msb_batching.specs.Distinct.{distinct}

-- what is the same as the same is the same
abbrev pub Transitive : {X : Type 0} → (X → X → Bool) → Type 0
Transitive {X} same = (a b c : X) → same a b ≡ true → same b c ≡ true → same a c ≡ true

module _ {X : Type 0} (same : X → X → Bool) (law : Transitive same) where
  abbrev others : X → List X → List X
  others x ks = filter (λ z. not (same z x)) ks

  -- a y that is not the same as x is among those that are not either, or nowhere
  any_step : (y x z : X) (ks : List X) → same y x ≡ false
      → list_any (same y) (others x ks) ≡ list_any (same y) ks → (b : Bool) → same z x ≡ b
      → (e : Bool) → same y z ≡ e
      → list_any (same y) (cond (not b) (z ∷ others x ks) (others x ks)) ≡ e || list_any (same y) ks
  any_step y x z ks other rest true b true e = absurd (true≢false (sym (law y z x e b) ∙ other))
  any_step y x z ks other rest true b false e = rest
  any_step y x z ks other rest false b e at = ap₂ ◌||◌ at rest

  any_other : (y x : X) (ks : List X) → same y x ≡ false
      → list_any (same y) (others x ks) ≡ list_any (same y) ks
  any_other y x [] other = refl
  any_other y x (z ∷ ks) other = any_step y x z ks other (any_other y x ks other) (same z x) refl
      (same y z) refl

  -- the next is put behind the others where none of them is the same
  push_step : (x y : X) (ks : List X) (e : Bool) → same y x ≡ e → (b : Bool)
      → list_any (same y) ks ≡ b
      → x ∷ others x (if b then ks else ks ++ y ∷ [])
      ≡ (if e || list_any (same y) (others x ks) then x ∷ others x ks else (x ∷ others x ks)
      ++ y ∷ [])
  push_step x y ks true e true b = refl
  push_step x y ks true e false b =
      ap (λ l. x ∷ l) (filter-append (λ z. not (same z x)) ks (y ∷ [])
      ∙ ap (λ t. others x ks ++ cond (not t) (y ∷ []) []) e ∙ append-nil (others x ks))
  push_step x y ks false e true b = sym
      (ap (λ t. if t then x ∷ others x ks else (x ∷ others x ks) ++ y ∷ [])
      (any_other y x ks e ∙ b))
  push_step x y ks false e false b =
      ap (λ l. x ∷ l) (filter-append (λ z. not (same z x)) ks (y ∷ [])
      ∙ ap (λ t. others x ks ++ cond (not t) (y ∷ []) []) e)
      ∙ sym
      (ap (λ t. if t then x ∷ others x ks else (x ∷ others x ks) ++ y ∷ [])
      (any_other y x ks e ∙ b))

  distinct-push : (xs : List X) (y : X) → distinct same (xs ++ y ∷ [])
      ≡ insert_key same (distinct same xs) y
  distinct-push [] y = refl
  distinct-push (x ∷ xs) y =
      ap (λ l. x ∷ others x l) (distinct-push xs y)
      ∙ push_step x y (distinct same xs) (same y x) refl (list_any (same y) (distinct same xs))
      refl

  pub insert_all-distinct : (xs ys : List X) → insert_all same (distinct same xs) ys
      ≡ distinct same (xs ++ ys)
  insert_all-distinct xs [] = ap (distinct same) (sym (append-nil xs))
  insert_all-distinct xs (y ∷ ys) =
      ap (λ ks. insert_all same ks ys) (sym (distinct-push xs y))
      ∙ insert_all-distinct (xs ++ y ∷ []) ys ∙ ap (distinct same) (append_assoc xs (y ∷ []) ys)
