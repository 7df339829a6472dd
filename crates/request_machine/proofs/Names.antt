-- Names that are taken once, one after another.
use Rattle.std.proofs.Common.{
  ◌≡◌,
  ℕ,
  suc,
  ◌+◌,
  ◌<◌,
  ◌≤◌,
  List,
  [],
  ◌∷◌,
  ◌++◌,
  length,
  take,
  drop,
  filter,
  get_or,
  Bool,
  true,
  false,
  not,
  ◌||◌,
  cond,
  refl,
  sym,
  ap,
  ◌∙◌,
  append_assoc,
  append-nil,
  add-one,
  drop-cons,
  arith,
}
use Rattle.std.specs.List.{flat_map, list_any}
use Rattle.std.specs.Str.{bytes_eq}
use Rattle.std.proofs.Math.Seq.{take-suc}
use Rattle.std.proofs.Math.Bool.{or-false}
use Rattle.std.proofs.lemmas.Grind.{common_steps}
use Rattle.std.proofs.lemmas.List.Folds.{list_any-append}
use Rattle.result_cache.specs.declared.request.Returned.{Returned}
use Rattle.request_machine.specs.Requests.{once, returned_of}
use Rattle.request_machine.specs.Each.{returned_unless}

abbrev Names : Type 0
Names = List (List ℕ)

-- names without those that came before
abbrev less : Names → Names → Names
less ahead names = filter (λ name. not (list_any (bytes_eq name) ahead)) names

nothing_ahead : (names : Names) → less [] names ≡ names
nothing_ahead [] = refl
nothing_ahead (name ∷ names) = ap (λ ns. name ∷ ns) (nothing_ahead names)

kept_twice : (a b : Bool) (name : List ℕ) (names more : Names) → names ≡ more
    → cond (not b) (cond (not a) (name ∷ names) names) names
    ≡ cond (not (a || b)) (name ∷ more) more
kept_twice true true name names more e = e
kept_twice true false name names more e = e
kept_twice false true name names more e = e
kept_twice false false name names more e = ap (λ ns. name ∷ ns) e

less_if : (ahead : Names) (b : Bool) (name : List ℕ) (names : Names)
    → less ahead (cond b (name ∷ names) names)
    ≡ cond b
    (cond (not (list_any (bytes_eq name) ahead)) (name ∷ less ahead names) (less ahead names))
    (less ahead names)
less_if ahead true name names = refl
less_if ahead false name names = refl

among_more : (ahead : Names) (first name : List ℕ)
    → list_any (bytes_eq name) (ahead ++ first ∷ [])
    ≡ list_any (bytes_eq name) ahead || bytes_eq name first
among_more ahead first name = list_any-append (bytes_eq name) ahead (first ∷ [])
    ∙ ap (λ b. list_any (bytes_eq name) ahead || b) (or-false (bytes_eq name first))

-- without one name more
less_more : (ahead : Names) (first : List ℕ) (names : Names)
    → less ahead (filter (λ other. not (bytes_eq other first)) names)
    ≡ less (ahead ++ first ∷ []) names
less_more ahead first [] = refl
less_more ahead first (name ∷ names) =
    less_if ahead (not (bytes_eq name first)) name
    (filter (λ other. not (bytes_eq other first)) names)
    ∙ (kept_twice (list_any (bytes_eq name) ahead) (bytes_eq name first) name
    (less ahead (filter (λ other. not (bytes_eq other first)) names))
    (less (ahead ++ first ∷ []) names) (less_more ahead first names)
    ∙ ap
    (λ b. cond (not b) (name ∷ less (ahead ++ first ∷ []) names)
    (less (ahead ++ first ∷ []) names)) (sym (among_more ahead first name)))

past : {X : Type 0} (xs : List X) (i : ℕ) → length xs ≤ i → drop i xs ≡ []
past xs i h = grind (arith, common_steps)

module _ (returned : List Returned) where
  abbrev of : Names → List Returned
  of names = flat_map (returned_of returned) names

  -- so far this was returned
  pub record AreTaken (names : Names) (i : ℕ) (by : List Returned) : Type 0 where
    pub is : by ++ of (less (take i names) (once (drop i names))) ≡ of (once names)

  pub taken_first : (names : Names) → AreTaken names 0 []
  taken_first names = record { is = ap of (nothing_ahead (once names)) }

  first_by : (b : Bool) (first : List ℕ) (names : Names)
      → of (cond (not b) (first ∷ names) names) ≡ returned_unless b returned first ++ of names
  first_by true first names = refl
  first_by false first names = refl

  one_more : (ahead : Names) (first : List ℕ) (names : Names)
      → of (less ahead (once (first ∷ names)))
      ≡ returned_unless (list_any (bytes_eq first) ahead) returned first
      ++ of (less (ahead ++ first ∷ []) (once names))
  one_more ahead first names =
      first_by (list_any (bytes_eq first) ahead) first
      (less ahead (filter (λ other. not (bytes_eq other first)) (once names)))
      ∙ ap (λ ns. returned_unless (list_any (bytes_eq first) ahead) returned first ++ of ns)
      (less_more ahead first (once names))

  pub taken_more : (names : Names) (i : ℕ) (by : List Returned) (name : List ℕ)
      → AreTaken names i by → i < length names → name ≡ get_or names i name
      → AreTaken names (i + 1)
      (by ++ returned_unless (list_any (bytes_eq name) (take i names)) returned name)
  taken_more names i by name now h at = record {
    is = rw (add-one, take-suc names i name h, ← at)
        (append_assoc by (returned_unless (list_any (bytes_eq name) (take i names)) returned name)
        (of (less (take i names ++ name ∷ []) (once (drop (suc i) names))))
        ∙ (ap (λ rs. by ++ rs) (sym (one_more (take i names) name (drop (suc i) names)))
        ∙ (ap (λ ns. by ++ of (less (take i names) (once ns))) (sym (rest_is names i name h at))
        ∙ now.is)));
  }
    where
      rest_is : (names : Names) (i : ℕ) (name : List ℕ) → i < length names
          → name ≡ get_or names i name → drop i names ≡ name ∷ drop (suc i) names
      rest_is names i name h at = rw (drop-cons names i name, ← at) refl

  pub taken_all : (names : Names) (i : ℕ) (by : List Returned) → AreTaken names i by
      → length names ≤ i → by ≡ of (once names)
  taken_all names i by now h = sym (append-nil by)
      ∙ (ap (λ ns. by ++ of (less (take i names) (once ns))) (sym (past names i h)) ∙ now.is)
