-- Lists are joined, up to the first fault.
use Rattle.std.proofs.Common.{
  ◌≡◌,
  ℕ,
  suc,
  ◌+◌,
  ◌<◌,
  ◌≤◌,
  List,
  [],
  ◌∷◌,
  ◌++◌,
  length,
  drop,
  get_or,
  Result,
  Ok,
  Err,
  refl,
  sym,
  ap,
  ◌∙◌,
  append_assoc,
  append-nil,
  add-one,
  drop-cons,
  arith,
}
use Rattle.std.specs.List.{flat_map}
use Rattle.std.proofs.lemmas.Grind.{common_steps}
use Rattle.msb_laws.specs.Results.{and_then, map_ok, all_ok}

past : {X : Type 0} (xs : List X) (i : ℕ) → length xs ≤ i → drop i xs ≡ []
past xs i h = grind (arith, common_steps)

abbrev Names : Type 0
Names = List (List ℕ)

-- all names of the lists, or the first fault
abbrev pub joined_of : {X E : Type 0} → (X → Result Names E) → List X → Result Names E
joined_of of xs = map_ok (flat_map (λ names. names)) (all_ok of xs)

-- these names, and then those of more lists
abbrev behind : {E : Type 0} → Names → Result (List Names) E → Result Names E
behind front rest = map_ok (λ lists. front ++ flat_map (λ names. names) lists) rest

module _ {X E : Type 0} (of : X → Result Names E) where
  -- so far these names were read
  pub record AreRead (xs : List X) (i : ℕ) (front : Names) : Type 0 where
    pub is : joined_of of xs ≡ behind front (all_ok of (drop i xs))

  nothing_behind : (r : Result (List Names) E) → map_ok (flat_map (λ names. names)) r ≡ behind [] r
  nothing_behind (Ok lists) = refl
  nothing_behind (Err fault) = refl

  pub read_first : (xs : List X) → AreRead xs 0 []
  read_first xs = record { is = nothing_behind (all_ok of xs) }

  one_behind : (front more : Names) (r : Result (List Names) E)
      → behind front (map_ok (λ lists. more ∷ lists) r) ≡ behind (front ++ more) r
  one_behind front more (Ok lists) = ap Ok
      (sym (append_assoc front more (flat_map (λ names. names) lists)))
  one_behind front more (Err fault) = refl

  module _ (xs : List X) (i : ℕ) (front : Names) (now : AreRead xs i front) (x : X)
      (h : i < length xs) (at : x ≡ get_or xs i x) where
    next : joined_of of xs
        ≡ behind front
        (and_then (of x) (λ names. map_ok (λ lists. names ∷ lists) (all_ok of (drop (suc i) xs))))
    next = now.is ∙ rw (drop-cons xs i x, ← at) refl

    pub read_more : (more : Names) → of x ≡ Ok more → AreRead xs (i + 1) (front ++ more)
    read_more more is = record
        { is = rw add-one (next ∙ rw is (one_behind front more (all_ok of (drop (suc i) xs)))) }

    pub read_fault : (fault : E) → of x ≡ Err fault → joined_of of xs ≡ Err fault
    read_fault fault is = next ∙ rw is refl

  pub read_all : (xs : List X) (i : ℕ) (front : Names) → AreRead xs i front → length xs ≤ i
      → joined_of of xs ≡ Ok front
  read_all xs i front now h = now.is ∙ rw (past xs i h) (ap Ok (append-nil front))
