-- Sets of numbers as lists that rise.
use Rattle.std.specs.Prelude.{
  ℕ,
  suc,
  length,
  not,
  ◌&&◌,
  ◌<◌,
  ◌≤◌,
  ◌≡◌,
  ◌==◌,
  Bool,
  true,
  false,
  List,
  [],
  ◌∷◌,
  Option,
  None,
  Some,
}
use Rattle.std.specs.List.{list_any}

-- the number is one of these
abbrev pub among : ℕ → List ℕ → Bool
among n numbers = list_any (λ m. m == n) numbers

-- each number is above this one
abbrev pub AreAbove : ℕ → List ℕ → Type 0
AreAbove n [] = Unit {0}
AreAbove n (m ∷ numbers) = (n < m) × AreAbove n numbers

-- each number is below those behind it
abbrev pub AreRising : List ℕ → Type 0
AreRising [] = Unit {0}
AreRising (n ∷ numbers) = AreAbove n numbers × AreRising numbers

-- it is the least of the numbers, or there is none
abbrev pub IsLeast : List ℕ → Option ℕ → Type 0
IsLeast numbers None = (n : ℕ) → among n numbers ≡ false
IsLeast numbers (Some least) = (among least numbers ≡ true)
    × ((n : ℕ) → among n numbers ≡ true → least ≤ n)

-- a number is taken from the set, or it is empty
abbrev pub IsPopped : List ℕ → List ℕ → Option ℕ → Type 0
IsPopped old new None = (old ≡ []) × (new ≡ [])
IsPopped old new (Some n) = (length old ≡ suc (length new)) × (among n old ≡ true)
    × ((m : ℕ) → among m new ≡ (not (n == m) && among m old))

-- a set of numbers, and for how many more it has room
pub record Numbered : Type 0 where
  pub numbers : List ℕ
  pub room : ℕ
