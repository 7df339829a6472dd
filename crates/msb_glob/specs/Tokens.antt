-- How the tokens of a pattern stand along a list, by cases.
use Rattle.std.specs.Prelude.{Bool, true, false, ◌||◌, ◌&&◌, List, [], ◌∷◌, if◌then◌else◌}

-- a gap stands for any number of entries, none included; every other token for one that passes its
-- test
pub data Token (X : Type 0) : Type 0 where
  gap : Token X
  one : (X → Bool) → Token X

-- the test holds of what is left behind some number of entries
abbrev pub some_tail : {X : Type 0} → (List X → Bool) → List X → Bool
some_tail holds [] = holds []
some_tail holds (x ∷ xs) = holds (x ∷ xs) || some_tail holds xs

-- the tokens stand for the whole list
abbrev pub fits : {X : Type 0} → List (Token X) → List X → Bool
fits [] [] = true
fits [] (x ∷ xs) = false
fits (gap ∷ tokens) xs = some_tail (fits tokens) xs
fits (one passes ∷ tokens) [] = false
fits (one passes ∷ tokens) (x ∷ xs) = passes x && fits tokens xs

-- the entries ahead of the first tail of which the test holds
abbrev pub ahead_of : {X : Type 0} → (List X → Bool) → List X → List X
ahead_of holds [] = []
ahead_of holds (x ∷ xs) = if holds (x ∷ xs) then [] else x ∷ ahead_of holds xs

-- what the first gap stands for, where it takes as few entries as it can
abbrev pub first_gap : {X : Type 0} → List (Token X) → List X → List X
first_gap [] xs = []
first_gap (gap ∷ tokens) xs = ahead_of (fits tokens) xs
first_gap (one passes ∷ tokens) [] = []
first_gap (one passes ∷ tokens) (x ∷ xs) = first_gap tokens xs

-- the token stands for just this entry
abbrev pub passes : {X : Type 0} → Token X → X → Bool
passes gap x = false
passes (one test) x = test x
