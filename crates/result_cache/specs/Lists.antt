-- What is in a list, and which of two answers counts.
use Rattle.std.specs.Prelude.{◌≡◌, ◌⊎◌, Bool, true, false, List, [], ◌∷◌, Option, Some}

-- a is one of these
abbrev pub In : {X : Type 0} → X → List X → Type 0
In a [] = ⊥
In a (x ∷ xs) = (x ≡ a) ⊎ In a xs

-- this answer where the test holds, else that of an older entry
abbrev pub this_or : {X : Type 0} → Bool → Option X → X → Option X
this_or true older this = Some this
this_or false older this = older
