-- How the place of an element is printed: `/` for the root, and `/1/0` for the first child of its
-- second child.
use Rattle.std.specs.Prelude.{ℕ, List, [], ◌∷◌}
use Rattle.std.specs.Fmt.{decimal}
use Rattle.std.specs.List.{flat_map}
use Rattle.msb_laws.specs.Words.{Text}

-- a child's number, after a slash
abbrev pub step_of : ℕ → Text
step_of number = 47 ∷ decimal number

abbrev pub shown_place : List ℕ → Text
shown_place [] = 47 ∷ []
shown_place (number ∷ numbers) = flat_map step_of (number ∷ numbers)
