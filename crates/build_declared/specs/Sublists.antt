-- Parts of a list.
use Rattle.std.specs.Prelude.{◌≡◌, Bool, true, false, not, List, [], ◌∷◌, length}
use Rattle.std.specs.List.{list_any}

-- those of a list that are marked
abbrev pub kept_if : {X : Type 0} → Bool → X → List X → List X
kept_if true x xs = x ∷ xs
kept_if false x xs = xs

abbrev pub kept : {X : Type 0} → List Bool → List X → List X
kept (mark ∷ marks) (x ∷ xs) = kept_if mark x (kept marks xs)
kept marks xs = []

-- one mark for each of a list, of which some are true and some are false
pub record ArePart {X : Type 0} (marks : List Bool) (xs : List X) : Type 0 where
  pub each : length marks ≡ length xs
  pub some : list_any (λ mark. mark) marks ≡ true
  pub not_all : list_any not marks ≡ true
