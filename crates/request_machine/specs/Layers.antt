-- A list in layers.
-- Contracts of private functions alone name this: what requests mean is told without it.
use Rattle.std.specs.Prelude.{List, [], ◌∷◌, ◌++◌}

-- the entries of all layers
abbrev pub joined : {T : Type 0} → List (List T) → List T
joined [] = []
joined (layer ∷ layers) = layer ++ joined layers
