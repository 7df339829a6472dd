-- A journal in layers, the newest first.
use Rattle.std.specs.Prelude.{List, [], ◌∷◌, ◌++◌}
use Rattle.result_cache.specs.Journal.{Journal}

-- the entries of all layers
abbrev pub all_of : List Journal → Journal
all_of [] = []
all_of (layer ∷ layers) = layer ++ all_of layers
