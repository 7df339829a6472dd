-- An array as chunks of one length.
use Rattle.std.specs.Prelude.{◌≡◌, ℕ, List, [], ◌∷◌, ◌++◌, ◌<◌, length, slice_index_or}

-- the entries of all chunks
abbrev pub joined : {T : Type 0} → List (List T) → List T
joined [] = []
joined (chunk ∷ chunks) = chunk ++ joined chunks

-- chunks of this length alone
abbrev pub AreOf : {T : Type 0} → ℕ → List (List T) → Type 0
AreOf len chunks = (k : ℕ) → k < length chunks → length (slice_index_or chunks k []) ≡ len

-- and they hold some entries
pub record AreFull {T : Type 0} (width : ℕ) (chunks : List (List T)) : Type 0
  where
    pub some : 0 < width
    pub full : AreOf width chunks
