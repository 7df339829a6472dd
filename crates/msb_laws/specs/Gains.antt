-- What a sink that tells its bytes has gained by a call.
use Rattle.std.specs.Prelude.{◌≡◌, ◌⊎◌, ℕ, ◌++◌, take, Option, Some, None}
use Rattle.msb_laws.specs.Faults.{Rose}
use Rattle.msb_laws.specs.Words.{Text}

-- the whole text
abbrev pub Appends : Option Text → Option Text → Text → Type 0
Appends None new text = new ≡ None
Appends (Some old) new text = new ≡ Some (old ++ text)

-- a front of the text
abbrev pub AppendsFront : Option Text → Option Text → Text → Type 0
AppendsFront None new text = new ≡ None
AppendsFront (Some old) new text = (n : ℕ) × (new ≡ Some (old ++ take n text))

-- the whole text, or a front of it where the sink's count of faults rose
abbrev pub Prints : ℕ → ℕ → Option Text → Option Text → Text → Type 0
Prints before now old new text = Appends old new text
    ⊎ (Rose before now × AppendsFront old new text)
