-- The calls of tools, and what a task does to files.
use Rattle.std.specs.Prelude.{◌≡◌, ℕ, List, ◌++◌, length}
use Rattle.msb_values.specs.declared.act.Act.{Act}
use Rattle.msb_values.specs.declared.act.Act.TheVariants.{Write, Remove}

-- the second list is the first with perhaps more behind it
abbrev pub BeginsWith : {X : Type 0} → List X → List X → Type 0
BeginsWith {X} old new = (more : List X) × (new ≡ old ++ more)

-- the number of bytes that an act writes
abbrev pub act_size : Act → ℕ
act_size (Write put) = length put.bytes
act_size (Remove path) = 0
