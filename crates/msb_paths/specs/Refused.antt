-- A text as a normal path, or why it is none.
use Rattle.std.specs.Prelude.{◌≡◌, Result, Ok, Err, if◌then◌else◌}
use Rattle.msb_laws.specs.Words.{Path, Text}
use Rattle.msb_paths.specs.Normal.{normalized, is_normal}
use Rattle.msb_paths.specs.declared.errors.PathFault.{PathFault}
use Rattle.msb_paths.specs.declared.errors.PathFault.TheVariants as path
use Rattle.msb_paths.specs.declared.errors.NormalFault.{NormalFault}
use Rattle.msb_paths.specs.declared.errors.NormalFault.TheVariants.{
  AboveRoot,
  Empty,
  ControlCharacter,
  Memory,
}

abbrev pub normal_fault : PathFault → NormalFault
normal_fault path.AboveRoot = AboveRoot
normal_fault path.Empty = Empty
normal_fault path.Memory = Memory

-- what is made normal is a normal path, unless a control character is left
abbrev pub if_normal : Result Path PathFault → Result Path NormalFault
if_normal (Ok path) = if is_normal path then Ok path else Err ControlCharacter
if_normal (Err fault) = Err (normal_fault fault)

-- the normal path of a text on a base folder
abbrev pub normal_path : Path → Text → Result Path NormalFault
normal_path base text = if_normal (normalized base text)

-- the answer is this one, but for want of memory
abbrev pub GivesNormal : {T : Type 0} → Result T NormalFault → Result T NormalFault → Type 0
GivesNormal (Ok value) answer = answer ≡ Ok value
GivesNormal (Err AboveRoot) answer = answer ≡ Err AboveRoot
GivesNormal (Err Empty) answer = answer ≡ Err Empty
GivesNormal (Err ControlCharacter) answer = answer ≡ Err ControlCharacter
GivesNormal (Err Memory) answer = Unit {0}
