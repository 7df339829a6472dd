-- What the readers and the checks of a project file answer.
use Rattle.std.specs.Prelude.{◌≡◌, Option, Some, None, Result, Ok, Err}
use Rattle.std.specs.Result.{result_err}
use Rattle.msb_elements.specs.declared.errors.ReadFault.{ReadFault}
use Rattle.msb_elements.specs.declared.errors.ReadFault.TheVariants.{
  NotJson,
  NotElement,
  UnknownElement,
  Misplaced,
  MissingAttribute,
  BothAttributes,
  BadName,
  Memory,
}

-- the fault that is found, or want of memory
abbrev pub IsFault : ReadFault → Option ReadFault → Type 0
IsFault Memory found = Unit {0}
IsFault NotJson found = found ≡ Some NotJson
IsFault (NotElement place) found = found ≡ Some (NotElement place)
IsFault (UnknownElement place) found = found ≡ Some (UnknownElement place)
IsFault (Misplaced place) found = found ≡ Some (Misplaced place)
IsFault (MissingAttribute place name) found = found ≡ Some (MissingAttribute place name)
IsFault (BothAttributes place one other) found = found ≡ Some (BothAttributes place one other)
IsFault (BadName place at) found = found ≡ Some (BadName place at)

-- no fault is found, or just this
abbrev pub Checks : {X : Type 0} → Result X ReadFault → Option ReadFault → Type 0
Checks (Ok x) found = found ≡ None
Checks (Err fault) found = IsFault fault found

-- what the definition gives, or the fault that it finds
abbrev pub Finds : {X Y : Type 0} → (X → Y) → Result X ReadFault → Result Y ReadFault → Type 0
Finds seen (Ok x) found = found ≡ Ok (seen x)
Finds seen (Err fault) found = IsFault fault (result_err found)
