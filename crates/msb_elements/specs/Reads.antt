-- What the readers of a project file's parts answer.
use Rattle.std.specs.Prelude.{◌≡◌, Option, Some, None, Result, Ok, Err}
use Rattle.msb_elements.specs.declared.errors.PartFault.{PartFault}
use Rattle.msb_elements.specs.declared.errors.PartFault.TheVariants.{NotElement, Memory}

-- a part of the file is read as the definition gives it, and refused where that gives none
abbrev pub RefusesPart : {Y : Type 0} → Option Y → PartFault → Type 0
RefusesPart part NotElement = part ≡ None
RefusesPart part Memory = Unit {0}

abbrev pub Gives : {X Y : Type 0} → (X → Y) → Result X PartFault → Option Y → Type 0
Gives seen (Ok x) part = part ≡ Some (seen x)
Gives seen (Err fault) part = RefusesPart part fault
