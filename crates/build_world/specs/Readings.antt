-- The project that a file holds, or the first fault of its elements. (MSBuild project file schema
-- reference)
use Rattle.std.specs.Prelude.{ℕ, List, [], Result, Ok, Err}
use Rattle.msb_laws.specs.Words.{Path}
use Rattle.file_store.specs.declared.tree.File.{File}
use Rattle.msb_values.specs.declared.cause.Cause.{Cause}
use Rattle.msb_values.specs.declared.cause.Cause.TheVariants as cause
use Rattle.msb_elements.specs.Nodes.{Node}
use Rattle.msb_elements.specs.Projects.{project_in}
use Rattle.msb_elements.specs.declared.errors.ReadFault.{ReadFault}
use Rattle.msb_elements.specs.declared.errors.ReadFault.TheVariants.{
  NotJson,
  NotElement,
  UnknownElement,
  Misplaced,
  MissingAttribute,
  BothAttributes,
  BadName,
  Memory,
}
use Rattle.build_world.specs.declared.fault.EvalFault.{EvalFault}
use Rattle.build_world.specs.Faults.{fault_at}

-- bytes that are no JSON text are told at the root
abbrev pub place_of_fault : ReadFault → List ℕ
place_of_fault NotJson = []
place_of_fault (NotElement place) = place
place_of_fault (UnknownElement place) = place
place_of_fault (Misplaced place) = place
place_of_fault (MissingAttribute place name) = place
place_of_fault (BothAttributes place one other) = place
place_of_fault (BadName place at) = place
place_of_fault Memory = []

abbrev pub cause_of_fault : ReadFault → Cause
cause_of_fault NotJson = cause.NotJson
cause_of_fault (NotElement place) = cause.NotElement
cause_of_fault (UnknownElement place) = cause.UnknownElement
cause_of_fault (Misplaced place) = cause.Misplaced
cause_of_fault (MissingAttribute place name) = cause.MissingAttribute name
cause_of_fault (BothAttributes place one other) = cause.BothAttributes one other
cause_of_fault (BadName place at) = cause.BadName at
cause_of_fault Memory = cause.Memory

abbrev pub project_or_fault : Path → Result Node ReadFault → Result Node EvalFault
project_or_fault file (Ok project) = Ok project
project_or_fault file (Err fault) = Err
    (fault_at file (place_of_fault fault) (cause_of_fault fault))

abbrev pub project_of : File → Result Node EvalFault
project_of file = project_or_fault file.path (project_in file.bytes)
