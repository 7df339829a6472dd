-- Elements of project files, each with the file that holds it. (MSBuild project file schema
-- reference)
use Rattle.std.specs.Prelude.{List, map, Option, Result, Ok, Err}
use Rattle.msb_laws.specs.Words.{Text, Path}
use Rattle.msb_values.specs.Pairs.{value_at}
use Rattle.msb_values.specs.declared.cause.Cause.{Cause}
use Rattle.msb_elements.specs.Nodes.{Node, place_of, attributes_of, children_in}
use Rattle.msb_elements.specs.View.{view}
use Rattle.build_world.specs.declared.element.PlacedElement.{PlacedElement}
use Rattle.build_world.specs.declared.fault.EvalFault.{EvalFault}
use Rattle.build_world.specs.declared.laid_out.Placed.{Placed}
use Rattle.build_world.specs.Faults.{fault_at}

pub record At : Type 0 where
  pub file : Path
  pub node : Node

abbrev pub at : Path → Node → At
at file element = record { file = file; node = element }

abbrev pub seen_placed : Placed → At
seen_placed placed = at placed.file (view placed.element)

abbrev pub seen_element : PlacedElement → At
seen_element placed = at placed.file.now (view placed.element.now)

abbrev pub children_of : At → List At
children_of e = map (at e.file) (children_in e.node)

abbrev pub attribute_of : Text → At → Option Text
attribute_of name e = value_at name (attributes_of e.node)

-- a fault of an element is told at its place, also one of its attributes or its text
abbrev pub fault_of : At → Cause → EvalFault
fault_of e cause = fault_at e.file (place_of e.node) cause

abbrev pub or_fault : {X : Type 0} → At → Result X Cause → Result X EvalFault
or_fault e (Ok x) = Ok x
or_fault e (Err cause) = Err (fault_of e cause)
