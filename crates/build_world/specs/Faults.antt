-- How a fault of evaluation is told: its file, its place and its cause; and that a project file is
-- not there. (MSBuild command-line reference)
use Rattle.std.specs.Prelude.{ℕ, List, ◌++◌, Option, Some, None, codes}
use Rattle.msb_laws.specs.Words.{Path, Text}
use Rattle.msb_values.specs.Causes.{shown_of}
use Rattle.msb_values.specs.declared.cause.Cause.{Cause}
use Rattle.msb_values.specs.declared.cause.Cause.TheVariants.{Memory}
use Rattle.msb_elements.specs.Places.{shown_place}
use Rattle.build_world.specs.declared.fault.ElementPlace.{ElementPlace}
use Rattle.build_world.specs.declared.fault.EvalFault.{EvalFault}

abbrev pub fault_at : Path → List ℕ → Cause → EvalFault
fault_at file place cause = record
    { element = Some (record { file = file; place = place }); cause = cause }

-- no element has it
abbrev pub out_of_memory : EvalFault
out_of_memory = record { element = None; cause = Memory }

abbrev pub text_at : ElementPlace → Text → Text
text_at element cause = element.file ++ codes " " ++ shown_place element.place ++ codes ": "
    ++ cause

abbrev pub text_if : Option ElementPlace → Text → Text
text_if (Some element) cause = text_at element cause
text_if None cause = cause

abbrev pub fault_text : EvalFault → Text
fault_text fault = text_if fault.element (shown_of fault.cause)

abbrev pub not_found_text : Path → Text
not_found_text path = path ++ codes ": not found"
