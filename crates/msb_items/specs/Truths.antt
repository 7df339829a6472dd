-- A text that has to be a truth value, where it is not empty. (MSBuild conditions; Item element;
-- Target element)
use Rattle.std.specs.Prelude.{[], ◌∷◌, Bool, Option, Some, None, Result, Ok, Err}
use Rattle.msb_laws.specs.Words.{Text}
use Rattle.msb_values.specs.Truths.{truth_of}
use Rattle.msb_values.specs.declared.cause.Cause.{Cause}
use Rattle.msb_values.specs.declared.cause.Cause.TheVariants.{NotBoolean}

abbrev pub truth_or_cause : Text → Option Bool → Result Bool Cause
truth_or_cause text (Some truth) = Ok truth
truth_or_cause text None = Err (NotBoolean text)

-- an empty text is this truth value
abbrev pub truth_or : Bool → Text → Result Bool Cause
truth_or default [] = Ok default
truth_or default (byte ∷ bytes) = truth_or_cause (byte ∷ bytes) (truth_of (byte ∷ bytes))
