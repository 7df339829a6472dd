-- What comes of a task that fails. (Task element: ContinueOnError)
use Rattle.std.specs.Prelude.{
  List,
  [],
  ◌∷◌,
  map,
  true,
  false,
  Option,
  Some,
  None,
  Result,
  Ok,
  Err,
  codes,
}
use Rattle.msb_laws.specs.Words.{Text}
use Rattle.msb_laws.specs.Results as results
use Rattle.msb_values.specs.Escapes.{unescaped}
use Rattle.msb_values.specs.Same.{is_same_text}
use Rattle.msb_values.specs.declared.cause.Cause.{Cause}
use Rattle.msb_values.specs.declared.cause.Cause.TheVariants.{NotBoolean}
use Rattle.msb_values.specs.declared.note.Note.{Note}
use Rattle.msb_values.specs.declared.note.Note.TheVariants.{Low, Message, Warning, Fail}
use Rattle.build_world.specs.Elements.{At, attribute_of, or_fault}
use Rattle.build_world.specs.declared.fault.EvalFault.{EvalFault}
use Rattle.element_texts.specs.Contexts.{ElementContext, text_at}
use Rattle.target_texts.specs.declared.on_error.OnError.{OnError}
use Rattle.target_texts.specs.declared.on_error.OnError.TheVariants.{Stop, Warn, Continue}

-- the texts that are allowed; an empty one is the default
abbrev pub on_error_words : List (Text × OnError)
on_error_words =
    (codes "ErrorAndStop", Stop) ∷ (codes "false", Stop) ∷ ([], Stop) ∷
    (codes "WarnAndContinue", Warn) ∷ (codes "true", Warn) ∷
    (codes "ErrorAndContinue", Continue) ∷ []

-- compared without case
abbrev pub on_error_in : List (Text × OnError) → Text → Result OnError Cause
on_error_in [] text = Err (NotBoolean text)
on_error_in (word ∷ words) text = elim (is_same_text text word.0)
    [ true ↦ Ok word.1 | false ↦ on_error_in words text ]

abbrev pub on_error_if : ElementContext → At → Option Text → Result OnError EvalFault
on_error_if p e None = Ok Stop
on_error_if p e (Some written) = results.and_then (text_at p e written)
    (λ text. or_fault e (on_error_in on_error_words (unescaped text)))

-- of a task element
abbrev pub on_error_at : ElementContext → At → Result OnError EvalFault
on_error_at p e = on_error_if p e (attribute_of (codes "ContinueOnError") e)

-- a task's errors become warnings where the body goes on with a warning
abbrev pub as_warning : Note → Note
as_warning (Low text) = Low text
as_warning (Message text) = Message text
as_warning (Warning text) = Warning text
as_warning (Fail text) = Warning text

abbrev pub notes_by : OnError → List Note → List Note
notes_by Stop notes = notes
notes_by Warn notes = map as_warning notes
notes_by Continue notes = notes
