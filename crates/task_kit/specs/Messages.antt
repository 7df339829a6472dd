-- Tasks that say something: Message, Warning and Error; and CreateProperty, which gives what it is
-- handed. (Message, Warning, Error and CreateProperty task)
use Rattle.std.specs.Prelude.{
  Bool,
  true,
  false,
  ◌||◌,
  ◌==◌,
  List,
  [],
  ◌∷◌,
  length,
  Option,
  Some,
  None,
  Result,
  Ok,
  Err,
  codes,
  if◌then◌else◌,
}
use Rattle.msb_laws.specs.Results.{map_ok}
use Rattle.msb_laws.specs.Words.{Text}
use Rattle.msb_values.specs.Same.{is_same_text}
use Rattle.msb_values.specs.declared.note.Note.{Note}
use Rattle.msb_values.specs.declared.note.Note.TheVariants.{Low, Message, Warning}
use Rattle.task_trait.specs.Params.{items_of, text_of, check_known, unless, or_bad}
use Rattle.task_trait.specs.declared.failures.Failure.{Failure}
use Rattle.task_trait.specs.declared.failures.Failure.TheVariants.{Raised}
use Rattle.task_trait.specs.declared.tools.Param.{Param}
use Rattle.task_trait.specs.declared.tools.TaskOutput.{TaskOutput}
use Rattle.task_kit.specs.Progress.{succeeded}

-- a task that only says something
abbrev pub said : Note → TaskOutput
said note = record { ok = true; outputs = []; acts = []; notes = note ∷ [] }

-- `low`, or `normal` or `high`, without case; an empty text is normal
abbrev pub is_low : Text → Option Bool
is_low text =
    if is_same_text text (codes "low") then Some true else
    if length text == 0 || is_same_text text (codes "normal")
    || is_same_text text (codes "high") then Some false else None

abbrev pub message_note : Text → Bool → Note
message_note text true = Low text
message_note text false = Message text

-- Message: a note of its Text, by its Importance
abbrev pub message : List Param → Result TaskOutput Failure
message params =
    unless (check_known (codes "message") params)
    (map_ok (λ low. said (message_note (text_of (codes "text") params) low))
    (or_bad (codes "importance") (is_low (text_of (codes "importance") params))))

-- Warning: a warning of its Text
abbrev pub warning : List Param → Result TaskOutput Failure
warning params = unless (check_known (codes "warning") params)
    (Ok (said (Warning (text_of (codes "text") params))))

-- Error: it fails, with its Text
abbrev pub error : List Param → Result TaskOutput Failure
error params = unless (check_known (codes "error") params)
    (Err (Raised (text_of (codes "text") params)))

-- CreateProperty: its Value
abbrev pub create_property : List Param → Result TaskOutput Failure
create_property params =
    unless (check_known (codes "createproperty") params)
    (Ok
    (succeeded (record { name = codes "value"; items = items_of (codes "value") params } ∷ [])))
