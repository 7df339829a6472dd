-- What a file's bytes are read as: the lines of a text, or no text.
use Rattle.std.proofs.Common.{◌≡◌, ℕ, Bool, true, false, List, Some, Ok, Err, refl, sym, ap, ◌∙◌}
use Rattle.std.specs.Str.{IsUtf8, is_utf8}
use Rattle.std.proofs.lemmas.Str.{IsUtf8-from_is_utf8, is_utf8-from_IsUtf8}
use Rattle.msb_values.specs.declared.item.Item.{Item}
use Rattle.task_trait.specs.declared.failures.Failure.{Failure}
use Rattle.task_trait.specs.declared.failures.Failure.TheVariants.{NotText}
use Rattle.task_trait.specs.declared.tools.TaskOutput.{TaskOutput}
use Rattle.task_kit.specs.Read.{lines_in, lines_output, lines_read}

pub is_text : (file bytes text : List ℕ) (items : List Item) (output : TaskOutput)
    → (text ≡ bytes) × IsUtf8 bytes
    → items ≡ lines_in text → output ≡ lines_output items → lines_read file (Some bytes) ≡ Ok output
is_text file bytes text items output p read told =
    rw (is_utf8-from_IsUtf8 bytes p.1)
    (ap Ok (sym (told ∙ ap lines_output (read ∙ ap lines_in p.0))))

is_refused : (file bytes : List ℕ) (b : Bool) → is_utf8 bytes ≡ b → ¬ (IsUtf8 bytes)
    → lines_read file (Some bytes) ≡ Err (NotText file)
is_refused file bytes true is not_text = absurd (not_text (IsUtf8-from_is_utf8 bytes is))
is_refused file bytes false is not_text = rw is refl

pub is_no_text : (file bytes : List ℕ) (failure : Failure) → ¬ (IsUtf8 bytes)
    → failure ≡ NotText file → lines_read file (Some bytes) ≡ Err failure
is_no_text file bytes failure not_text is = is_refused file bytes (is_utf8 bytes) refl not_text
    ∙ ap Err (sym is)
