-- How an answer is the one that a definition gives, but for want of memory. (MSBuild command-line
-- reference.)
use Rattle.std.specs.Prelude.{◌≡◌, Option, Some, None, Result, Ok, Err}
use Rattle.msb_values.specs.declared.errors.NameFault.{NameFault}
use Rattle.msb_values.specs.declared.errors.NameFault.TheVariants.{BadName, Memory}
use Rattle.clap.specs.declared.error.kind.ErrorKind.{ErrorKind}
use Rattle.clap.specs.declared.error.kind.ErrorKind.TheVariants as kind
use Rattle.msb_words.specs.declared.faults.WordFault.{WordFault}
use Rattle.msb_words.specs.declared.faults.WordFault.TheVariants as word

-- what is read is what the definition gives, and a refusal comes just where it gives nothing
abbrev pub ReadsAs : {T U : Type 0} → (T → U) → Option U → Result T WordFault → Type 0
ReadsAs view answer (Ok value) = answer ≡ Some (view value)
ReadsAs view answer (Err word.Usage) = answer ≡ None
ReadsAs view answer (Err word.Memory) = Unit {0}

abbrev pub Reads : {T : Type 0} → Option T → Result T WordFault → Type 0
Reads answer (Ok value) = answer ≡ Some value
Reads answer (Err word.Usage) = answer ≡ None
Reads answer (Err word.Memory) = Unit {0}

-- a text that is no name is a refusal
abbrev pub fault_of_name : NameFault → WordFault
fault_of_name (BadName place) = word.Usage
fault_of_name Memory = word.Memory

-- a parse that is refused is, but for want of memory
abbrev pub fault_of_kind : ErrorKind → WordFault
fault_of_kind kind.OutOfMemory = word.Memory
fault_of_kind _ = word.Usage
