-- What is printed of a build, line by line. (MSBuild command-line reference; Message task;
-- Incremental builds; MSBuild task.)
use Rattle.std.specs.Prelude.{
  List,
  [],
  ◌++◌,
  length,
  reverse,
  Bool,
  true,
  false,
  Option,
  Some,
  None,
  codes,
}
use Rattle.std.specs.Fmt.{decimal}
use Rattle.std.specs.List.{flat_map, join_by}
use Rattle.msb_laws.specs.Words.{Text}
use Rattle.msb_values.specs.Escapes.{unescaped}
use Rattle.msb_values.specs.declared.item.Item.{Item}
use Rattle.msb_values.specs.declared.note.Note.{Note}
use Rattle.msb_values.specs.declared.note.Note.TheVariants.{Low, Message, Warning, Fail}
use Rattle.result_cache.specs.declared.run.RunId.{RunId}
use Rattle.result_cache.specs.declared.record.Decision.{Decision}
use Rattle.result_cache.specs.declared.record.Decision.TheVariants.{
  Ran,
  UpToDate,
  NothingToDo,
  Part,
  Failed,
}
use Rattle.result_cache.specs.declared.record.Record.{Record}
use Rattle.result_cache.specs.declared.request.Returned.{Returned}
use Rattle.result_cache.specs.declared.request.RequestResult.{RequestResult}
use Rattle.result_cache.specs.Journal.{Entry, acted, ended, Journal}
use Rattle.build_report.specs.Line.{line}
use Rattle.build_report.specs.Runs.{run_text}

-- what became of a bucket of a target
abbrev pub decision_words : Decision → Text
decision_words Ran = codes "ran"
decision_words UpToDate = codes "up to date"
decision_words NothingToDo = codes "nothing to do"
decision_words (Part old all) = codes "partial " ++ decimal old ++ codes " of " ++ decimal all
decision_words Failed = codes "failed"

-- a run, and what became of each bucket of its target
abbrev pub run_line : RunId → List Decision → Text
run_line run decisions =
    line (run_text run ++ codes " " ++ join_by decision_words (codes ", ") decisions)

-- a message
abbrev pub message_line : Text → Text
message_line text = line (codes "  " ++ text)

-- a message of low importance, which is printed only where low ones are asked for
abbrev pub low_line : Bool → Text → Text
low_line true text = message_line text
low_line false text = []

-- what a task says
abbrev pub note_line : Bool → Note → Text
note_line low (Low text) = low_line low text
note_line low (Message text) = message_line text
note_line low (Warning text) = line (codes "  warning: " ++ text)
note_line low (Fail text) = line (codes "  error: " ++ text)

-- a run that has ended, and its notes
abbrev pub run_lines : Bool → RunId → Record → Text
run_lines low run made = run_line run made.decisions ++ flat_map (note_line low) made.notes

-- nothing is printed of a file that was written or removed
abbrev pub entry_lines : Bool → Entry → Text
entry_lines low (acted run place act) = []
entry_lines low (ended run made) = run_lines low run made

-- the runs that have ended, from the first on; a journal has its newest entry first
abbrev pub journal_lines : Bool → Journal → Text
journal_lines low journal = flat_map (entry_lines low) (reverse journal)

-- the error text of the request, if it has one
abbrev pub error_lines : Option Text → Text
error_lines None = []
error_lines (Some error) = line (codes "error: " ++ error)

-- the items that the targets have returned, in order
abbrev pub items_returned : List Returned → List Item
items_returned = flat_map (λ returned. returned.items)

-- an item's identity, unescaped
abbrev pub item_line : Item → Text
item_line item = line (codes "  " ++ unescaped item.ident)

-- how many items are returned, and each of them
abbrev pub returned_lines : List Item → Text
returned_lines items =
    line (codes "returned " ++ decimal (length items)) ++ flat_map item_line items

-- how the build ended
abbrev pub last_line : Bool → Text
last_line true = line (codes "build succeeded")
last_line false = line (codes "build failed")

-- what the root request gives: its error text, the items it returns, and how it ended
abbrev pub end_lines : RequestResult → Text
end_lines root =
    error_lines root.error
    ++ returned_lines (items_returned root.returned)
    ++ last_line root.ok

-- a build: the runs in the root request's journal, and what the root request gives
abbrev pub shown_text : RequestResult → Journal → Bool → Text
shown_text root journal low = journal_lines low journal ++ end_lines root
