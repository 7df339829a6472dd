-- Which records are the same: all that they hold is compared by bytes.
use Rattle.std.specs.Prelude.{Bool, false, true, ◌&&◌, ◌==◌}
use Rattle.std.specs.Cmp.Lexicographic.{pointwise}
use Rattle.std.specs.Str.{bytes_eq}
use Rattle.msb_values.specs.Equal.{same_pairs, same_item}
use Rattle.msb_values.specs.declared.change.Change.{Change}
use Rattle.msb_values.specs.declared.change.Change.TheVariants.{
  SetProp,
  AddItems,
  RemoveItems,
  SetMeta,
}
use Rattle.msb_values.specs.declared.note.Note.{Note}
use Rattle.msb_values.specs.declared.note.Note.TheVariants.{Low, Message, Warning, Fail}
use Rattle.msb_values.specs.declared.act.Act.{Act}
use Rattle.msb_values.specs.declared.act.Act.TheVariants.{Write, Remove}
use Rattle.msb_values.specs.declared.put.Put.{Put}
use Rattle.result_cache.specs.declared.record.Decision.{Decision}
use Rattle.result_cache.specs.declared.record.Decision.TheVariants.{
  Ran,
  UpToDate,
  NothingToDo,
  Part,
  Failed,
}
use Rattle.result_cache.specs.declared.record.Record.{Record}
use Rattle.result_cache.specs.declared.record.Segment.{Segment}
use Rattle.result_cache.specs.declared.record.Segment.TheVariants.{File, Call}
use Rattle.result_cache.specs.Same.{same_run, same_truth, same_key}

-- one file with the same bytes
abbrev pub same_put : Put → Put → Bool
same_put a b = bytes_eq a.path b.path && bytes_eq a.bytes b.bytes

-- one file written or removed alike
abbrev pub same_act : Act → Act → Bool
same_act (Write a) (Write b) = same_put a b
same_act (Remove a) (Remove b) = bytes_eq a b
same_act a b = false

-- one kind of note with the same text
abbrev pub same_note : Note → Note → Bool
same_note (Low a) (Low b) = bytes_eq a b
same_note (Message a) (Message b) = bytes_eq a b
same_note (Warning a) (Warning b) = bytes_eq a b
same_note (Fail a) (Fail b) = bytes_eq a b
same_note a b = false

-- one change of the same property or item type
abbrev pub same_change : Change → Change → Bool
same_change (SetProp n a) (SetProp m b) = bytes_eq n m && bytes_eq a b
same_change (AddItems n a) (AddItems m b) = bytes_eq n m && pointwise same_item a b
same_change (RemoveItems n a) (RemoveItems m b) = bytes_eq n m && pointwise bytes_eq a b
same_change (SetMeta n a p) (SetMeta m b q) = bytes_eq n m
    && (pointwise same_item a b && same_pairs p q)
same_change a b = false

-- one decision, of as many items
abbrev pub same_decision : Decision → Decision → Bool
same_decision Ran Ran = true
same_decision UpToDate UpToDate = true
same_decision NothingToDo NothingToDo = true
same_decision (Part n m) (Part k l) = (n == k) && (m == l)
same_decision Failed Failed = true
same_decision a b = false

-- one act on a file, or one request called that made or used the same runs
abbrev pub same_segment : Segment → Segment → Bool
same_segment (File a) (File b) = same_act a b
same_segment (Call key a) (Call other b) = same_key key other && pointwise same_run a b
same_segment a b = false

-- all is the same
unfoldable pub same_record : Record → Record → Bool
same_record a b =
    same_truth a.ok b.ok
    && (pointwise same_decision a.decisions b.decisions && (pointwise same_item a.items b.items
    && (pointwise same_change a.changes b.changes
    && (pointwise same_note a.notes b.notes && pointwise same_segment a.segments b.segments))))
