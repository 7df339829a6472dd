-- What a request knows of the files that targets have written or removed, and of the runs that have
-- ended. (MSBuild targets.)
use Rattle.std.specs.Prelude.{ℕ, Bool, true, false, ◌==◌, ◌||◌, ◌&&◌, List, [], ◌∷◌, Option, None}
use Rattle.std.specs.Str.{bytes_eq}
use Rattle.msb_laws.specs.Words.{Path, Text}
use Rattle.msb_values.specs.declared.act.Act.{Act}
use Rattle.msb_values.specs.Acts.{act_path, act_bytes}
use Rattle.result_cache.specs.declared.run.RunId.{RunId}
use Rattle.result_cache.specs.declared.record.Record.{Record}
use Rattle.result_cache.specs.Lists.{this_or}
use Rattle.result_cache.specs.Same.{same_run}

-- what a run did to a path, with its place among the segments of the run's record; a run that has
-- ended, with its record
pub data Entry : Type 0 where
  acted : RunId → ℕ → Act → Entry
  ended : RunId → Record → Entry

-- the newest entry first
abbrev pub Journal : Type 0
Journal = List Entry

-- what tells one entry from another: of an act the run and the place, of an ended run the run
pub data Mark : Type 0 where
  act_of : RunId → ℕ → Mark
  end_of : RunId → Mark

-- the mark of an entry
abbrev pub mark : Entry → Mark
mark (acted run place act) = act_of run place
mark (ended run made) = end_of run

-- two marks are equal
abbrev pub same_mark : Mark → Mark → Bool
same_mark (act_of run place) (act_of other number) = same_run run other && (place == number)
same_mark (act_of run place) (end_of other) = false
same_mark (end_of run) (act_of other number) = false
same_mark (end_of run) (end_of other) = same_run run other

-- the journal has an entry with this mark
abbrev pub has : Mark → Journal → Bool
has m [] = false
has m (e ∷ journal) = same_mark (mark e) m || has m journal

-- the entry in front of the journal, unless the test holds
abbrev pub add_unless : Bool → Journal → Entry → Journal
add_unless true journal e = journal
add_unless false journal e = e ∷ journal

-- the journal with this entry, which it gets only once
abbrev pub add : Journal → Entry → Journal
add journal e = add_unless (has (mark e) journal) journal e

-- the journal with the entries of another that it has not, in their order: this joins calls made at
-- once (MSBuild task, BuildInParallel)
abbrev pub merge : Journal → Journal → Journal
merge journal [] = journal
merge journal (e ∷ other) = add (merge journal other) e

-- what the last act on a path left there, which is nothing where it removed the file; none where no
-- run has acted on the path
abbrev pub content : Journal → Path → Option (Option Text)
content [] path = None
content (acted run place act ∷ journal) path = this_or (bytes_eq (act_path act) path)
    (content journal path) (act_bytes act)
content (ended run made ∷ journal) path = content journal path

-- the record of a run that has ended
abbrev pub record_of : Journal → RunId → Option Record
record_of [] run = None
record_of (acted other place act ∷ journal) run = record_of journal run
record_of (ended other made ∷ journal) run = this_or (same_run other run) (record_of journal run)
    made
