use Rattle.std.proofs.Common.{◌++◌, reverse, take}
use Rattle.result_cache.specs.Journal.{Journal}
use Rattle.msb_files.specs.Indices.{HasMarks}
use Rattle.msb_files.proofs.hashed.insert_marks.Given as goal

abbrev pub invariant-loop-entry : goal.invariant-loop-entry
invariant-loop-entry l =
    (old : Journal) → HasMarks old l.initial.marks →
    HasMarks (reverse (take l.entry-index l.entries) ++ old) l.marks
