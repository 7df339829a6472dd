-- What a table keeps: each run in the order of the beginnings, with what is kept of one that is
-- not finished, and the records of the others.
use Rattle.std.specs.Prelude.{◌≡◌, List, [], ◌∷◌, ◌++◌, length, Option, None, Some, is_some, not}
use Rattle.std.specs.List.{IsDistinct}
use Rattle.std.specs.Map.{keys_of}
use Rattle.result_cache.specs.Same.{same_run, AreDistinct}
use Rattle.result_cache.specs.declared.run.RunId.{RunId}
use Rattle.result_cache.specs.declared.table.Begin.{Begin}
use Rattle.result_cache.specs.Kept.{KeptRuns, runs_of}
use Rattle.result_cache.specs.Lists.{In}
use Rattle.result_cache.specs.Table.{BegunRun, Records, found}

-- a run that was begun, with what is kept of it
abbrev pub Slot : Type 0
Slot = RunId × Option Begin

-- the first one that was begun stands first
abbrev pub Slots : Type 0
Slots = List Slot

-- a run behind those that were begun later, if it is not finished
abbrev pub with_begun : RunId → Option Begin → List BegunRun → List BegunRun
with_begun run None later = later
with_begun run (Some begin) later = later ++ record { run = run; by = begin.by } ∷ []

-- the runs that are begun and not finished, the last one first
abbrev pub begun_in : Slots → List BegunRun
begun_in [] = []
begun_in (e ∷ entries) = with_begun e.0 e.1 (begun_in entries)

-- what is kept of a run is its own, and is kept exactly where it has no record
pub record IsKept (records : Records) (e : Slot) : Type 0 where
  pub unfinished : is_some e.1 ≡ not (is_some (found records e.0))
  pub named : (begin : Begin) → e.1 ≡ Some begin → begin.run ≡ e.0

-- all runs that were begun, each once, of which those with a record are finished, and there is
-- room for the others
pub record AreSlots (kept : KeptRuns) (entries : Slots) : Type 0 where
  pub distinct : IsDistinct same_run (keys_of entries)
  pub finished : AreDistinct (runs_of kept.records)
  pub each : (e : Slot) → In e entries → IsKept kept.records e
  pub room : length (begun_in entries) ≡ kept.room
