-- What a table holds: the runs that are begun, and the records of those that are finished.
use Rattle.std.specs.Prelude.{◌≡◌, ℕ, Bool, true, false, ◌||◌, List, [], ◌∷◌, map, Option, None}
use Rattle.result_cache.specs.declared.run.RunId.{RunId}
use Rattle.result_cache.specs.declared.record.Record.{Record}
use Rattle.result_cache.specs.Lists.{this_or}
use Rattle.result_cache.specs.Same.{same_run, AreDistinct}

-- a run that is finished, with its record
pub record FinishedRun : Type 0 where
  pub run : RunId
  pub made : Record

-- the runs that are finished, the last one first
abbrev pub Records : Type 0
Records = List FinishedRun

-- the record of a run
abbrev pub found : Records → RunId → Option Record
found [] run = None
found (f ∷ table) run = this_or (same_run f.run run) (found table run) f.made

-- a run that is begun, and the request that has begun it
pub record BegunRun : Type 0 where
  pub run : RunId
  pub by : ℕ

-- the run is one of those that are begun
abbrev pub is_begun : RunId → List BegunRun → Bool
is_begun run [] = false
is_begun run (b ∷ begun) = same_run b.run run || is_begun run begun

-- the request that has begun a run; none where the run is not one of those that are begun
abbrev pub request_of : List BegunRun → RunId → Option ℕ
request_of [] run = None
request_of (b ∷ begun) run = this_or (same_run b.run run) (request_of begun run) b.by

-- the begun run in front of others, unless the test holds
abbrev pub begun_unless : Bool → BegunRun → List BegunRun → List BegunRun
begun_unless true b begun = begun
begun_unless false b begun = b ∷ begun

-- the begun runs without this one
abbrev pub without : RunId → List BegunRun → List BegunRun
without run [] = []
without run (b ∷ begun) = begun_unless (same_run b.run run) b (without run begun)

-- what a table holds: the records of the runs that are finished, and the runs that are begun and
-- not finished, each with the last one first
pub record TableRuns : Type 0 where
  pub finished : Records
  pub begun : List BegunRun

-- each run is there once: it is finished once, or begun once, and not both
pub record HasEachOnce (table : TableRuns) : Type 0 where
  pub finished_once : AreDistinct (map (λ (f : FinishedRun). f.run) table.finished)
  pub begun_once : AreDistinct (map (λ (b : BegunRun). b.run) table.begun)
  pub apart : (run : RunId) → is_begun run table.begun ≡ true → found table.finished run ≡ None
