-- What a table answers of a run.
use Rattle.std.specs.Prelude.{◌≡◌, None, Some}
use Rattle.std.specs.Borrow.{Bor}
use Rattle.result_cache.specs.declared.run.RunId.{RunId}
use Rattle.result_cache.specs.declared.record.Record.{Record}
use Rattle.result_cache.specs.declared.table.Found.{Found}
use Rattle.result_cache.specs.declared.table.Found.TheVariants.{Absent, Begun, Done}
use Rattle.result_cache.specs.Table.{found, request_of, TableRuns, FinishedRun}

-- absent where the run is neither begun nor finished, else the request that has begun it, or its
-- record
abbrev pub FoundIn : TableRuns → RunId → Found → Type 0
FoundIn table run Absent = (found table.finished run ≡ None) × (request_of table.begun run ≡ None)
FoundIn table run (Begun by) = (found table.finished run ≡ None)
    × (request_of table.begun run ≡ Some by)
FoundIn table run (Done made) = found table.finished run ≡ Some made.now

-- a finished run with its record, behind references
abbrev pub seen_finished : Bor RunId × Bor Record → FinishedRun
seen_finished p = record { run = p.0.now; made = p.1.now }
