use Rattle.std.proofs.Common.{◌≡◌, drop}
use Rattle.result_cache.specs.Replay.{replay_all}
use Rattle.msb_files.proofs.journal.Journal.take_runs.Given as goal

abbrev pub invariant-loop-run : goal.invariant-loop-run
invariant-loop-run l =
    replay_all l.table.finished (drop l.run-index l.runs) l.self
    ≡ replay_all l.table.finished l.runs l.initial.self
