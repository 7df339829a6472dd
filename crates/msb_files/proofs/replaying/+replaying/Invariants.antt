use Rattle.std.proofs.Common.{◌≡◌, ◌+◌, ◌*◌, length, drop, map}
use Rattle.result_cache.specs.Replay.{effects_from, replay, replays, replays_run}
use Rattle.msb_files.specs.Before.{before}
use Rattle.msb_files.proofs.replaying.+replaying.Given as goal

abbrev pub decreases-take_run : goal.decreases-take_run
decreases-take_run l = 3 * length (before l.run.now l.table.now.finished) + 2

abbrev pub decreases-take_record : goal.decreases-take_record
decreases-take_record l = 3 * length (before l.run.now l.table.now.finished) + 1

abbrev pub decreases-take_called : goal.decreases-take_called
decreases-take_called l = 3 * length (before l.outer.now l.table.now.finished)

abbrev pub invariant-take_record-loop-number : goal.invariant-take_record-loop-number
invariant-take_record-loop-number l =
    replays (replay (before l.run l.table.finished))
    (effects_from l.run l.number (drop l.number l.run_record.segments)) l.journal
    ≡ replays (replay (before l.run l.table.finished)) (effects_from l.run 0 l.run_record.segments)
    l.initial.journal

abbrev pub invariant-take_called-loop-run : goal.invariant-take_called-loop-run
invariant-take_called-loop-run l =
    replays (replay (before l.outer l.table.finished)) (map replays_run (drop l.run-index l.runs))
    l.journal
    ≡ replays (replay (before l.outer l.table.finished)) (map replays_run l.runs) l.initial.journal
