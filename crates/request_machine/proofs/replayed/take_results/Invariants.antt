use Rattle.std.proofs.Common.{◌≡◌, drop}
use Rattle.result_cache.specs.Replay.{replay_all}
use Rattle.build_meaning.specs.SoFar.{runs_of}
use Rattle.request_machine.proofs.replayed.take_results.Given as goal

abbrev pub invariant-loop-result : goal.invariant-loop-result
invariant-loop-result l = replay_all l.learnt.finished (runs_of (drop l.result-index l.results))
    l.journal ≡ replay_all l.learnt.finished (runs_of l.results) l.initial.journal
