use Rattle.std.proofs.Common.{◌≡◌, ◌+◌, drop, false, IsSome, ap, ◌∙◌, sym, subst, rules, tests}
use Rattle.result_cache.specs.Journal.{end_of, has}
use Rattle.result_cache.specs.Replay.{replay, replay_all}
use Rattle.result_cache.proofs.Closed.{replay-has}
use Rattle.msb_files.proofs.ReplaySteps.{run_step, run_defined}
use Rattle.msb_files.proofs.journal.Journal.take_runs.Goals as goal
use Rattle.msb_files.proofs.journal.Journal.take_runs.Goals.{
  then-not-has_ended+in_ok-take_run,
  else-not-has_ended,
}

pub take_run-requires : goal.take_run-requires
take_run-requires c =
    let run = c.run-item.result in
    let journal = c.loop-run.self in
    let goes_on : has (end_of run) journal ≡ false = search (rules, tests) in
    record {
      goes_on = goes_on;
      defined = run_defined (replay c.args.table.now.finished) c.args.runs.now c.loop-run.run-index
          run
          c.loop-run-test.true c.run-item.is journal
          (subst (λ o. IsSome o) (sym c.loop-run.invariant) c.requires);
    }

pub loop-run-preserved : goal.loop-run-preserved
loop-run-preserved c =
    let table = c.args.table.now.finished in
    let one = replay table in
    let run = c.run-item.result in
    let journal = c.loop-run.self in
    let runs = c.args.runs.now in
    let i = c.loop-run.run-index in
    elim c.if-not-has_ended.branch [
      | then-not-has_ended+in_ok-take_run w ↦
          ap (replay_all table (drop (i + 1) runs)) w.self-is
          ∙ (run_step one runs i run c.loop-run-test.true c.run-item.is journal
          w.take_run.new.journal w.in_ok-take_run.ensures
          ∙ c.loop-run.invariant)
      | else-not-has_ended w ↦
          ap (replay_all table (drop (i + 1) runs)) w.self-is
          ∙ (run_step one runs i run c.loop-run-test.true c.run-item.is journal journal
          (replay-has table run journal (search (rules, tests)))
          ∙ c.loop-run.invariant)
    ]
