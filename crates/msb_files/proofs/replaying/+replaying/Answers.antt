use Rattle.std.proofs.Common.{
  ◌≡◌,
  ◌+◌,
  ◌<◌,
  ◌∷◌,
  Some,
  length,
  map,
  drop,
  get_or,
  false,
  IsSome,
  ap,
  ◌∙◌,
  sym,
  subst,
  rules,
  arith,
  tests,
}
use Rattle.result_cache.specs.Journal.{ended, end_of, has, add}
use Rattle.result_cache.specs.Replay.{replay, replays, replays_run}
use Rattle.result_cache.proofs.Closed.{replay-has}
use Rattle.msb_files.specs.Before.{before}
use Rattle.msb_files.proofs.Replays.{
  replays_before,
  before_fewer,
  replayed_in,
  taken_defined,
  taken_gives,
  not_found,
  never,
  if_ok,
  recorded_is,
}
use Rattle.msb_files.proofs.Ending.{end_is_new}
use Rattle.msb_files.proofs.ReplaySteps.{
  left,
  act_step,
  call_step,
  call_defined,
  run_step,
  run_defined,
}
use Rattle.msb_files.proofs.replaying.+replaying.Goals as goal
use Rattle.msb_files.proofs.replaying.+replaying.Goals.{
  take_record-in-File+in_ok-of_record-in-File+in_ok-add-in-File,
  take_record-in-Call+in_ok-take_called-in-Call,
  take_called-then-not-has_ended+in_ok-take_run,
  take_called-else-not-has_ended,
}

pub take_run-take_record-requires : goal.take_run-take_record-requires
take_run-take_record-requires t c =
    let table = c.args.table.now.finished in
    let run = c.args.run.now in (
      omega arith,
      taken_defined table run c.in-Done.record.now c.args.journal.now c.requires.goes_on
          c.in-Done.ensures c.requires.defined,
    )

pub take_run-unreachable-requires : goal.take_run-unreachable-requires
take_run-unreachable-requires t c =
    never c.args.table.now.finished c.args.run.now c.args.journal.now c.requires.goes_on
    c.requires.defined (not_found c.args.table.now c.args.run.now c.find_ref.result
    c.find_ref.ensures c.in-Absent.is)

pub take_run-returns : goal.take_run-returns
take_run-returns t c =
    let after = c.take_record.new.journal in
    let journal = c.args.journal.now in
    let table = c.args.table.now.finished in
    let run = c.args.run.now in
    let made = c.in-Done.record.now in
    let on = c.requires.goes_on in
    let gives = c.in_ok-take_record-in-Done.ensures in
    let entry : c.of_end.result ≡ ended run made = search rules in
    if_ok c.push.result c.push.ensures.ok
    (λ is. taken_gives table run made journal after on c.in-Done.ensures gives
    ∙ ap Some (sym (is ∙ (ap (λ e. e ∷ after) entry
    ∙ end_is_new table run made journal after c.each_once.ensures.finished_once on gives))))

pub take_record-take_called-requires : goal.take_record-take_called-requires
take_record-take_called-requires t c =
    let one = replay (before c.args.run.now c.args.table.now.finished) in
    let segments = c.args.run_record.now.segments in
    let n = c.loop-number.number in
    let same : c.as_slice-segment-items.result.now ≡ segments = c.as_slice-segment-items.ensures
    ∙ ap (λ m. m.segments) c.get.ensures in
    let within = subst (λ s. n < length s) same c.loop-number-test.true in
    let at = c.segment-item.is ∙ ap (λ s. get_or s n c.segment-item.result) same in
    let defined = subst (λ o. IsSome o) (sym c.loop-number.invariant) c.requires in (
      omega arith,
      subst (λ rs. IsSome (replays one (map replays_run rs) c.loop-number.journal))
          (sym c.as_slice.ensures)
          (call_defined one c.args.run.now segments n c.segment-item.result within at
          c.in-Call.field-0 c.in-Call.runs c.loop-number.journal c.in-Call.is defined),
    )

pub take_record-loop-number-preserved : goal.take_record-loop-number-preserved
take_record-loop-number-preserved t c =
    let run = c.args.run.now in
    let one = replay (before run c.args.table.now.finished) in
    let segments = c.args.run_record.now.segments in
    let n = c.loop-number.number in
    let same : c.as_slice-segment-items.result.now ≡ segments = c.as_slice-segment-items.ensures
    ∙ ap (λ m. m.segments) c.get.ensures in
    let within = subst (λ s. n < length s) same c.loop-number-test.true in
    let at = c.segment-item.is ∙ ap (λ s. get_or s n c.segment-item.result) same in
    elim c.match-segment.branch [
      | take_record-in-File+in_ok-of_record-in-File+in_ok-add-in-File w ↦
          ap (left one run (n + 1) segments) (w.journal-is ∙ (w.in_ok-add-in-File.ensures.ok
          ∙ ap (add c.loop-number.journal)
          (recorded_is c.args.run_record.now run n c.segment-item.result w.in-File.field-0
          w.in_ok-of_record-in-File.field-0 within at w.in-File.is
          w.in_ok-of_record-in-File.ensures)))
          ∙ (act_step one run segments n c.segment-item.result within at w.in-File.field-0
          c.loop-number.journal w.in-File.is ∙ c.loop-number.invariant)
      | take_record-in-Call+in_ok-take_called-in-Call w ↦
          ap (left one run (n + 1) segments) w.journal-is
          ∙ (call_step one run segments n c.segment-item.result within at w.in-Call.field-0
          w.in-Call.runs c.loop-number.journal w.take_called.new.journal w.in-Call.is
          (ap (λ rs. replays one (map replays_run rs) c.loop-number.journal)
          (sym w.as_slice.ensures) ∙ w.in_ok-take_called-in-Call.ensures)
          ∙ c.loop-number.invariant)
    ]

pub take_called-take_run-requires : goal.take_called-take_run-requires
take_called-take_run-requires t c =
    let table = c.args.table.now.finished in
    let outer = c.args.outer.now in
    let run = c.run-item.result in
    let journal = c.loop-run.journal in
    let goes_on : has (end_of run) journal ≡ false = search (rules, tests) in
    let defined = run_defined (replay (before outer table)) c.args.runs.now c.loop-run.run-index run
    c.loop-run-test.true c.run-item.is journal
    (subst (λ o. IsSome o) (sym c.loop-run.invariant) c.requires) in
    let there = replayed_in (before outer table) run journal goes_on defined in
    let fewer : length (before run table) < length (before outer table) = before_fewer table outer
    run c.each_once.ensures.finished_once there in (
      omega (arith, fewer),
      (
        goes_on,
        subst (λ o. IsSome o)
            (sym
            (replays_before table outer run journal c.each_once.ensures.finished_once goes_on
            there))
            defined,
      ),
    )

pub take_called-loop-run-preserved : goal.take_called-loop-run-preserved
take_called-loop-run-preserved t c =
    let table = c.args.table.now.finished in
    let outer = c.args.outer.now in
    let one = replay (before outer table) in
    let run = c.run-item.result in
    let journal = c.loop-run.journal in
    let runs = c.args.runs.now in
    let i = c.loop-run.run-index in
    let defined = run_defined one runs i run c.loop-run-test.true c.run-item.is journal
    (subst (λ o. IsSome o) (sym c.loop-run.invariant) c.requires) in
    elim c.if-not-has_ended.branch [
      | take_called-then-not-has_ended+in_ok-take_run w ↦ (
          let goes_on : has (end_of run) journal ≡ false = search (rules, tests) in
          let there = replayed_in (before outer table) run journal goes_on defined in
          ap (replays one (map replays_run (drop (i + 1) runs))) w.journal-is
          ∙ (run_step one runs i run c.loop-run-test.true c.run-item.is journal
          w.take_run.new.journal
          (sym
          (replays_before table outer run journal c.each_once.ensures.finished_once goes_on
          there) ∙ w.in_ok-take_run.ensures) ∙ c.loop-run.invariant))
      | take_called-else-not-has_ended w ↦
          ap (replays one (map replays_run (drop (i + 1) runs))) w.journal-is
          ∙ (run_step one runs i run c.loop-run-test.true c.run-item.is journal journal
          (replay-has (before outer table) run journal (search (rules, tests)))
          ∙ c.loop-run.invariant)
    ]
