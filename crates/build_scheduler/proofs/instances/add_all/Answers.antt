use Rattle.std.proofs.lemmas.Result.{err_from_is_err_and}
use Rattle.build_scheduler.proofs.InstanceCounts.{grown-more, not-added}
use Rattle.build_scheduler.proofs.instances.add_all.Goals as goal

pub returns-in_err-add_one : goal.returns-in_err-add_one
returns-in_err-add_one c =
    let p = err_from_is_err_and c.from_residual.result c.from_residual.ensures.1 in
    rw (p.1, p.2)
    (not-added c.args.seen.now.keys c.loop-call.seen.keys c.add_one.new.seen.keys
    c.args.calls.now c.loop-call.call-index c.call-item.result _ c.loop-call-test.true
    c.call-item.is c.loop-call.invariant.grown c.loop-call.invariant.few
    c.in_err-add_one.ensures)

pub loop-call-preserved : goal.loop-call-preserved
loop-call-preserved c = record {
  grown = grown-more c.args.seen.now.keys c.loop-call.seen.keys c.add_one.new.seen.keys
      c.args.calls.now c.loop-call.call-index c.call-item.result c.loop-call-test.true
      c.call-item.is c.loop-call.invariant.grown c.in_ok-add_one.ensures.0;
  few = c.in_ok-add_one.ensures.1;
}
