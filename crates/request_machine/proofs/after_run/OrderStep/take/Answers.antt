use Rattle.std.proofs.Common.{sym, subst}
use Rattle.request_machine.specs.AfterRuns.{TakenOn}
use Rattle.request_machine.proofs.StagesTaken.{over_taken}
use Rattle.request_machine.proofs.after_run.OrderStep.take.Goals as goal

pub returns-in-Wants : goal.returns-in-Wants
returns-in-Wants g c =
    let f = c.args.self in
    let old = c.args.stage.now in
    let new = c.want.new.stage in
    record {
      taken = subst
          (λ next_stop.
          TakenOn old (record { state = f.state; order = f.order; next_stop = next_stop }) new)
          (sym c.in-Wants.is) c.want.ensures.taken;
      before = c.want.ensures.before;
    }

pub returns-in-Over : goal.returns-in-Over
returns-in-Over g c = record {
  taken = over_taken c.args.stage.now c.end_request.new.stage c.args.self c.in-Over.reply
      c.in-Over.is c.end_request.ensures.over;
  before = c.end_request.ensures.before;
}
