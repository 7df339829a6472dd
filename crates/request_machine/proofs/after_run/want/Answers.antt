use Rattle.std.proofs.Common.{Some, refl, sym, ap, ◌∙◌, subst}
use Rattle.request_machine.specs.AfterRuns.{TakenOn}
use Rattle.request_machine.specs.Visited.{seen_stage}
use Rattle.request_machine.specs.declared.after_run.OrderStep.{OrderStep}
use Rattle.request_machine.specs.declared.stage.Stage.TheVariants.{Visits}
use Rattle.request_machine.specs.declared.order.NextStop.TheVariants.{Wants}
use Rattle.request_machine.proofs.Starting.{wants_stands}
use Rattle.request_machine.proofs.after_run.want.Goals as goal

pub returns : goal.returns
returns g c =
    let e = c.replace.ensures in
    let n = c.replace.new.visit in
    let f : OrderStep = record
    { state = c.args.state; order = c.args.order; next_stop = Wants c.args.target } in
    record {
      taken = subst (λ s. TakenOn s f (Visits n)) (sym c.in-Visits.is)
          (λ key own. wants_stands key n c.in-Visits.visit.instance f.state f.order n.run
          f.next_stop
          e.instance e.state e.order refl e.at (ap Wants (sym e.target)) (e.own ∙ own));
      before = ap Some e.before ∙ sym (ap seen_stage c.in-Visits.is);
    }
