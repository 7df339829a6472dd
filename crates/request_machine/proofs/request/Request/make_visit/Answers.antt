use Rattle.std.proofs.Common.{subst}
use Rattle.build_meaning.specs.SoFar.{nothing_yet}
use Rattle.build_world.specs.Instances.{seen_instance}
use Rattle.target_body.specs.States.{target_named}
use Rattle.request_machine.specs.RunStops.{Stops}
use Rattle.request_machine.specs.Worlds.{body_if}
use Rattle.request_machine.proofs.request.Request.make_visit.Goals as goal

pub returns : goal.returns
returns g c =
    let w = c.args.self.now.world.now in
    let v = c.args.visit.now in
    let target = target_named (seen_instance v.instance).targets v.run.target in
    record {
      stopped = record {
        steps = subst
            (λ j. Stops g.T.CountedTools.answer g.T.CountedTools.calls w v.run target
            (body_if w v.run target v.state.scope j) nothing_yet j c.make.new.journal
            c.args.tools.now c.make.new.tools c.in_ok-run_stop.run_stop)
            c.in_ok-journal.ensures c.in_ok-run_stop.ensures.goes;
        own = c.in_ok-run_stop.ensures.run;
      };
      tools = c.make.ensures.tools;
    }
