use Rattle.std.proofs.Common.{IfSome}
use Rattle.std.proofs.lemmas.Result.{IfOk-weaker}
use Rattle.build_meaning.specs.SoFar.{nothing_yet}
use Rattle.build_world.specs.Instances.{seen_instance}
use Rattle.target_body.specs.Standings.{standing_in}
use Rattle.target_body.specs.States.{target_named}
use Rattle.request_machine.specs.RunStops.{Plays, Stops}
use Rattle.request_machine.specs.Worlds.{body_if}
use Rattle.request_machine.proofs.RunsMade.{begins_fits, begins_steps}
use Rattle.request_machine.proofs.run.RunMaker.begin.Goals as goal

pub advance-requires : goal.advance-requires
advance-requires g c =
    let w = c.args.self.now.world.now in
    let run = c.args.self.now.run.now in
    let target = target_named (seen_instance c.args.self.now.instance.now).targets run.target in
    record {
      run = c.in_ok-body.ensures.run;
      target = c.requires;
      fits = begins_fits g.T.CountedTools.answer g.T.CountedTools.calls w run target
          c.args.scope.now c.in_ok-body.body c.new-none.result c.new-none.ensures
          c.in_ok-body.ensures.begins;
    }

pub returns-clause-goes : goal.returns-clause-goes
returns-clause-goes g c =
    let answer = g.T.CountedTools.answer in
    let calls = g.T.CountedTools.calls in
    let w = c.args.self.now.world.now in
    let run = c.args.self.now.run.now in
    let target = target_named (seen_instance c.args.self.now.instance.now).targets run.target in
    let scope = c.args.scope.now in
    let before = c.args.journal.now in
    let after = c.advance.new.journal in
    let old = c.args.tools.now in
    let new = c.advance.new.tools in
    let noted = c.new.result in
    let body = c.in_ok-body.body in
    let none = c.new-none.result in
    IfOk-weaker c.advance.result
    (λ run_stop.
    IfSome target
    (λ t. Plays answer calls w run t (standing_in w run t body) none before after old new noted
    run_stop))
    (Stops answer calls w run target (body_if w run target scope before) nothing_yet before after
    old new)
    (λ run_stop plays. begins_steps answer calls w run target scope body noted none before after old
    new
    run_stop c.new.ensures c.in_ok-body.ensures.begins c.requires plays) c.advance.ensures.goes
