use Rattle.std.proofs.Common.{◌≡◌, ◌∙◌, subst, IfSome}
use Rattle.std.proofs.lemmas.Result.{IfOk-weaker}
use Rattle.build_world.specs.Instances.{seen_instance}
use Rattle.build_world.specs.declared.instance.Instance.{Instance as Made}
use Rattle.target_body.specs.Standings.{Goes, body_in, standing_in}
use Rattle.target_body.specs.States.{target_named}
use Rattle.request_machine.specs.RunStops.{IsRunStop, Plays}
use Rattle.request_machine.specs.Runs.{run_in}
use Rattle.request_machine.proofs.RunsMade.{step_run}
use Rattle.request_machine.proofs.Stopping.{all_begin, all_play, noted_uses}
use Rattle.request_machine.proofs.run.RunMaker.advance.Goals as goal

pub returns : goal.returns
returns g c =
    let answer = g.T.CountedTools.answer in
    let calls = g.T.CountedTools.calls in
    let w = c.args.self.now.world.now in
    let run = c.args.self.now.run.now in
    let targets = (seen_instance c.args.self.now.instance.now).targets in
    let results = c.args.results.now in
    let before = c.args.journal.now in
    let after = c.advance.new.journal in
    let old = c.args.tools.now in
    let new = c.advance.new.tools in
    let noted = c.args.uses.now in
    let then_noted = c.and-uses.result in
    let body = c.args.body in
    let then_body = c.advance.new.self in
    let ask = c.in_ok-ask.ask in
    let made = c.get-instance.result.now in
    let goes = subst (λ (i : Made). IfSome (target_named (seen_instance i).targets run.target)
    (λ target. Goes answer run (body_in w run target) (standing_in w run target body) results before
    after (calls old) (calls new) ask (standing_in w run target then_body)))
    c.get-instance.ensures
    (subst (λ id. IfSome (target_named (seen_instance made).targets id.target)
    (λ target. Goes answer id (body_in w id target) (standing_in w id target body) results before
    after (calls old) (calls new) ask (standing_in w id target then_body)))
    c.requires.run c.in_ok-ask.ensures.goes) in
    record {
      goes = IfOk-weaker c.stop.result (IsRunStop run then_body then_noted ask)
          (λ run_stop. IfSome (target_named targets run.target)
          (λ target. Plays answer calls w run target (standing_in w run target body) results before
          after old new noted run_stop))
          (λ run_stop is. all_play answer calls w run results before after old new noted then_noted
          body
          then_body ask run_stop (target_named targets run.target)
          (λ uses called. noted_uses calls noted then_noted c.note-before.result c.note.result old
          new
          uses c.and-uses.ensures c.note-before.ensures c.note.ensures called) is goes)
          c.stop.ensures;
      tools = all_begin answer w run (target_named targets run.target) body then_body results before
          after (calls old) (calls new) ask c.requires.target c.requires.fits goes;
      run = IfOk-weaker c.stop.result (IsRunStop run then_body then_noted ask)
          (λ run_stop. run_in run run_stop.at ≡ run)
          (λ run_stop is. step_run run then_body then_noted ask run_stop
          (c.advance.ensures.run ∙ c.requires.run) is) c.stop.ensures;
    }
