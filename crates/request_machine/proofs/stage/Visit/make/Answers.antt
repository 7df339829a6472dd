use Rattle.std.proofs.Common.{
  ◌≡◌,
  [],
  IfOk,
  IsSome,
  None,
  option_map,
  option_copied,
  refl,
  sym,
  ap,
  ◌∙◌,
  subst,
}
use Rattle.std.proofs.lemmas.Result.{IfOk-weaker}
use Rattle.msb_values.specs.declared.scope.Scope.{Scope}
use Rattle.result_cache.specs.declared.run.RunId.{RunId}
use Rattle.build_meaning.specs.SoFar.{nothing_yet, recorded}
use Rattle.build_world.specs.Instances.{seen_instance, seen_target}
use Rattle.target_body.specs.States.{target_named}
use Rattle.request_machine.specs.RunStops.{IsFinished, Stops}
use Rattle.request_machine.specs.Runs.{run_in}
use Rattle.request_machine.specs.Worlds.{body_if, nothing_made}
use Rattle.target_body.proofs.Stepping.{begins_here}
use Rattle.request_machine.proofs.RunsMade.{finished_run, nothing_steps}
use Rattle.request_machine.proofs.stage.Visit.make.Goals as goal

pub begin-requires : goal.begin-requires
begin-requires g c =
    let targets = (seen_instance c.args.self.now.instance).targets in
    subst (λ run. IsSome (target_named targets run.target)) (sym c.in_ok-run.ensures)
    (subst (λ o. IsSome o) (sym (ap (λ r. option_map seen_target (option_copied r)) c.in-Some.is)
    ∙ c.target.ensures) refl)

pub returns-in-Some : goal.returns-in-Some
returns-in-Some g c =
    let answer = g.T.CountedTools.answer in
    let calls = g.T.CountedTools.calls in
    let w = c.args.world.now in
    let v = c.args.self.now in
    let targets = (seen_instance v.instance).targets in
    let before = c.args.journal.now in
    let after = c.begin.new.journal in
    let same = c.in_ok-run.ensures in
    record {
      goes = subst
          (λ (x : RunId × Scope). IfOk c.begin.result (λ run_stop.
          let target = target_named targets x.0.target in
          Stops answer calls w x.0 target (body_if w x.0 target x.1 before) nothing_yet before
          after c.args.tools.now c.begin.new.tools run_stop)) (λ i. (same i, c.scope.ensures i))
          c.begin.ensures.goes;
      tools = c.begin.ensures.tools;
      run = subst (λ run. IfOk c.begin.result (λ run_stop. run_in run run_stop.at ≡ run)) same
          c.begin.ensures.run;
    }

pub returns : goal.returns
returns g c =
    let answer = g.T.CountedTools.answer in
    let calls = g.T.CountedTools.calls in
    let w = c.args.world.now in
    let v = c.args.self.now in
    let run = v.run in
    let target = target_named (seen_instance v.instance).targets run.target in
    let journal = c.args.journal.now in
    let tools = c.args.tools.now in
    let noted = c.new-in-None.result in
    let absent : target ≡ None = sym c.target.ensures
    ∙ ap (λ r. option_map seen_target (option_copied r)) c.in-None.is in
    let is = subst (λ name. IfOk c.make_nothing.result
    (IsFinished name noted (recorded nothing_made [])))
    c.in_ok-run.ensures c.make_nothing.ensures in
    record {
      goes = IfOk-weaker c.make_nothing.result (IsFinished run noted (recorded nothing_made []))
          (Stops answer calls w run target (body_if w run target v.state.scope journal)
          nothing_yet journal journal tools tools)
          (λ run_stop is. nothing_steps answer calls w run target v.state.scope noted journal tools
          run_stop absent c.new-in-None.ensures is) is;
      tools = begins_here (calls tools);
      run = IfOk-weaker c.make_nothing.result (IsFinished run noted (recorded nothing_made []))
          (λ run_stop. run_in run run_stop.at ≡ run)
          (λ run_stop is. finished_run run noted run_stop is) is;
    }
