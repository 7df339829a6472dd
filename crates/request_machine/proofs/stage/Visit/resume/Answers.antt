use Rattle.std.proofs.Common.{◌≡◌, IfOk, IfSome, IsSome, sym, ap, ◌∙◌, subst}
use Rattle.std.proofs.lemmas.Result.{IfOk-weaker}
use Rattle.build_world.specs.Instances.{seen_instance}
use Rattle.target_body.specs.Standings.{Fits, standing_in}
use Rattle.target_body.specs.States.{target_named}
use Rattle.request_machine.specs.RunStops.{Resumes, IsWaiting, Plays}
use Rattle.request_machine.specs.Positions.{halt_at, halt_of, uses_in}
use Rattle.request_machine.specs.Runs.{run_in}
use Rattle.request_machine.proofs.RunsMade.{plays_on, waits_fits, waits_there}
use Rattle.request_machine.proofs.stage.Visit.resume.Goals as goal

pub advance-requires : goal.advance-requires
advance-requires g c =
    let answer = g.T.CountedTools.answer in
    let calls = g.T.CountedTools.calls in
    let w = c.args.world.now in
    let v = c.args.self.now in
    let run = v.run in
    let targets = (seen_instance v.instance).targets in
    let target = target_named targets run.target in
    let results = c.args.results.now in
    let body = c.in-Called.body in
    let copy = c.in_ok-copy-in-Called.copy in
    let uses = uses_in calls c.in-Called.uses in
    let named = sym c.in_ok-run-in-Called.ensures in
    let own : copy.run ≡ run = ap (λ b. b.run) c.in_ok-copy-in-Called.ensures
    ∙ subst (λ at. run_in run at ≡ run) c.in-Called.is v.own_body in
    let same = sym own ∙ named in
    let waiting : IsWaiting (halt_of w run body uses target) results = subst
    (λ at. IsWaiting (halt_at calls w run target at) results) c.in-Called.is c.requires in
    record {
      run = named;
      target = subst (λ r. IsSome (target_named targets r.target)) same
          (waits_there answer calls w run target body uses results waiting);
      fits = subst
          (λ r. IfSome (target_named targets r.target) (λ t. Fits (standing_in w r t copy) results))
          same
          (subst (λ b. IfSome target (λ t. Fits (standing_in w run t b) results))
          (sym c.in_ok-copy-in-Called.ensures)
          (waits_fits answer calls w run target body uses results waiting));
    }

pub returns : goal.returns
returns g c =
    let answer = g.T.CountedTools.answer in
    let calls = g.T.CountedTools.calls in
    let w = c.args.world.now in
    let v = c.args.self.now in
    let run = v.run in
    let targets = (seen_instance v.instance).targets in
    let target = target_named targets run.target in
    let results = c.args.results.now in
    let before = c.args.journal.now in
    let after = c.advance.new.journal in
    let old = c.args.tools.now in
    let new = c.advance.new.tools in
    let body = c.in-Called.body in
    let noted = c.in-Called.uses in
    let copy = c.in_ok-copy-in-Called.copy in
    let same = c.in_ok-run-in-Called.ensures ∙ (ap (λ b. b.run) c.in_ok-copy-in-Called.ensures
    ∙ subst (λ at. run_in run at ≡ run) c.in-Called.is v.own_body) in
    let goes = subst (λ r. IfOk c.advance.result (λ run_stop. IfSome (target_named targets r.target)
    (λ t. Plays answer calls w r t (standing_in w r t copy) results before after old new noted
    run_stop)))
    same c.advance.ensures.goes in
    record {
      goes = IfOk-weaker c.advance.result
          (λ run_stop.
          IfSome target
          (λ t. Plays answer calls w run t (standing_in w run t copy) results before after old new
          noted run_stop))
          (λ run_stop. Resumes answer calls w run target (halt_at calls w run target v.at)
          results
          before after old new run_stop)
          (λ run_stop plays.
          subst
          (λ at. Resumes answer calls w run target (halt_at calls w run target at) results
          before after old new run_stop) (sym c.in-Called.is)
          (plays_on answer calls w run target body noted results before after old new run_stop
          (subst
          (λ b.
          IfSome target
          (λ t. Plays answer calls w run t (standing_in w run t b) results before after old new
          noted run_stop)) c.in_ok-copy-in-Called.ensures plays))) goes;
      tools = c.advance.ensures.tools;
      run = subst (λ r. IfOk c.advance.result (λ run_stop. run_in r run_stop.at ≡ r)) same
          c.advance.ensures.run;
    }
