use Rattle.std.proofs.Common.{◌≡◌, ◌++◌, map, refl, sym, ap, ◌∙◌, subst}
use Rattle.build_scheduler.specs.Position.{used_between}
use Rattle.build_scheduler.specs.declared.walker.Answer.TheVariants.{Results}
use Rattle.build_world.specs.Instances.{seen_instance}
use Rattle.target_body.specs.Standings.{tool_use}
use Rattle.target_body.specs.States.{target_named}
use Rattle.request_machine.specs.Answered.{Advances, WaitsFor}
use Rattle.request_machine.specs.Stages.{instance_in}
use Rattle.request_machine.specs.StoppedBodies.{HasResumedRun, IsResumed}
use Rattle.request_machine.specs.Positions.{halt_at, place_of, position_of}
use Rattle.request_machine.specs.WalkPosition.{request_position}
use Rattle.request_machine.specs.Worlds.{world_of}
use Rattle.request_machine.specs.declared.stage.Stage.TheVariants.{Visits}
use Rattle.request_machine.specs.declared.stage.Visit.{Visit}
use Rattle.request_machine.specs.Former.{IsVisitOf, body_before, place_seen}
use Rattle.request_machine.specs.AfterRuns.{IsVisit}
use Rattle.request_machine.proofs.PutBack.{waits_visit}
use Rattle.request_machine.proofs.PlacesAnswered.{results_go, results_used}
use Rattle.request_machine.proofs.request.Request.take_results.Goals as goal

pub stop_body-requires : goal.stop_body-requires
stop_body-requires g c =
    let answer = g.T.CountedTools.answer in
    let calls = g.T.CountedTools.calls in
    let r = c.args.self.now in
    let w = r.world.now in
    let table = c.args.learnt.now.finished in
    let results = c.args.results.now in
    let visits = waits_visit calls w results r.stage c.requires.waits in
    let v = visits.0 in
    let stopped = c.in_ok-stopped.stopped in
    let resumed : HasResumedRun answer calls w table results v r.journal stopped.journal
    c.args.tools.now c.resume.new.tools stopped.run_stop = subst
    (λ s. IsResumed answer calls w table results s r.journal stopped.journal c.args.tools.now
    c.resume.new.tools stopped.run_stop) visits.1 c.in_ok-stopped.ensures.stopped in
    record {
      visits = subst IsVisit (sym visits.1) tt;
      fits = ∣ subst (λ s. IsVisitOf r.key.instance (body_before s stopped.run_stop.at))
          (sym visits.1) (
            v.asks_body,
            resumed.own,
            subst (λ s. instance_in r.key.instance s ≡ r.key.instance) visits.1 r.own_run,
          ) ∣₁;
    }

pub returns : goal.returns
returns g c =
    let answer = g.T.CountedTools.answer in
    let calls = g.T.CountedTools.calls in
    let r = c.args.self.now in
    let w = r.world.now in
    let key = r.key in
    let table = c.args.learnt.now.finished in
    let results = c.args.results.now in
    let visits = waits_visit calls w results r.stage c.requires.waits in
    let v = visits.0 in
    let run_stop = c.in_ok-stopped.stopped.run_stop in
    let next = c.in_ok-stopped.stopped.journal in
    let old = c.args.tools.now in
    let new = c.resume.new.tools in
    let own : v.run.instance ≡ key.instance = subst (λ s. instance_in key.instance s ≡ key.instance)
    visits.1 r.own_run in
    let waiting = subst (WaitsFor calls w results) visits.1 c.requires.waits in
    let halt = halt_at calls w v.run (target_named (seen_instance v.instance).targets v.run.target)
    v.at in
    let resumed : HasResumedRun answer calls w table results v r.journal next old new run_stop =
    subst
    (λ s. IsResumed answer calls w table results s r.journal next old new run_stop) visits.1
    c.in_ok-stopped.ensures.stopped in
    let n : Visit g.row.T.Denot = record {
      instance = v.instance;
      state = v.state;
      order = v.order;
      run = v.run;
      at = run_stop.at;
      asks_body = v.asks_body;
      own_body = resumed.own;
    } in
    let e = c.stop_body.ensures in
    let position : request_position calls c.stop_body.new.self
    ≡ position_of calls w key next r.runs (Visits n) =
    e.stands
    ∙ ap
    (λ s. record {
      journal = next;
      runs = r.runs;
      place = place_seen calls w key next (body_before s run_stop.at);
    }) visits.1 in
    record {
      goes = subst
          (λ p. Advances (world_of answer w) table (request_position calls r) p (Results results)
          c.stop_body.result.ask) (sym position)
          (subst
          (λ ask. Advances (world_of answer w) table (request_position calls r)
          (position_of calls w key next r.runs (Visits n)) (Results results) ask) (sym e.asks)
          (subst
          (λ s. Advances (world_of answer w) table (position_of calls w key r.journal r.runs s)
          (position_of calls w key next r.runs (Visits n)) (Results results) run_stop.ask)
          (sym visits.1)
          (results_go answer calls w key v own table r.journal next r.runs n old new run_stop refl
          resumed.replayed results resumed.is halt refl waiting resumed.goes)));
      used = subst (λ p. map tool_use (calls new)
          ≡ map tool_use (calls old) ++ used_between (place_of calls w key r.journal r.stage)
          p.place) (sym position)
          (subst (λ s. map tool_use (calls new)
          ≡ map tool_use (calls old) ++ used_between (place_of calls w key r.journal s)
          (place_of calls w key next (Visits n))) (sym visits.1)
          (results_used answer calls w key v own table r.journal next r.runs n old new run_stop refl
          resumed.replayed results resumed.is halt refl waiting resumed.goes));
      begun = e.begun;
      world = e.world;
      former = e.former;
      tools = c.resume.ensures.tools;
      err = tt;
    }
