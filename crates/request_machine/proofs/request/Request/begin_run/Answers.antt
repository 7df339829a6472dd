use Rattle.std.proofs.Common.{◌≡◌, [], ◌++◌, map, refl, sym, ap, ◌∙◌, subst}
use Rattle.build_scheduler.specs.Position.{used_between}
use Rattle.build_scheduler.specs.declared.walker.Answer.TheVariants.{Go}
use Rattle.target_body.specs.Standings.{tool_use}
use Rattle.request_machine.specs.Answered.{Advances, WantsRun}
use Rattle.request_machine.specs.Stages.{instance_in}
use Rattle.request_machine.specs.StoppedBodies.{HasMadeRun, IsMade}
use Rattle.request_machine.specs.Positions.{place_of, position_of}
use Rattle.request_machine.specs.WalkPosition.{request_position}
use Rattle.request_machine.specs.Worlds.{world_of}
use Rattle.request_machine.specs.declared.stage.Stage.TheVariants.{Visits}
use Rattle.request_machine.specs.declared.stage.Visit.{Visit}
use Rattle.request_machine.specs.Former.{IsVisitOf, body_before, place_seen}
use Rattle.request_machine.specs.AfterRuns.{IsVisit}
use Rattle.request_machine.proofs.PutBack.{wants_visit}
use Rattle.request_machine.proofs.PlacesAnswered.{made_goes, made_used, wanted_is}
use Rattle.request_machine.proofs.request.Request.begin_run.Goals as goal

pub stop_body-requires : goal.stop_body-requires
stop_body-requires g c =
    let answer = g.T.CountedTools.answer in
    let calls = g.T.CountedTools.calls in
    let r = c.args.self.now in
    let visits = wants_visit r.stage c.requires in
    let v = visits.0 in
    let stopped = c.in_ok-stopped.stopped in
    let made : HasMadeRun answer calls r.world.now v r.journal stopped.journal c.args.tools.now
    c.make_run.new.tools stopped.run_stop = subst
    (λ s. IsMade answer calls r.world.now s r.journal stopped.journal c.args.tools.now
    c.make_run.new.tools stopped.run_stop) visits.1 c.in_ok-stopped.ensures.stopped in
    record {
      visits = subst IsVisit (sym visits.1) tt;
      fits = ∣ subst (λ s. IsVisitOf r.key.instance (body_before s stopped.run_stop.at))
          (sym visits.1) (
            v.asks_body,
            made.own,
            subst (λ s. instance_in r.key.instance s ≡ r.key.instance) visits.1 r.own_run,
          ) ∣₁;
    }

pub returns : goal.returns
returns g c =
    let answer = g.T.CountedTools.answer in
    let calls = g.T.CountedTools.calls in
    let r = c.args.self.now in
    let w = r.world.now in
    let key = r.key in
    let visits = wants_visit r.stage c.requires in
    let v = visits.0 in
    let run_stop = c.in_ok-stopped.stopped.run_stop in
    let next = c.in_ok-stopped.stopped.journal in
    let old = c.args.tools.now in
    let new = c.make_run.new.tools in
    let own : v.run.instance ≡ key.instance = subst (λ s. instance_in key.instance s ≡ key.instance)
    visits.1 r.own_run in
    let wanted = wanted_is v.at (subst WantsRun visits.1 c.requires) in
    let made : HasMadeRun answer calls w v r.journal next old new run_stop = subst
    (λ s. IsMade answer calls w s r.journal next old new run_stop) visits.1
    c.in_ok-stopped.ensures.stopped in
    let n : Visit g.row.T.Denot = record {
      instance = v.instance;
      state = v.state;
      order = v.order;
      run = v.run;
      at = run_stop.at;
      asks_body = v.asks_body;
      own_body = made.own;
    } in
    let e = c.stop_body.ensures in
    let position : request_position calls c.stop_body.new.self
    ≡ position_of calls w key next r.runs (Visits n) =
    e.stands
    ∙ ap
    (λ s. record {
      journal = next;
      runs = r.runs;
      place = place_seen calls w key next (body_before s run_stop.at);
    }) visits.1 in
    record {
      goes = λ table.
          subst
          (λ p. Advances (world_of answer w) table (request_position calls r) p Go
          c.stop_body.result.ask) (sym position)
          (subst
          (λ ask. Advances (world_of answer w) table (request_position calls r)
          (position_of calls w key next r.runs (Visits n)) Go ask) (sym e.asks)
          (subst
          (λ s. Advances (world_of answer w) table (position_of calls w key r.journal r.runs s)
          (position_of calls w key next r.runs (Visits n)) Go run_stop.ask) (sym visits.1)
          (made_goes answer calls w key v own table r.journal next r.runs n old new run_stop refl
          wanted made.steps)));
      used = subst (λ p. map tool_use (calls new)
          ≡ map tool_use (calls old) ++ used_between (place_of calls w key r.journal r.stage)
          p.place) (sym position)
          (subst (λ s. map tool_use (calls new)
          ≡ map tool_use (calls old) ++ used_between (place_of calls w key r.journal s)
          (place_of calls w key next (Visits n))) (sym visits.1)
          (made_used answer calls w key v own [] r.journal next r.runs n old new run_stop refl
          wanted made.steps));
      begun = e.begun;
      world = e.world;
      former = e.former;
      tools = c.make_run.ensures.tools;
      err = tt;
    }
