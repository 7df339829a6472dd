use Rattle.std.proofs.Common.{◌≡◌, refl, sym, ap, ◌∙◌, subst}
use Rattle.build_scheduler.specs.Position.{used_between}
use Rattle.build_scheduler.specs.declared.walker.Answer.TheVariants.{Use}
use Rattle.request_machine.specs.Answered.{Advances}
use Rattle.request_machine.specs.Positions.{place_of, position_of}
use Rattle.request_machine.specs.Worlds.{world_of}
use Rattle.request_machine.specs.Former.{IsVisitOf, place_seen}
use Rattle.request_machine.specs.Visited.{seen_stage}
use Rattle.request_machine.proofs.PutBack.{made_begun, own_visit, shown_position}
use Rattle.request_machine.proofs.StagesTaken.{
  after_begun,
  after_goes,
  after_own,
  after_ready,
  after_used,
  made_visits,
}
use Rattle.request_machine.proofs.request.Request.use_record.Goals as goal

pub take-visit-requires : goal.take-visit-requires
take-visit-requires g c =
    let r = c.args.self.now in
    let table = c.args.learnt.now.finished in
    record {
      visits = made_visits table r.journal r.stage c.requires;
      ready = after_ready r.world.now r.key table r.journal r.runs r.stage c.in_ok-step.field-0
          c.requires c.in_ok-step.ensures;
    }

pub invariant_of-self : goal.invariant_of-self
invariant_of-self g c =
    let r = c.args.self.now in
    let table = c.args.learnt.now.finished in
    record {
      own_run = after_own r.world.now r.key table r.journal r.runs r.stage
          c.take-visit.new.stage c.in_ok-step.field-0 r.own_run c.requires
          c.take-visit.ensures.taken;
      known = r.known;
    }

pub returns : goal.returns
returns g c =
    let answer = g.T.CountedTools.answer in
    let calls = g.T.CountedTools.calls in
    let r = c.args.self.now in
    let w = r.world.now in
    let key = r.key in
    let table = c.args.learnt.now.finished in
    let a = c.in_ok-step.field-0 in
    let new = c.take-visit.new.stage in
    let then_journal = c.replace-journal.new.dest in
    let then_runs = c.replace-runs.new.dest in
    let taken = c.take-visit.ensures.taken in
    let position : position_of calls w key then_journal then_runs new
    ≡ position_of calls w key a.journal a.runs new =
    ap (λ j. position_of calls w key j then_runs new) c.replace-journal.ensures.after
    ∙ ap (λ rs. position_of calls w key a.journal rs new) c.replace-runs.ensures.after in
    let visit = own_visit r.stage key.instance (made_visits table r.journal r.stage c.requires)
    r.own_run in
    record {
      goes = subst
          (λ p. Advances (world_of answer w) table
          (position_of calls w key r.journal r.runs r.stage)
          p Use a.ask) (sym position)
          (after_goes w key table r.journal r.runs answer calls r.stage new a r.own_run c.requires
          c.in_ok-step.ensures taken);
      used = ap
          (λ j. used_between (place_of calls w key r.journal r.stage) (place_of calls w key j new))
          c.replace-journal.ensures.after
          ∙ after_used w key table r.journal r.runs answer calls r.stage new a r.own_run c.requires
          c.in_ok-step.ensures taken;
      begun = after_begun w key table r.journal r.runs r.stage new a r.own_run c.requires taken;
      world = refl;
      former = record {
        fits = subst (IsVisitOf key.instance) (sym c.take-visit.ensures.before) visit;
        begun = made_begun table r.journal r.stage c.requires;
        stood =
            ap
            (λ o.
            record {
              journal = c.replace-journal.result;
              runs = c.replace-runs.result;
              place =
                  place_seen calls w key c.replace-journal.result o;
            }) c.take-visit.ensures.before
            ∙ (ap
            (λ j.
            record {
              journal = j;
              runs = c.replace-runs.result;
              place = place_seen calls w key j
                  (seen_stage r.stage);
            }) c.replace-journal.ensures.value
            ∙ (ap
            (λ rs.
            record {
              journal = r.journal;
              runs = rs;
              place = place_seen calls w key r.journal
                  (seen_stage r.stage);
            }) c.replace-runs.ensures.value
            ∙ sym
            (shown_position calls w key r.journal r.runs r.stage (seen_stage r.stage)
            key.instance refl ∣ visit ∣₁)));
      };
      err = tt;
    }
