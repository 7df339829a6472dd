use Rattle.std.proofs.Common.{refl, sym, ap, ◌∙◌, subst}
use Rattle.std.proofs.Math.Logic.{∥∥₁_map}
use Rattle.request_machine.specs.Former.{IsVisitOf, body_before, place_seen}
use Rattle.request_machine.specs.Visited.{seen_stage}
use Rattle.request_machine.proofs.PutBack.{
  own_visit,
  shown_begun,
  shown_own,
  shown_position,
  visit_begun,
}
use Rattle.request_machine.proofs.request.Request.stop_body.Goals as goal

pub replace_body-at-requires : goal.replace_body-at-requires
replace_body-at-requires g c = record {
  visits = c.requires.visits;
  fits = ∥∥₁_map c.requires.fits (λ fits. (c.args.self.now.key.instance, fits));
}

pub invariant_of-self : goal.invariant_of-self
invariant_of-self g c =
    let r = c.args.self.now in
    record {
      own_run = shown_own c.replace_body-at.new.stage
          (body_before r.stage c.args.stopped.run_stop.at) r.key.instance
          c.replace_body-at.ensures.now c.requires.fits;
      known = r.known;
    }

pub returns : goal.returns
returns g c =
    let calls = g.T.CountedTools.calls in
    let r = c.args.self.now in
    let w = r.world.now in
    let key = r.key in
    let stopped = c.args.stopped in
    let stage = c.replace_body-at.new.stage in
    let visit = body_before r.stage stopped.run_stop.at in
    let shows = c.replace_body-at.ensures.now in
    let old : IsVisitOf key.instance (seen_stage r.stage) = own_visit r.stage key.instance
    c.requires.visits r.own_run in
    record {
      asks = refl;
      stands = shown_position calls w key c.replace-journal.new.dest r.runs stage visit key.instance
          shows c.requires.fits
          ∙ ap
          (λ j. record {
            journal = j;
            runs = r.runs;
            place = place_seen calls w key j visit;
          }) c.replace-journal.ensures.after;
      begun = shown_begun stage visit key.instance shows c.requires.fits;
      world = refl;
      former = record {
        fits = subst (IsVisitOf key.instance) (sym c.replace_body-at.ensures.before) old;
        begun = visit_begun r.stage c.requires.visits;
        stood =
            ap
            (λ o. record {
              journal = c.replace-journal.result;
              runs = r.runs;
              place = place_seen calls w key c.replace-journal.result o;
            }) c.replace_body-at.ensures.before
            ∙ (ap
            (λ j. record {
              journal = j;
              runs = r.runs;
              place = place_seen calls w key j (seen_stage r.stage);
            }) c.replace-journal.ensures.value
            ∙ sym
            (shown_position calls w key r.journal r.runs r.stage (seen_stage r.stage) key.instance
            refl ∣ old ∣₁));
      };
    }
