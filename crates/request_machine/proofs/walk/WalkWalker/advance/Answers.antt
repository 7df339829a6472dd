use Rattle.std.proofs.Common.{Result, Ok, Err, OnErr, Some, IfSome, refl, sym, ap, ◌∙◌, subst}
use Rattle.request_machine.specs.Stages.{has_begun}
use Rattle.request_machine.specs.Former.{IsBefore}
use Rattle.request_machine.specs.Replayed.{IsReplayed}
use Rattle.request_machine.specs.WalkPosition.{request_position}
use Rattle.request_machine.proofs.WalksAnswered.{begins_used, in_turn, one_more}
use Rattle.request_machine.proofs.walk.WalkWalker.advance.Goals as goal

pub advance-requires : goal.advance-requires
advance-requires g c =
    let walk = c.args.self.now in
    record {
      fits = c.requires.fits;
      turn = in_turn walk.asked (has_begun walk.request.stage) c.args.answer.now walk.begun
          c.requires.turn;
      known = walk.known;
      place = c.requires.place;
    }

pub invariant_of-self : goal.invariant_of-self
invariant_of-self g c =
    let walk = c.args.self.now in
    let e = c.in_err-ask.ensures.err in
    record {
      begun = ap (λ r. has_begun r.stage) e ∙ walk.begun;
      fits = subst (λ r. ∥ IfSome walk.before (IsBefore r) ∥₁) (sym e) walk.fits;
      known = subst (λ r. ∥ IfSome walk.replayed (IsReplayed walk.learnt.finished r.journal) ∥₁)
          (sym e) walk.known;
    }

pub invariant_of-self-2 : goal.invariant_of-self-2
invariant_of-self-2 g c =
    let walk = c.args.self.now in
    let e = c.in_ok-ask.ensures in
    record {
      begun = e.begun ∙ sym (one_more walk.asked);
      fits = ∣ record { fits = e.former.fits; begun = sym e.former.begun ∙ walk.begun } ∣₁;
      known = ∣ tt ∣₁;
    }

always : {X E : Type 0} (r : Result X E) (P : Type 0) → P → OnErr r P
always (Ok x) P p = tt
always (Err e) P p = p

pub returns-in_err-ask-clause-stays : goal.returns-in_err-ask-clause-stays
returns-in_err-ask-clause-stays g c = always c.from_residual.result _
    (ap (request_position g.T.CountedTools.calls) c.in_err-ask.ensures.err)

pub returns-in_err-ask-clause-used_err : goal.returns-in_err-ask-clause-used_err
returns-in_err-ask-clause-used_err g c =
    always c.from_residual.result _ (begins_used (g.T.CountedTools.calls c.args.site.now.tools.now)
    (g.T.CountedTools.calls c.advance.new.site.tools.now) c.advance.ensures.tools)

pub returns : goal.returns
returns g c =
    let goes = c.in_ok-ask.ensures.goes in
    record {
      place = c.advance.ensures.place;
      lent = c.advance.ensures.lent;
      asks = goes.asks;
      goes_on = goes.goes_on;
      asked = refl;
      used = c.in_ok-ask.ensures.used;
      earlier = ap (λ p. Some (p, c.args.self.now.asked)) c.in_ok-ask.ensures.former.stood;
      stays = tt;
      asked_err = tt;
      used_err = tt;
      world = c.advance.ensures.world;
      learnt = refl;
    }
