use Rattle.std.proofs.Common.{◌∙◌, refl, subst, sym}
use Rattle.build_steady.specs.Held.{IsCheckStep}
use Rattle.build_steady.proofs.Holding.{own-turn, turn-own}
use Rattle.build_steady.proofs.Begun.{begins_same, begins_then}
use Rattle.build_steady.proofs.checking.check_walk.Goals as goal

pub loop-check-init : goal.loop-check-init
loop-check-init g c = record {
  turn = c.in_ok-next.ensures.turn;
  front = begins_same (g.W.Walker.used c.args.place.now);
  place = c.requires.place;
  lent = refl;
}

pub step-requires-clause-turn : goal.step-requires-clause-turn
step-requires-clause-turn g c =
    let m = g.W.Walker in
    let seen = m.seen in
    let w = (m.seen c.args.walk).world in
    own-turn seen w c.loop-check.check c.in-GoesOn.walk c.in-GoesOn.answer
    (subst (IsCheckStep seen w c.loop-check.check) c.in-GoesOn.is c.loop-check.invariant.turn)

pub step-requires-clause-place : goal.step-requires-clause-place
step-requires-clause-place g c =
    let m = g.W.Walker in
    let seen = m.seen in
    let w = (m.seen c.args.walk).world in
    let turn =
    subst (IsCheckStep seen w c.loop-check.check) c.in-GoesOn.is c.loop-check.invariant.turn in
    subst (m.Fits c.loop-check.place) (sym turn.2.world) c.loop-check.invariant.place

pub loop-check-preserved : goal.loop-check-preserved
loop-check-preserved g c =
    let m = g.W.Walker in
    let seen = m.seen in
    let w = (m.seen c.args.walk).world in
    let turn =
    subst (IsCheckStep seen w c.loop-check.check) c.in-GoesOn.is c.loop-check.invariant.turn in
    record {
      turn = turn-own seen w c.loop-check.check c.step.new.self c.in-GoesOn.walk c.in-GoesOn.answer
          _
          turn c.in_ok-next-in-GoesOn.ensures.turn;
      front = begins_then _ _ _ c.loop-check.invariant.front c.step.ensures.front;
      place = subst (m.Fits c.step.new.place) turn.2.world c.step.ensures.place;
      lent = c.step.ensures.lent ∙ c.loop-check.invariant.lent;
    }

pub returns-in-Over-clause-verdict : goal.returns-in-Over-clause-verdict
returns-in-Over-clause-verdict g c =
    let m = g.W.Walker in
    let seen = m.seen in
    let w = (m.seen c.args.walk).world in
    subst (IsCheckStep seen w c.loop-check.check) c.in-Over.is c.loop-check.invariant.turn
