use Rattle.std.proofs.Common.{◌++◌, refl, subst, ◌∙◌}
use Rattle.build_plain.specs.Driven.{Drives, IsTurn}
use Rattle.build_plain.specs.Used.{due}
use Rattle.build_plain.proofs.Driving.{drives-more, drives-none}
use Rattle.build_plain.proofs.Fronts.{front-self, front-trans}
use Rattle.build_plain.proofs.Using.{loop-uses, over-turn, uses-none, unless-any}
use Rattle.build_plain.proofs.alone.work.Goals as goal

pub loop-turn-preserved : goal.loop-turn-preserved
loop-turn-preserved g c =
    let m = g.W.Walker in
    let first = c.args.core.now in
    let before = c.loop-turn.core in
    let after = c.step-turn.new.core in
    let same = c.loop-turn.invariant.world in
    record {
      world = c.step-turn.ensures.world ∙ same;
      drives = drives-more (m.world_of first.world) first.history.events before.history.events
          after.history.events c.loop-turn.invariant.drives
          (subst (λ w. Drives w before.history.events after.history.events) same
          c.step-turn.ensures.drives);
      turn = subst
          (λ w. IsTurn m.seen w after.history.events after.table.finished after.end c.args.id
          c.step-turn.result) same c.step-turn.ensures.turn;
      uses = loop-uses m.seen (m.world_of first.world)
          (m.world_of before.world) first.history.events before.history.events after.history.events
          before.table.finished after.table.finished (m.used c.args.place.now
          ++ due (m.world_of first.world) first.table.finished (m.seen c.args.walk) c.args.answer)
          (m.used c.loop-turn.place) (m.used c.step-turn.new.place) c.in-GoesOn.walk
          c.in-GoesOn.answer c.loop-turn.turn c.step-turn.result before.end after.end same
          (subst (λ turn. IsTurn m.seen (m.world_of first.world) before.history.events
          before.table.finished before.end c.args.id turn) c.in-GoesOn.is
          c.loop-turn.invariant.turn).0 c.in-GoesOn.is c.loop-turn.invariant.uses
          c.step-turn.ensures.uses;
      front = front-trans (m.used c.args.place.now) (m.used c.loop-turn.place)
          (m.used c.step-turn.new.place) c.loop-turn.invariant.front c.step-turn.ensures.front;
      place = subst (m.Fits c.step-turn.new.place) same c.step-turn.ensures.place;
      lent = c.step-turn.ensures.lent ∙ c.loop-turn.invariant.lent;
    }

pub loop-turn-init : goal.loop-turn-init
loop-turn-init g c =
    let m = g.W.Walker in
    let first = c.args.core.now in
    record {
      world = refl;
      drives = drives-none (m.world_of first.world) first.history.events first.history.events refl;
      turn = (c.requires.running, c.requires.out, c.requires.only);
      uses = unless-any first.end _ ∣ uses-none (m.world_of first.world) first.history.events
          first.history.events _ refl ∣₁;
      front = front-self (m.used c.args.place.now);
      place = c.requires.place;
      lent = refl;
    }

pub returns-clause-uses : goal.returns-clause-uses
returns-clause-uses g c =
    let m = g.W.Walker in
    let first = c.args.core.now in
    let after = c.loop-turn.core in
    over-turn m.seen (m.world_of first.world) (m.world_of first.world) first.history.events
    after.history.events after.table.finished (m.used c.args.place.now
    ++ due (m.world_of first.world) first.table.finished (m.seen c.args.walk) c.args.answer)
    (m.used c.loop-turn.place) c.loop-turn.turn after.end c.in_default.is c.loop-turn.invariant.uses
