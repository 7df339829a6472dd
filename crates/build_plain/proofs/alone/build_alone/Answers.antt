use Rattle.std.proofs.Common.{refl, ap, sym, subst, ◌∙◌}
use Rattle.std.specs.Prelude.{not, option_copied}
use Rattle.build_plain.specs.Driven.{Drives, IsFree}
use Rattle.build_plain.proofs.Driving.{drives-more, drives-none, least-of, none-retired}
use Rattle.build_plain.proofs.Fronts.{front-self, front-trans}
use Rattle.build_plain.proofs.Using.{none-of, turns-uses, uses-none, unless-any}
use Rattle.build_plain.proofs.OneAtATime.{free-of, legal-of}
use Rattle.build_plain.proofs.alone.build_alone.Goals as goal

pub loop-core-preserved : goal.loop-core-preserved
loop-core-preserved g c =
    let m = g.W.Walker in
    let first = c.args.core.now in
    let before = c.loop-core.core in
    let after = c.take_turn.new.core in
    let same = c.loop-core.invariant.world in
    record {
      world = c.take_turn.ensures.world ∙ same;
      drives = drives-more (m.world_of first.world) first.history.events before.history.events
          after.history.events c.loop-core.invariant.drives
          (subst (λ w. Drives w before.history.events after.history.events) same
          c.take_turn.ensures.drives);
      free = subst (λ w. IsFree w after.history.events after.end) same c.take_turn.ensures.free;
      uses = λ none. turns-uses m.seen
          (m.world_of first.world) (m.world_of before.world) first.history.events
          before.history.events after.history.events
          (m.used c.args.place.now) (m.used c.loop-core.place) (m.used c.take_turn.new.place)
          before.end after.end same
          (sym c.end.ensures.end ∙ ap option_copied
          (none-of c.end.result (c.is_none.ensures ∙ ap not c.loop-core-test.true)))
          (c.loop-core.invariant.uses none)
          (c.take_turn.ensures.uses
          (none-retired (m.world_of first.world) first.history.events before.history.events
          c.loop-core.invariant.drives none));
      front = front-trans (m.used c.args.place.now) (m.used c.loop-core.place)
          (m.used c.take_turn.new.place) c.loop-core.invariant.front c.take_turn.ensures.front;
      place = subst (m.Fits c.take_turn.new.place) same c.take_turn.ensures.place;
      lent = c.take_turn.ensures.lent ∙ c.loop-core.invariant.lent;
    }

pub loop-core-init : goal.loop-core-init
loop-core-init g c =
    let m = g.W.Walker in
    let first = c.args.core.now in
    record {
      world = refl;
      drives = drives-none (m.world_of first.world) first.history.events first.history.events refl;
      free = free-of (m.world_of first.world) first.history.events first.end c.requires.free;
      uses = λ none. unless-any first.end _ ∣ uses-none (m.world_of first.world)
          first.history.events first.history.events _ refl ∣₁;
      front = front-self (m.used c.args.place.now);
      place = c.requires.place;
      lent = refl;
    }

pub returns-clause-legal : goal.returns-clause-legal
returns-clause-legal g c =
    let m = g.W.Walker in
    let core = c.loop-core.core in
    legal-of m.seen (m.world_of core.world) core.legal

pub returns-clause-least : goal.returns-clause-least
returns-clause-least g c more e =
    let m = g.W.Walker in
    let first = c.args.core.now in
    least-of (m.world_of first.world) first.history.events c.loop-core.core.history.events
    c.loop-core.invariant.drives more e
