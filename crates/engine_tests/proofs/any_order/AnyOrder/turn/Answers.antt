use Rattle.std.proofs.Common.{subst, sym}
use Rattle.engine_tests.proofs.any_order.AnyOrder.turn.Goals as goal

pub advance-requires-clause-place : goal.advance-requires-clause-place
advance-requires-clause-place g c =
    subst (g.W.Walker.Fits c.args.place.now) (sym c.next_of.ensures.world) c.requires.place

pub returns-in-None : goal.returns-in-None
returns-in-None g c = record {
  place = subst (g.W.Walker.Fits c.args.place.now) (sym c.next_of.ensures.world) c.requires.place;
}
