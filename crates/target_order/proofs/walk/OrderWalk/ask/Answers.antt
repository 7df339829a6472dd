use Rattle.std.proofs.Common.{◌<◌, length, sym, subst}
use Rattle.target_order.specs.Search.{HasStopped}
use Rattle.target_order.proofs.Names.{number_below}
use Rattle.target_order.proofs.walk.OrderWalk.ask.Goals as goal

pub name-requires : goal.name-requires
name-requires c =
    let stops = subst (HasStopped c.args.self.now c.args.cursor) c.in-Visit.is c.requires.stopped in
    subst (λ q. c.in-Visit.target < length q.table.names) (sym c.self.view_is)
    (number_below _ _ _ stops.stands.number)
