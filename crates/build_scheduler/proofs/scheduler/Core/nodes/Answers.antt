use Rattle.std.proofs.Common.{refl, arith}
use Rattle.std.proofs.Math.Logic.{∥∥₁_map}
use Rattle.build_scheduler.proofs.Behind.{behind-same}
use Rattle.build_scheduler.proofs.Rooms.{room-shown, room-stops}
use Rattle.build_scheduler.proofs.scheduler.Core.nodes.Goals as goal

pub invariant_of-self : goal.invariant_of-self
invariant_of-self g c =
    let m = g.W.Walker in
    let self = c.args.self.now in
    let seen = m.seen in
    let w = m.world_of self.world in
    let set = c.set_nodes.ensures in
    record {
      legal = ∥∥₁_map self.legal (λ x.
          room-shown seen w set.events (omega (arith, set.room)) refl refl refl x);
      indexed = self.indexed;
      counted = self.counted;
      active = set.active;
      few = self.few;
      nested = self.nested;
      stops = room-stops w self.end set.events self.stops;
      kept_so = self.kept_so;
      behind = behind-same seen w set.events refl self.behind;
    }
