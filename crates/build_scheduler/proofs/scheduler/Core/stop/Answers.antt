use Rattle.std.proofs.Math.Logic.{∥∥₁_map}
use Rattle.build_scheduler.proofs.Stopping.{shows-stop, stopped-shown}
use Rattle.build_scheduler.proofs.scheduler.Core.stop.Goals as goal

pub invariant_of-self : goal.invariant_of-self
invariant_of-self g c =
    let m = g.W.Walker in
    let self = c.args.self.now in
    record {
      legal = ∥∥₁_map self.legal
          (λ x. stopped-shown m.seen (m.world_of self.world) c.args.end c.requires.shown x);
      indexed = self.indexed;
      counted = self.counted;
      active = self.active;
      few = self.few;
      nested = self.nested;
      stops = ∣ shows-stop (m.world_of self.world) self.history.events c.args.end c.requires.shown
          ∣₁;
      kept_so = self.kept_so;
      behind = self.behind;
    }
