use Rattle.build_scheduler.proofs.scheduler.Core.drop.Goals as goal

pub invariant_of-self : goal.invariant_of-self
invariant_of-self g c =
    let self = c.args.self in
    record {
      legal = self.legal;
      indexed = self.indexed;
      counted = self.counted;
      active = self.active;
      few = self.few;
      nested = self.nested;
      stops = self.stops;
      kept_so = self.kept_so;
      behind = self.behind;
    }
