use Rattle.std.proofs.Common.{◌∙◌, sym, subst}
use Rattle.std.proofs.Math.Logic.{∥∥₁_elim, ∥∥₁_map₂, ∥∥₁_prop}
use Rattle.build_history.specs.Repeated.{uses_of_all}
use Rattle.build_scheduler.specs.Kept.{EndsAlike}
use Rattle.build_scheduler.proofs.OverAtOnce.{assigned-uses, uses-room}
use Rattle.build_scheduler.proofs.Repeating.{uses-behind, uses-shown}
use Rattle.build_scheduler.proofs.Stopping.{none-stops}
use Rattle.build_scheduler.proofs.scheduler.Core.use_all.Goals as goal

pub push_uses-requires : goal.push_uses-requires
push_uses-requires g c =
    let m = g.W.Walker in
    record {
      room = uses-room (m.world_of c.args.self.now.world) c.args.id c.args.node
          c.assign-walk.new.self.history.room c.args.claims.items c.requires.ends
          c.assign-walk.ensures.room;
    }

pub invariant_of-self : goal.invariant_of-self
invariant_of-self g c =
    let m = g.W.Walker in
    let old = c.args.self.now in
    let self = c.assign-walk.new.self in
    let seen = m.seen in
    let w = m.world_of self.world in
    let ends = subst (λ w. ∥ EndsAlike w old.history c.args.id c.args.node c.args.claims.items ∥₁)
    (sym c.assign-walk.ensures.world) c.requires.ends in
    record {
      legal = ∥∥₁_map₂ self.legal ends (λ x e. uses-shown seen w c.args.id c.args.node e
          c.assign-walk.ensures.history c.assign-walk.ensures.room c.push_uses.ensures.events
          c.push_uses.ensures.room x);
      indexed = self.indexed;
      counted = self.counted;
      active = c.push_uses.ensures.active self.active;
      few = self.few;
      nested = self.nested;
      stops = ∣ none-stops w _ (c.assign-walk.ensures.end ∙ c.requires.running) ∣₁;
      kept_so = self.kept_so;
      behind = ∥∥₁_elim self.legal ∥∥₁_prop (λ x. ∥∥₁_map₂ ends self.behind (λ e b.
          uses-behind seen w c.push_uses.new.history c.args.id c.args.node e
          c.assign-walk.ensures.history c.push_uses.ensures.events x b));
    }

pub returns-clause-history : goal.returns-clause-history
returns-clause-history g c =
    assigned-uses c.args.self.now.history.events c.assign-walk.new.self.history.events
    c.push_uses.new.history.events c.args.id c.args.node
    (uses_of_all c.args.id c.args.claims.items) c.assign-walk.ensures.history
    c.push_uses.ensures.events
