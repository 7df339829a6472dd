use Rattle.std.proofs.Common.{◌∷◌, ◌++◌, [], refl, sym, ◌∙◌, ap}
use Rattle.std.proofs.Math.Logic.{∥∥₁_map, ∥∥₁_map₂}
use Rattle.build_meaning.specs.declared.event.Event.TheVariants.{Claim}
use Rattle.build_meaning.specs.declared.event.ClaimKind.TheVariants.{Use}
use Rattle.build_scheduler.proofs.Behind.{behind-event, behind-same, kept-same}
use Rattle.build_scheduler.proofs.Claiming.{taken-shown, taken-out}
use Rattle.build_scheduler.proofs.HistoryRoom.{active-same}
use Rattle.build_scheduler.proofs.Rooms.{room-kept, room-shown}
use Rattle.build_scheduler.proofs.Stopping.{none-stops}
use Rattle.build_scheduler.proofs.scheduler.Core.take_record.Goals as goal

pub invariant_of-self-2 : goal.invariant_of-self-2
invariant_of-self-2 g c =
    let m = g.W.Walker in
    let self = c.args.self.now in
    let legal = ∥∥₁_map₂ self.legal c.requires.own (λ x own. taken-shown m.seen
    (m.world_of self.world) self.history c.push.new.self c.args.id c.args.walk.now c.args.run.now
    own c.requires.asks c.requires.finished (c.push.ensures.events
    ∙ (ap (λ es. es ++ Claim c.args.id c.in_ok-claimed.claimed Use ∷ [])
    c.in_ok-reserve.ensures.events ∙ ap (λ r. self.history.events ++ Claim c.args.id r Use ∷ [])
    c.in_ok-claimed.ensures)) (sym c.in_ok-reserve.ensures.ok ∙ c.push.ensures.room) x) in
    record {
      legal = legal;
      indexed = self.indexed;
      counted = self.counted;
      active = c.push.ensures.active;
      few = self.few;
      nested = self.nested;
      stops = ∣ none-stops (m.world_of self.world) _ c.requires.running ∣₁;
      kept_so = self.kept_so;
      behind = behind-event m.seen (m.world_of self.world)
          (Claim c.args.id c.args.run.now Use) self.legal legal
          (c.push.ensures.events
          ∙ (ap (λ es. es ++ Claim c.args.id c.in_ok-claimed.claimed Use ∷ [])
          c.in_ok-reserve.ensures.events ∙ ap
          (λ r. self.history.events ++ Claim c.args.id r Use ∷ []) c.in_ok-claimed.ensures))
          (kept-same refl) self.behind;
    }

pub returns-clause-out : goal.returns-clause-out
returns-clause-out g c =
    let m = g.W.Walker in
    let self = c.args.self.now in
    ∥∥₁_map₂ self.legal c.requires.own (λ x own. taken-out m.seen (m.world_of self.world)
    self.history c.push.new.self c.args.id c.args.walk.now c.args.run.now own c.requires.asks
    c.requires.finished (c.push.ensures.events
    ∙ (ap (λ es. es ++ Claim c.args.id c.in_ok-claimed.claimed Use ∷ [])
    c.in_ok-reserve.ensures.events ∙ ap (λ r. self.history.events ++ Claim c.args.id r Use ∷ [])
    c.in_ok-claimed.ensures)) x)

pub invariant_of-self : goal.invariant_of-self
invariant_of-self g c =
    let m = g.W.Walker in
    let self = c.args.self.now in
    record {
      legal = ∥∥₁_map self.legal
          (λ x. room-shown m.seen (m.world_of self.world) c.reserve.ensures.events
          (room-kept c.reserve.result self.history.room c.reserve.new.self.room 1
          c.reserve.ensures.ok c.reserve.ensures.err) refl refl refl x);
      indexed = self.indexed;
      counted = self.counted;
      active = active-same self.history.events self.history.nodes c.reserve.ensures.events
          c.reserve.ensures.nodes self.active;
      few = self.few;
      nested = self.nested;
      stops = ∣ none-stops (m.world_of self.world) _ c.requires.running ∣₁;
      kept_so = self.kept_so;
      behind = behind-same m.seen (m.world_of self.world)
          c.reserve.ensures.events refl self.behind;
    }
