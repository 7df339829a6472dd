use Rattle.std.proofs.Common.{◌∷◌, ◌++◌, [], Some, refl, sym, ◌∙◌, ap, arith}
use Rattle.std.proofs.Math.Logic.{∥∥₁_map, ∥∥₁_map₂}
use Rattle.build_meaning.specs.declared.event.Event.TheVariants.{Claim}
use Rattle.build_meaning.specs.declared.event.ClaimKind.TheVariants.{Go}
use Rattle.build_meaning.specs.Lists.{put}
use Rattle.build_scheduler.proofs.Behind.{behind-event, behind-same, kept-same}
use Rattle.build_scheduler.proofs.Claiming.{begun-shown, begun-out, shown-room, making-there}
use Rattle.build_scheduler.proofs.HistoryRoom.{active-same}
use Rattle.build_scheduler.proofs.Repeating.{kept-alike}
use Rattle.build_scheduler.proofs.Rooms.{room-shown}
use Rattle.build_scheduler.proofs.Stopping.{none-stops}
use Rattle.build_scheduler.proofs.scheduler.Core.begin.Goals as goal

pub invariant_of-self-in-Break-branch-2 : goal.invariant_of-self-in-Break-branch-2
invariant_of-self-in-Break-branch-2 g c =
    let m = g.W.Walker in
    let self = c.args.self.now in
    record {
      legal = ∥∥₁_map self.legal
          (λ x. shown-room m.seen (m.world_of self.world) c.in_ok-claimed.ensures.events
          (omega (arith, c.in_ok-claimed.ensures.ok)) c.in_err-begin.ensures.finished
          c.in_err-begin.ensures.err x);
      indexed = self.indexed;
      counted = self.counted;
      active = active-same self.history.events self.history.nodes c.in_ok-claimed.ensures.events
          c.in_ok-claimed.ensures.nodes self.active;
      few = self.few;
      nested = self.nested;
      stops = ∣ none-stops (m.world_of self.world) _ c.requires.running ∣₁;
      kept_so = kept-alike m.seen (m.world_of self.world)
          c.in_err-begin.ensures.finished refl refl self.kept_so;
      behind = behind-same m.seen (m.world_of self.world)
          c.in_ok-claimed.ensures.events refl self.behind;
    }

pub put_run-requires : goal.put_run-requires
put_run-requires g c =
    let m = g.W.Walker in
    let self = c.args.self.now in
    making-there m.seen (m.world_of self.world) c.args.id c.args.walk.now self.legal c.requires.own

pub invariant_of-self-2 : goal.invariant_of-self-2
invariant_of-self-2 g c =
    let m = g.W.Walker in
    let self = c.args.self.now in
    let legal = ∥∥₁_map₂ self.legal c.requires.own (λ x own. begun-shown m.seen
    (m.world_of self.world) self.history c.push.new.self c.args.id c.args.walk.now c.args.run.now
    own c.requires.asks c.requires.unfinished c.requires.unbegun (c.push.ensures.events
    ∙ (ap (λ es. es ++ Claim c.args.id c.in_ok-claimed.claimed Go ∷ [])
    c.in_ok-claimed.ensures.events ∙ ap (λ r. self.history.events ++ Claim c.args.id r Go ∷ [])
    c.in_ok-claimed.ensures.claimed)) (sym c.in_ok-claimed.ensures.ok ∙ c.push.ensures.room)
    (c.put_run.ensures ∙ ap (λ r. put self.making.items c.args.id (Some r))
    c.in_ok-claimed.ensures.made) c.in_ok-begin.ensures.finished c.in_ok-begin.ensures.begun x) in
    record {
      legal = legal;
      indexed = self.indexed;
      counted = self.counted;
      active = c.push.ensures.active;
      few = self.few;
      nested = self.nested;
      stops = ∣ none-stops (m.world_of self.world) _ c.requires.running ∣₁;
      kept_so = kept-alike m.seen (m.world_of self.world)
          c.in_ok-begin.ensures.finished refl refl self.kept_so;
      behind = behind-event m.seen (m.world_of self.world)
          (Claim c.args.id c.args.run.now Go) self.legal legal
          (c.push.ensures.events
          ∙ (ap (λ es. es ++ Claim c.args.id c.in_ok-claimed.claimed Go ∷ [])
          c.in_ok-claimed.ensures.events ∙ ap
          (λ r. self.history.events ++ Claim c.args.id r Go ∷ [])
          c.in_ok-claimed.ensures.claimed)) (kept-same refl) self.behind;
    }

pub returns-clause-out : goal.returns-clause-out
returns-clause-out g c =
    let m = g.W.Walker in
    let self = c.args.self.now in
    ∥∥₁_map₂ self.legal c.requires.own (λ x own. begun-out m.seen (m.world_of self.world)
    self.history c.push.new.self c.args.id c.args.walk.now c.args.run.now own c.requires.asks
    c.requires.unfinished c.requires.unbegun (c.push.ensures.events
    ∙ (ap (λ es. es ++ Claim c.args.id c.in_ok-claimed.claimed Go ∷ [])
    c.in_ok-claimed.ensures.events ∙ ap (λ r. self.history.events ++ Claim c.args.id r Go ∷ [])
    c.in_ok-claimed.ensures.claimed)) c.in_ok-begin.ensures.finished x)

pub invariant_of-self : goal.invariant_of-self
invariant_of-self g c =
    let m = g.W.Walker in
    let self = c.args.self.now in
    record {
      legal = ∥∥₁_map self.legal
          (λ x. room-shown m.seen (m.world_of self.world) c.begin_room.ensures.events
          c.begin_room.ensures.room refl refl refl x);
      indexed = self.indexed;
      counted = self.counted;
      active = active-same self.history.events self.history.nodes c.begin_room.ensures.events
          c.begin_room.ensures.nodes self.active;
      few = self.few;
      nested = self.nested;
      stops = ∣ none-stops (m.world_of self.world) _ c.requires.running ∣₁;
      kept_so = self.kept_so;
      behind = behind-same m.seen (m.world_of self.world)
          c.begin_room.ensures.events refl self.behind;
    }
