use Rattle.std.proofs.Common.{◌≡◌, ◌∷◌, ◌++◌, [], ◌∙◌, ap}
use Rattle.std.proofs.Math.Logic.{∥∥₁_elim, ∥∥₁_map₂, ∥∥₁_prop}
use Rattle.build_meaning.specs.declared.event.Event.TheVariants.{Result}
use Rattle.build_scheduler.proofs.Behind.{behind-event, kept-woken}
use Rattle.build_scheduler.proofs.Finishing.{
  finish-new,
  finish-shown,
  finish-out,
  finishes-begun,
  finishes-room,
  finishes-there,
  finishes-slot,
  finishes-named,
  finishes-some,
}
use Rattle.build_scheduler.proofs.Repeating.{kept-finished}
use Rattle.build_scheduler.proofs.Stopping.{none-stops}
use Rattle.build_scheduler.proofs.scheduler.Core.result.Goals as goal

pub finish-requires : goal.finish-requires
finish-requires g c =
    let m = g.W.Walker in
    let self = c.args.self.now in
    finishes-begun m.seen (m.world_of self.world) c.args.id c.args.run.now c.args.run_record
    self.legal
    c.requires.asks

pub take_run-requires : goal.take_run-requires
take_run-requires g c =
    let m = g.W.Walker in
    let self = c.args.self.now in
    finishes-there m.seen (m.world_of self.world) c.args.id c.args.run.now c.args.run_record
    self.legal
    c.requires.asks

pub push-requires-clause-room : goal.push-requires-clause-room
push-requires-clause-room g c =
    let m = g.W.Walker in
    let self = c.args.self.now in
    finishes-room m.seen (m.world_of self.world) c.args.id c.args.run.now c.args.run_record
    self.legal
    c.requires.asks

pub unreachable-requires : goal.unreachable-requires
unreachable-requires g c =
    let m = g.W.Walker in
    let self = c.args.self.now in
    finishes-some m.seen (m.world_of self.world) c.args.id c.args.run.now c.args.run_record
    self.legal
    c.requires.asks c.in-None.ensures.was

pub wake-requires : goal.wake-requires
wake-requires g c =
    let m = g.W.Walker in
    let self = c.args.self.now in
    record {
      indexed = self.indexed;
      there = finishes-slot m.seen (m.world_of self.world)
          c.args.id c.args.run.now c.args.run_record self.legal c.requires.asks;
    }

pub invariant_of-self : goal.invariant_of-self
invariant_of-self g c =
    let m = g.W.Walker in
    let self = c.args.self.now in
    let named : c.in-Some.finished ≡ c.args.run.now =
    finishes-named m.seen (m.world_of self.world) c.args.id c.args.run.now c.args.run_record
    self.legal
    c.requires.asks c.in-Some.finished c.in-Some.ensures.was in
    let legal = ∥∥₁_map₂ self.legal c.requires.asks (λ x a. finish-shown m.seen
    (m.world_of self.world) self.history c.push.new.self c.args.id c.args.run.now c.args.run_record
    a
    c.requires.running (c.push.ensures.events ∙ ap (λ r. self.history.events ++ Result c.args.id r ∷
    []) named) c.push.ensures.room c.wake.ensures.slots c.in-Some.ensures.is
    c.finish.ensures.finished c.finish.ensures.begun x) in
    record {
      legal = legal;
      indexed = c.wake.ensures.indexed;
      counted = self.counted;
      active = c.push.ensures.active;
      few = self.few;
      nested = self.nested;
      stops = ∣ none-stops (m.world_of self.world) _ c.requires.running ∣₁;
      kept_so =
          let seen = m.seen in
          let w = m.world_of self.world in
          let made = c.args.run_record in
          ∥∥₁_elim self.legal ∥∥₁_prop (λ x. ∥∥₁_map₂ c.requires.asks self.kept_so (λ a each.
          kept-finished seen w self.table.finished (record { run = c.args.run.now; made = made })
          c.finish.new.self.finished self.origins.items self.kept.instances.items
          c.finish.ensures.finished
          (finish-new seen w self.history self.history c.args.id c.args.run.now made a x) each));
      behind = behind-event m.seen (m.world_of self.world)
          (Result c.args.id c.args.run.now) self.legal legal
          (c.push.ensures.events ∙ ap (λ r. self.history.events ++ Result c.args.id r ∷ []) named)
          (kept-woken self.slots.items c.wake.ensures.slots) self.behind;
    }

pub returns-clause-history : goal.returns-clause-history
returns-clause-history g c =
    let m = g.W.Walker in
    let self = c.args.self.now in
    let named : c.in-Some.finished ≡ c.args.run.now =
    finishes-named m.seen (m.world_of self.world) c.args.id c.args.run.now c.args.run_record
    self.legal
    c.requires.asks c.in-Some.finished c.in-Some.ensures.was in
    c.push.ensures.events ∙ ap (λ r. self.history.events ++ Result c.args.id r ∷ []) named

pub returns-clause-out : goal.returns-clause-out
returns-clause-out g c walk own asks =
    let m = g.W.Walker in
    let self = c.args.self.now in
    let named : c.in-Some.finished ≡ c.args.run.now =
    finishes-named m.seen (m.world_of self.world) c.args.id c.args.run.now c.args.run_record
    self.legal
    c.requires.asks c.in-Some.finished c.in-Some.ensures.was in
    ∥∥₁_map₂ self.legal own (λ x o. finish-out m.seen (m.world_of self.world) self.history
    c.push.new.self c.args.id c.args.run.now c.args.run_record walk o asks
    (c.push.ensures.events ∙ ap
    (λ r. self.history.events ++ Result c.args.id r ∷ []) named) c.finish.ensures.finished x)
