use Rattle.std.proofs.Common.{◌∙◌, [], ap, refl, sym, subst, arith}
use Rattle.build_meaning.specs.History.{AreOfNodes, retires}
use Rattle.build_scheduler.specs.History.{History}
use Rattle.build_scheduler.specs.Numbers.{Numbered, among}
use Rattle.build_scheduler.proofs.Behind.{behind-start}
use Rattle.build_scheduler.proofs.Beginning.{shown-start, indexed-start, counted-root, few-root}
use Rattle.build_scheduler.proofs.Nesting.{nested-root}
use Rattle.build_scheduler.proofs.Repeating.{none-kept}
use Rattle.build_scheduler.proofs.scheduler.Core.new.Goals as goal

pub invariant_of-result : goal.invariant_of-result
invariant_of-result g c =
    let m = g.W.Walker in
    let opening = c.in_ok-opening.ensures in
    let parts = c.parts-history.ensures in
    let events = ap (λ (history : History). history.events) parts.history ∙ opening.events in
    record {
      legal = ∣ shown-start m.seen c.args.walk c.args.root
          c.origin-world.ensures c.requires.key c.requires.begins c.requires.asked c.requires.learnt
          events
          (ap (λ (history : History). history.room) parts.history ∙ opening.room)
          c.in_ok-origins.ensures
          c.in_ok-slots.ensures
          (ap (λ making. making.items) parts.making ∙ opening.making)
          c.new-2.ensures.finished c.new-2.ensures.begun ∣₁;
      indexed = ∣ indexed-start c.args.walk (record { numbers = []; room = 0 })
          c.in_ok-slots.ensures
          (ap (λ waiting. waiting.items) parts.waiting ∙ opening.waiting)
          refl (λ n. ap (λ (ready : Numbered). among n ready.numbers) parts.ready ∙ opening.ready n)
          ∣₁;
      counted = ∣ counted-root c.args.root c.in_ok-instances.ensures c.in_ok-origins.ensures ∣₁;
      active = subst (λ (history : History). AreOfNodes history.nodes history.events)
          (sym parts.history)
          (let none = ap retires opening.events in let one = opening.nodes in omega arith);
      few = few-root c.args.root c.in_ok-instances.ensures;
      nested = ∣ nested-root c.args.root c.in_ok-origins.ensures ∣₁;
      stops = ∣ tt ∣₁;
      kept_so = ∣ (λ kept i. absurd (none-kept _ kept c.in_ok-new.ensures i)) ∣₁;
      behind = ∣ behind-start m.seen _ c.args.walk events
          c.in_ok-slots.ensures ∣₁;
    }
