use Rattle.std.proofs.Common.{◌∙◌, Some, ap, arith, subst, sym}
use Rattle.build_meaning.specs.Lists.{at}
use Rattle.build_scheduler.specs.Kept.{KnowsNothing}
use Rattle.build_scheduler.proofs.OverAtOnce.{caller-slot}
use Rattle.build_scheduler.proofs.Served.{one-caller}
use Rattle.build_scheduler.proofs.SlotNumbers.{at-get}
use Rattle.build_scheduler.proofs.scheduler.Core.began_with_nothing.Goals as goal

pub index-requires-in-Some : goal.index-requires-in-Some
index-requires-in-Some g c =
    let m = g.W.Walker in
    let self = c.args.self.now in
    let l = caller-slot m.seen (m.world_of self.world) self.legal c.args.id c.in-Some.caller
    c.index.result.now self.nested (at-get self.origins.items c.args.id c.index.result.now
    c.requires.there ∙ ap Some (sym c.index.ensures)) c.in-Some.is in
    omega (arith, l, self.slots.ok.0)

pub returns-in-Some : goal.returns-in-Some
returns-in-Some g c =
    let m = g.W.Walker in
    let self = c.args.self.now in
    let seen = m.seen in
    let mine = c.index.result.now in
    let here = at-get self.origins.items c.args.id mine c.requires.there
    ∙ ap Some (sym c.index.ensures) in
    let there = caller-slot seen (m.world_of self.world) self.legal c.args.id c.in-Some.caller
    mine self.nested here c.in-Some.is in
    let slot = at-get self.slots.items c.in-Some.caller c.index-in-Some.result.now there
    ∙ ap Some (sym c.index-in-Some.ensures) in (
      (λ known. record {
        origin = mine;
        caller = c.in-Some.caller;
        own = here;
        called = c.in-Some.is;
        nothing = subst (KnowsNothing seen) (sym slot) (c.knows_nothing.ensures.0 known);
      }),
      (λ b. c.knows_nothing.ensures.1 (subst (KnowsNothing seen) slot
          (subst (λ n. KnowsNothing seen (at self.slots.items n))
          (one-caller self.origins.items c.args.id mine here c.in-Some.caller c.in-Some.is b.origin
          b.own b.caller b.called) b.nothing))),
    )
