use Rattle.std.proofs.Common.{◌∙◌, Some, ap, arith, subst, sym}
use Rattle.build_scheduler.specs.Free.{AreFree, NeedsNothing}
use Rattle.build_scheduler.proofs.FreeCalls.{bodies-there, calls-there, needs-other}
use Rattle.build_scheduler.proofs.SlotNumbers.{at-get}
use Rattle.build_scheduler.proofs.scheduler.Core.needs_nothing.Goals as goal

pub are_free-requires-clause-there : goal.are_free-requires-clause-there
are_free-requires-clause-there g c =
    let m = g.W.Walker in
    let self = c.args.self.now in
    let here = at-get self.slots.items c.args.by c.index.result.now c.requires
    ∙ ap Some (sym c.index.ensures ∙ c.in-Calling.is) in
    let l = calls-there m.seen (m.world_of self.world) self.legal self.indexed c.args.by
    c.in-Calling.calls here in
    omega (arith, l, c.len.ensures, c.in-Calling.calls.results.ok.0)

pub are_free-requires-clause-bodies : goal.are_free-requires-clause-bodies
are_free-requires-clause-bodies g c =
    let m = g.W.Walker in
    let self = c.args.self.now in
    bodies-there m.seen (m.world_of self.world) self.legal

pub returns-in-Calling : goal.returns-in-Calling
returns-in-Calling g c free =
    let self = c.args.self.now in
    let here = at-get self.slots.items c.args.by c.index.result.now c.requires
    ∙ ap Some (sym c.index.ensures ∙ c.in-Calling.is) in
    let calls = c.in-Calling.calls in
    subst (NeedsNothing self.slots.items self.making.items) (sym here)
    (subst (AreFree self.slots.items self.making.items calls.first)
    (omega (arith, c.len.ensures, calls.results.ok.0)) (c.are_free.ensures free))

pub returns-in_default : goal.returns-in_default
returns-in_default g c t =
    let self = c.args.self.now in
    let here = at-get self.slots.items c.args.by c.index.result.now c.requires
    ∙ ap Some (sym c.index.ensures) in
    subst (NeedsNothing self.slots.items self.making.items) (sym here)
    (needs-other self.slots.items self.making.items c.index.result.now c.in_default.not-Calling)
