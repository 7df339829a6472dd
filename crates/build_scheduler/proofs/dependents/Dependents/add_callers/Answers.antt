use Rattle.std.proofs.Common.{arith, subst, sym, ◌∷◌, []}
use Rattle.result_cache.specs.Lists.{In}
use Rattle.build_scheduler.specs.Dependents.{AreBroughtIn}
use Rattle.build_scheduler.proofs.Looking.{brought-next}
use Rattle.build_scheduler.proofs.NewRequests.{in-get}
use Rattle.build_scheduler.proofs.dependents.Dependents.add_callers.Goals as goal

pub add_caller-requires : goal.add_caller-requires
add_caller-requires c = c.requires _
    (subst (λ n. In n c.args.requests.now.numbers) (sym c.number_at.ensures)
    (in-get c.args.requests.now.numbers c.loop-at.at 0
    (omega (arith, c.loop-at-test.true, c.len-at-end.ensures))))

pub loop-at-preserved : goal.loop-at-preserved
loop-at-preserved c =
    let self = c.args.self.now in
    let numbers = c.args.requests.now.numbers in
    let next = c.add_caller.new.self in
    brought-next c.args.origins.now.items c.args.place numbers c.loop-at.at
    self.requests.keys self.needs.items c.loop-at.self.requests.keys c.loop-at.self.needs.items
    next.requests.keys next.needs.items
    (omega (arith, c.loop-at-test.true, c.len-at-end.ensures)) c.loop-at.invariant
    (subst (λ n. AreBroughtIn c.args.origins.now.items (n ∷ []) c.args.place
    c.loop-at.self.requests.keys c.loop-at.self.needs.items next.requests.keys next.needs.items)
    c.number_at.ensures c.in_ok-add_caller.ensures)
