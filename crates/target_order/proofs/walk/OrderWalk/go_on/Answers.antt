use Rattle.std.proofs.Common.{◌≤◌, length, ap, sym, ◌∙◌, subst}
use Rattle.target_order.specs.AsksLeft.{asks_left}
use Rattle.target_order.specs.Answers.{Asks}
use Rattle.target_order.specs.Search.{inner, IsBelow, IsSound}
use Rattle.target_order.specs.Steps.{going, going_asks, ask_of}
use Rattle.target_order.proofs.Going.{is_at, comes_next, comes_fewer, can_come, going_still}
use Rattle.target_order.proofs.walk.OrderWalk.go_on.Goals as goal

pub come_to-requires-clause-can : goal.come_to-requires-clause-can
come_to-requires-clause-can c = can_come c.args.self.now c.search-stop.result.0
    c.search-stop.result.1 c.search-stop.ensures.goes.is c.search-stop.ensures.stops

pub returns-clause-asks : goal.returns-clause-asks
returns-clause-asks c =
    let p = c.args.self.now in
    let cursor = c.search-stop.result.0 in
    let stop = c.search-stop.result.1 in
    let sound = subst (λ q. IsSound q c.self.inside.places) c.self.view_is c.self.invariant in
    let len = c.len-depth.ensures ∙ ap (λ q. length q.visits) c.self.view_is in
    let below = subst (λ n. IsBelow p (inner p n) c.below.result) len c.below.ensures.place in
    let at = is_at p c.below.result cursor (sound.progress.failed (going_still p.asked c.requires))
    (c.below.ensures.depth ∙ len) below c.search-stop.ensures.goes in
    let next = comes_next p c.self.inside.places cursor stop sound at c.search-stop.ensures.stops in
    subst (λ ask. Asks (going p) ask c.come_to.new.self) (sym c.in_ok-ask.ensures)
    (subst (λ walk. Asks (going p) (ask_of p cursor stop) walk) (sym c.in_ok-come_to.ensures.ok)
    next)

pub returns-clause-fewer : goal.returns-clause-fewer
returns-clause-fewer c =
    let p = c.args.self.now in
    let cursor = c.search-stop.result.0 in
    let stop = c.search-stop.result.1 in
    let sound = subst (λ q. IsSound q c.self.inside.places) c.self.view_is c.self.invariant in
    let len = c.len-depth.ensures ∙ ap (λ q. length q.visits) c.self.view_is in
    let below = subst (λ n. IsBelow p (inner p n) c.below.result) len c.below.ensures.place in
    let at = is_at p c.below.result cursor (sound.progress.failed (going_still p.asked c.requires))
    (c.below.ensures.depth ∙ len) below c.search-stop.ensures.goes in
    subst (λ walk. asks_left walk ≤ going_asks p) (sym c.in_ok-come_to.ensures.ok)
    (comes_fewer p c.self.inside.places cursor stop sound at c.search-stop.ensures.stops)
