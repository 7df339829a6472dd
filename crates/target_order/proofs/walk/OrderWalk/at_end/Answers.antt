use Rattle.std.proofs.Common.{subst}
use Rattle.target_order.specs.Search.{IsSound}
use Rattle.target_order.proofs.Rest.{after_end}
use Rattle.target_order.proofs.walk.OrderWalk.at_end.Goals as goal

pub returns-in-After : goal.returns-in-After
returns-in-After c =
    let sound = subst (λ q. IsSound q c.self.inside.places) c.self.view_is c.self.invariant in
    after_end c.args.self.now c.self.inside.places c.args.cursor c.below.result sound
    c.requires.cursor c.in-After.is c.requires.ends c.below.ensures.depth
    c.below.ensures.place c.below.ensures.short
