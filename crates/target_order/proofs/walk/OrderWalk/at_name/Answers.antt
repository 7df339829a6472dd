use Rattle.std.proofs.Common.{◌≡◌, subst}
use Rattle.target_order.specs.Search.{IsSound, standing_at}
use Rattle.target_order.specs.Visit.{settled}
use Rattle.target_order.proofs.Rest.{passes}
use Rattle.target_order.proofs.walk.OrderWalk.at_name.Goals as goal

pub returns-in-Settled : goal.returns-in-Settled
returns-in-Settled c =
    let p = c.args.self.now in
    let sound = subst (λ q. IsSound q c.self.inside.places) c.self.view_is c.self.invariant in
    passes p c.self.inside.places c.args.cursor sound c.requires.cursor c.requires.within
    (subst (λ t. standing_at p c.args.cursor t ≡ settled) c.requires.name c.in-Settled.ensures)
