-- A walk that begins stands where a build asks for it.
use Rattle.std.proofs.Common.{◌≡◌, [], ap, sym, ◌∙◌}
use Rattle.result_cache.specs.declared.request.RequestKey.{RequestKey}
use Rattle.build_meaning.specs.World.{World}
use Rattle.build_scheduler.specs.Position.{Position, begins}

-- what begins in a world at its root begins at the key of that root in the same world, by whatever
-- tells them
pub begins_there : {P I A : Type 0} (given told : World P I A) (root key : RequestKey)
    (position : Position P I A) →
    position ≡ begins given root [] → told ≡ given → key ≡ root → position ≡ begins told key []
begins_there given told root key position at same is =
    at ∙ (ap (λ w. begins w root []) (sym same) ∙ ap (λ k. begins told k []) (sym is))
