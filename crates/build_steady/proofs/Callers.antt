-- The world of the requests that wait for their calls.
use Rattle.std.proofs.Common.{◌≡◌, List, [], ◌∷◌, subst}
use Rattle.build_meaning.specs.Lists.{Paired}
use Rattle.build_meaning.specs.World.{World}
use Rattle.build_scheduler.specs.Own.{Seen}
use Rattle.build_scheduler.specs.Position.{Position}
use Rattle.build_steady.specs.Waiting.{Waiting}
use Rattle.build_steady.specs.Held.{last_first, IsCalling, IsHeld}
use Rattle.build_steady.specs.declared.checking.Caller.{Caller}
use Rattle.build_steady.specs.declared.checking.Check.{Check}

-- the last caller is of the world that is checked
pub caller-world : {W P I A : Type 0} (seen : W → Seen P I A) (w : World P I A) (check : Check W)
    (caller : Caller W) (rest : List (Caller W)) (p : Position P I A) → IsHeld seen w check p →
    last_first check.callers.items ≡ caller ∷ rest → (seen caller.walk).world ≡ w
caller-world {W} {P} {I} {A} seen w check caller rest p h e =
    go h.callers
    (subst (λ xs. Paired (IsCalling seen w check.findings.records.finished check.asks) xs
    h.callers) e h.each)
  where
    go : (all : List (Waiting P I A)) →
        Paired (IsCalling seen w check.findings.records.finished check.asks) (caller ∷ rest) all →
        (seen caller.walk).world ≡ w
    go [] pairs = absurd pairs
    go (c ∷ callers) pairs = pairs.0.asking.world
