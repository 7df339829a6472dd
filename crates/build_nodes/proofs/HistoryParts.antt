-- The parts of a history.
use Rattle.std.proofs.Common.{◌≡◌, List, [], ◌∷◌, ◌++◌, Some, refl, ap, sym, ◌∙◌, subst}
use Rattle.result_cache.proofs.RunTests.{and_then-some}
use Rattle.msb_laws.specs.Asking.{and_then}
use Rattle.build_meaning.specs.declared.event.Event.{Event}
use Rattle.build_meaning.specs.World.{World}
use Rattle.build_meaning.specs.State.{State}
use Rattle.build_meaning.specs.Step.{step, after_all}
use Rattle.build_meaning.proofs.EventsKeepLawful.{some-is}

module _ {P I A : Type 0} (w : World P I A) where
  -- what comes behind some of the events goes on from the state after these
  pub goes-on : (xs ys : List Event) (s t u : State P I A) → after_all w s xs ≡ Some t
      → after_all w s (xs ++ ys) ≡ Some u → after_all w t ys ≡ Some u
  goes-on [] ys s t u h g = subst (λ (v : State P I A). after_all w v ys ≡ Some u) (some-is s t h) g
  goes-on (event ∷ xs) ys s t u h g =
      let y = and_then-some (step w s event) (λ next. after_all w next xs) t h in
      let z = and_then-some (step w s event) (λ next. after_all w next (xs ++ ys)) u g in
      let same : z.0 ≡ y.0 = some-is z.0 y.0 (sym z.1 ∙ y.1) in
      goes-on xs ys y.0 t u y.2
      (subst (λ (v : State P I A). after_all w v (xs ++ ys) ≡ Some u) same z.2)

  -- the state before the last event
  pub last-of : (events : List Event) (event : Event) (u t : State P I A)
      → after_all w u (events ++ event ∷ []) ≡ Some t
      → (s : State P I A) × (after_all w u events ≡ Some s) × (step w s event ≡ Some t)
  last-of [] event u t h =
      let y = and_then-some (step w u event) (λ next. after_all w next []) t h in
      (u, refl, y.1 ∙ y.2)
  last-of (first ∷ events) event u t h =
      let y = and_then-some (step w u first) (λ next. after_all w next (events ++ event ∷ [])) t h
      in
      let z = last-of events event y.0 t y.2 in
      (z.0, ap (λ o. and_then o (λ next. after_all w next events)) y.1 ∙ z.1, z.2)
