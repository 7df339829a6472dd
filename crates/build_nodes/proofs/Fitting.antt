-- A place that fits the world which the seat knows fits the walk's, and the other way.
use Rattle.std.proofs.Common.{◌≡◌, ◌++◌, ◌∷◌, [], ℕ, All, Option, Some, None, List, sym, subst}
use Rattle.std.proofs.Math.Logic.{∥∥₁_elim, ∥∥₁_map}
use Rattle.std.specs.Prelude.{IsSomeAnd}
use Rattle.build_meaning.specs.declared.event.Event.{Event}
use Rattle.build_meaning.specs.World.{World}
use Rattle.build_scheduler.specs.Own.{Seen}
use Rattle.build_scheduler.specs.Position.{Position}
use Rattle.build_nodes.specs.declared.turn.Answered.{Answered}
use Rattle.build_nodes.specs.Turns.{IsAnswered}
use Rattle.build_nodes.proofs.Seated.{all-last}
use Rattle.build_nodes.proofs.Turning.{and-some}

module _ {S I A P X : Type 0} (Fits : P → World S I A → Type 0)
    (once : (p : P) (v : World S I A) (a b : Fits p v) → a ≡ b) (world : X → World S I A) where
  fits-known : (p : P) (v : World S I A) (known : Option X) →
      IsSomeAnd known (λ first. ∥ v ≡ world first ∥₁) →
      ∥ IsSomeAnd known (λ first. Fits p (world first)) ∥₁ → Fits p v
  fits-known p v (Some first) same fits =
      ∥∥₁_elim fits (once p v) (λ f. ∥∥₁_elim same (once p v) (λ e. subst (Fits p) (sym e) f))
  fits-known p v None same fits = absurd same

  known-fits : (p : P) (v : World S I A) (known : Option X) →
      IsSomeAnd known (λ first. ∥ v ≡ world first ∥₁) → Fits p v →
      ∥ IsSomeAnd known (λ first. Fits p (world first)) ∥₁
  known-fits p v (Some first) same f = ∥∥₁_map same (λ e. subst (Fits p) e f)
  known-fits p v None same f = absurd same

  -- the last of some places that all fit is the place of a seat that knows the same
  pub last-fits : (known seat : Option X) (places rest : List P) (p : P) → seat ≡ known →
      places ≡ rest ++ p ∷ [] →
      IsSomeAnd known (λ first. All (λ p. Fits p (world first)) places) →
      ∥ IsSomeAnd seat (λ first. Fits p (world first)) ∥₁
  last-fits known seat places rest p same is h =
      ∣ subst (λ o. IsSomeAnd o (λ first. Fits p (world first))) (sym same)
      (and-some known _ _ (λ first all. all-last (λ p. Fits p (world first)) places rest p is all)
      h) ∣₁

  module _ {W : Type 0} (seen : W → Seen S I A) (earlier : W → Option (Position S I A × ℕ))
      (node : ℕ) (known : Option X) (past : List (Option Event)) (a : Answered W)
      (answered : IsSomeAnd known (λ first.
      ∥ IsAnswered seen earlier node (world first) past a ∥₁)) (p : P) where
    same : IsSomeAnd known (λ first. ∥ (seen a.walk).world ≡ world first ∥₁)
    same = and-some known (λ first. ∥ IsAnswered seen earlier node (world first) past a ∥₁) _
        (λ first k. ∥∥₁_map k (λ k. k.out.world)) answered

    pub fits-walk : ∥ IsSomeAnd known (λ first. Fits p (world first)) ∥₁ →
        Fits p (seen a.walk).world
    fits-walk fits = fits-known p (seen a.walk).world known same fits

    pub fits-seat : Fits p (seen a.walk).world →
        ∥ IsSomeAnd known (λ first. Fits p (world first)) ∥₁
    fits-seat fits = known-fits p (seen a.walk).world known same fits
