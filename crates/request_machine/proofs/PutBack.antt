-- What an answer has replaced, and where a request stands when it is put back.
use Rattle.std.proofs.Common.{
  ◌≡◌,
  ℕ,
  List,
  true,
  false,
  Option,
  option_map,
  refl,
  sym,
  ap,
  ◌∙◌,
  subst,
}
use Rattle.std.proofs.Math.Logic.{∥∥₁_elim}
use Rattle.std.proofs.Props.{props}
use Rattle.target_order.specs.Progress.{Progress}
use Rattle.build_world.specs.Instances.{Instance, seen_instance}
use Rattle.build_world.specs.declared.world.World.{World as Given}
use Rattle.msb_values.specs.declared.key.InstanceKey.{InstanceKey}
use Rattle.result_cache.specs.Journal.{Journal}
use Rattle.result_cache.specs.Table.{Records}
use Rattle.result_cache.specs.declared.request.RequestKey.{RequestKey}
use Rattle.result_cache.specs.declared.request.RequestResult.{RequestResult}
use Rattle.result_cache.specs.declared.run.RunId.{RunId}
use Rattle.task_trait.specs.declared.tools.ToolInput.{ToolInput}
use Rattle.request_machine.specs.Answered.{HasMade, WaitsFor, WantsRun}
use Rattle.request_machine.specs.Stages.{has_begun, instance_in}
use Rattle.request_machine.specs.Former.{IsVisitOf, place_seen, with_parts}
use Rattle.request_machine.specs.Positions.{place_of, position_of}
use Rattle.request_machine.specs.AfterRuns.{IsVisit}
use Rattle.request_machine.specs.Visited.{Visited, seen_stage, seen_visit}
use Rattle.request_machine.specs.Walk.{RequestScope, run_of}
use Rattle.request_machine.specs.declared.former.VisitParts.{VisitParts}
use Rattle.request_machine.specs.declared.stage.Stage.{Stage}
use Rattle.request_machine.specs.declared.stage.Stage.TheVariants.{NotBegun, Visits, Over}
use Rattle.request_machine.specs.declared.stage.RunState.{RunState}
use Rattle.request_machine.specs.declared.stage.Visit.{Visit}

-- a request that has not begun
pub unbegun_is : {T : Type 0} (stage : Stage T) → has_begun stage ≡ false → NotBegun ≡ stage
unbegun_is NotBegun unbegun = refl
unbegun_is (Visits v) unbegun = absurd (cc)
unbegun_is (Over reply) unbegun = absurd (cc)

module _ {T : Type 0} where
  -- a request that wants a run, or the body of whose run waits, visits its target
  pub wants_visit : (stage : Stage T) → WantsRun stage → (v : Visit T) × (stage ≡ Visits v)
  wants_visit NotBegun wants = absurd wants
  wants_visit (Visits v) wants = (v, refl)
  wants_visit (Over reply) wants = absurd wants

  pub waits_visit : (calls : T → List (List ℕ × ToolInput)) (w : Given)
      (results : List RequestResult) (stage : Stage T) → WaitsFor calls w results stage
      → (v : Visit T) × (stage ≡ Visits v)
  waits_visit calls w results NotBegun waits = absurd waits
  waits_visit calls w results (Visits v) waits = (v, refl)
  waits_visit calls w results (Over reply) waits = absurd waits

  -- a stage that shows this visit
  pub shown_begun : (stage : Stage T) (o : Option (Visited T)) (instance : InstanceKey)
      → seen_stage stage ≡ o → ∥ IsVisitOf instance o ∥₁ → has_begun stage ≡ true
  shown_begun NotBegun o instance is of = absurd
      (∥∥₁_elim of (λ p q. absurd p) (λ x. subst (IsVisitOf instance) (sym is) x))
  shown_begun (Visits v) o instance is of = refl
  shown_begun (Over reply) o instance is of = absurd
      (∥∥₁_elim of (λ p q. absurd p) (λ x. subst (IsVisitOf instance) (sym is) x))

  pub shown_own : (stage : Stage T) (o : Option (Visited T)) (instance : InstanceKey)
      → seen_stage stage ≡ o → ∥ IsVisitOf instance o ∥₁ → instance_in instance stage ≡ instance
  shown_own NotBegun o instance is of = refl
  shown_own (Visits v) o instance is of = ∥∥₁_elim of (hlevel props)
      (λ x. (subst (IsVisitOf instance) (sym is) x).2)
  shown_own (Over reply) o instance is of = refl

  module _ (calls : T → List (List ℕ × ToolInput)) (w : Given) (key : RequestKey)
      (journal : Journal) where
    pub shown_place : (stage : Stage T) (o : Option (Visited T)) (instance : InstanceKey)
        → seen_stage stage ≡ o → ∥ IsVisitOf instance o ∥₁
        → place_of calls w key journal stage ≡ place_seen calls w key journal o
    shown_place NotBegun o instance is of = absurd
        (∥∥₁_elim of (λ p q. absurd p) (λ x. subst (IsVisitOf instance) (sym is) x))
    shown_place (Visits v) o instance is of = ap (place_seen calls w key journal) is
    shown_place (Over reply) o instance is of = absurd
        (∥∥₁_elim of (λ p q. absurd p) (λ x. subst (IsVisitOf instance) (sym is) x))

    pub shown_position : (runs : List RunId) (stage : Stage T) (o : Option (Visited T))
        (instance : InstanceKey) → seen_stage stage ≡ o → ∥ IsVisitOf instance o ∥₁ →
        position_of calls w key journal runs stage
        ≡ record { journal = journal; runs = runs; place = place_seen calls w key journal o }
    shown_position runs stage o instance is of = ap
        (λ place. record { journal = journal; runs = runs; place = place })
        (shown_place stage o instance is of)

  -- a stage that shows a visit is one
  pub is_visit : (stage : Stage T) (f : Visited T → Visited T)
      → ∥ ((instance : InstanceKey) × IsVisitOf instance (option_map f (seen_stage stage))) ∥₁
      → IsVisit stage
  is_visit NotBegun f of = absurd (∥∥₁_elim of (λ p q. absurd p) (λ x. x.1))
  is_visit (Visits v) f of = tt
  is_visit (Over reply) f of = absurd (∥∥₁_elim of (λ p q. absurd p) (λ x. x.1))

  pub visit_begun : (stage : Stage T) → IsVisit stage → has_begun stage ≡ true
  visit_begun NotBegun is = absurd is
  visit_begun (Visits v) is = refl
  visit_begun (Over reply) is = absurd is

  -- the visit of a stage is its own
  pub own_visit : (stage : Stage T) (instance : InstanceKey) → IsVisit stage
      → instance_in instance stage ≡ instance → IsVisitOf instance (seen_stage stage)
  own_visit NotBegun instance is own = absurd is
  own_visit (Visits v) instance is own = (v.asks_body, v.own_body, own)
  own_visit (Over reply) instance is own = absurd is

  pub made_begun : (table : Records) (journal : Journal) (stage : Stage T)
      → HasMade table journal stage → has_begun stage ≡ true
  made_begun table journal NotBegun has = absurd has
  made_begun table journal (Visits v) has = refl
  made_begun table journal (Over reply) has = absurd has

  -- a visit by its parts
  abbrev visited : Instance → RequestScope → Progress → InstanceKey → List ℕ → RunState T → Visited
      T
  visited i s order key name at = record
      { instance = i; state = s; order = order; run = run_of key name; at = at }

  -- a visit with other parts
  pub with_parts_is : (n v : Visit T) (p : VisitParts T) → n.instance ≡ v.instance
      → n.state ≡ p.state → n.order ≡ p.order → n.run.instance ≡ v.run.instance
      → n.run.target ≡ p.target → n.at ≡ p.at →
      seen_visit n ≡ with_parts p (seen_visit v)
  with_parts_is n v p instance state order own target at =
      ap (λ i. visited (seen_instance i) n.state n.order n.run.instance n.run.target n.at)
      instance
      ∙ (ap (λ s. visited (seen_instance v.instance) s n.order n.run.instance n.run.target n.at)
      state
      ∙ (ap (λ o. visited (seen_instance v.instance) p.state o n.run.instance n.run.target n.at)
      order
      ∙ (ap (λ k. visited (seen_instance v.instance) p.state p.order k n.run.target n.at) own
      ∙ (ap (λ t. visited (seen_instance v.instance) p.state p.order v.run.instance t n.at)
      target
      ∙ ap (visited (seen_instance v.instance) p.state p.order v.run.instance p.target) at))))
