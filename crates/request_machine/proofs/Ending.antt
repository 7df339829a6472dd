-- A request that is over stands as the one that ends as it does.
use Rattle.std.proofs.Common.{◌≡◌, ℕ, List, true, Option, None, Some, refl, ap, ◌∙◌}
use Rattle.build_world.specs.Instances.{seen_instance}
use Rattle.build_world.specs.declared.world.World.{World as Given}
use Rattle.msb_values.specs.declared.key.InstanceKey.{InstanceKey}
use Rattle.result_cache.specs.Journal.{Journal}
use Rattle.result_cache.specs.declared.request.RequestKey.{RequestKey}
use Rattle.result_cache.specs.declared.run.RunId.{RunId}
use Rattle.task_trait.specs.declared.tools.ToolAnswer.{ToolAnswer}
use Rattle.task_trait.specs.declared.tools.ToolInput.{ToolInput}
use Rattle.build_meaning.specs.State.{Place, walking}
use Rattle.build_meaning.specs.Stop.{ends, asks}
use Rattle.build_meaning.specs.Walk.{gives}
use Rattle.build_scheduler.specs.Position.{HasEnded, ask_at, ask_of}
use Rattle.request_machine.specs.Stages.{ended_stage, has_begun, instance_in}
use Rattle.request_machine.specs.Positions.{
  Halt,
  halt_of,
  in_body_by,
  place_at,
  place_of,
  position_of,
  uses_in,
}
use Rattle.request_machine.specs.Requests.{failed, target_at}
use Rattle.request_machine.specs.Visited.{Visited, seen_visit}
use Rattle.request_machine.specs.Walk.{Site}
use Rattle.request_machine.specs.Worlds.{project_of}
use Rattle.request_machine.specs.declared.stage.Stage.{Stage}
use Rattle.request_machine.specs.declared.stage.Stage.TheVariants.{NotBegun, Visits, Over}
use Rattle.request_machine.specs.declared.stage.RunState.{RunState}
use Rattle.request_machine.specs.declared.stage.RunState.TheVariants.{Wanted, Called, Made}
use Rattle.request_machine.specs.declared.stage.Visit.{Visit}

module _ {T : Type 0} (calls : T → List (List ℕ × ToolInput)) (w : Given) (key : RequestKey)
    (journal : Journal) (runs : List RunId) where
  abbrev failed_place : Place Site ToolInput ToolAnswer
  failed_place = walking (gives (failed None))

  -- a body that has stopped asks for more
  body_over : (v : Visited T) (halt : Option Halt) →
      HasEnded (ask_at runs (in_body_by calls w key v halt)) →
      failed_place ≡ in_body_by calls w key v halt
  body_over v None over = refl
  body_over v (Some (s, ends outcome)) over = absurd over
  body_over v (Some (s, asks k ks go)) over = absurd over

  visit_over : (v : Visit T) (at : RunState T) →
      HasEnded (ask_at runs (place_at calls w key v journal at)) →
      failed_place ≡ place_at calls w key v journal at
  visit_over v Wanted over = absurd over
  visit_over v (Called body noted) over =
      let target = target_at (project_of w key (seen_instance v.instance)) v.run.target in
      body_over (seen_visit v) (halt_of w v.run body (uses_in calls noted) target) over
  visit_over v (Made made noted) over = absurd over

  ended_place : (stage : Stage T) → has_begun stage ≡ true →
      HasEnded (ask_at runs (place_of calls w key journal stage)) →
      place_of calls w key journal (ended_stage stage) ≡ place_of calls w key journal stage
  ended_place NotBegun begun over = absurd (cc)
  ended_place (Visits v) begun over = visit_over v v.at over
  ended_place (Over reply) begun over = refl

  pub ended_position : (given : Given) (k : RequestKey) (j : Journal) (rs : List RunId)
      (stage ended : Stage T) → given ≡ w → k ≡ key → j ≡ journal → rs ≡ runs →
      ended ≡ ended_stage stage → has_begun stage ≡ true →
      HasEnded (ask_of (position_of calls w key journal runs stage)) →
      position_of calls given k j rs ended ≡ position_of calls w key journal runs stage
  ended_position given k j rs stage ended is-w is-k is-j is-rs is begun over =
      (λ i. position_of calls (is-w i) (is-k i) (is-j i) (is-rs i) (is i))
      ∙ ap (λ (place : Place Site ToolInput ToolAnswer).
      record { journal = journal; runs = runs; place = place }) (ended_place stage begun over)

  -- wherever it is told, it stands there
  pub ended_place_as : (given : Given) (k : RequestKey) (j : Journal) (stage ended : Stage T) →
      ended ≡ ended_stage stage → has_begun stage ≡ true →
      HasEnded (ask_of (position_of calls w key journal runs stage)) →
      place_of calls given k j ended ≡ place_of calls w key journal stage
  ended_place_as given k j stage ended is begun over =
      ap (place_of calls given k j) is ∙ (anywhere stage ∙ ended_place stage begun over)
    where
      anywhere : (s : Stage T) → place_of calls given k j (ended_stage s)
          ≡ place_of calls w key journal (ended_stage s)
      anywhere NotBegun = refl
      anywhere (Visits v) = refl
      anywhere (Over reply) = refl

-- it is of no other instance, and something was answered
pub ended_own : {T : Type 0} (key : InstanceKey) (stage : Stage T) →
    instance_in key (ended_stage stage) ≡ key
ended_own key NotBegun = refl
ended_own key (Visits v) = refl
ended_own key (Over reply) = refl

pub ended_begun : {T : Type 0} (stage : Stage T) → has_begun (ended_stage stage) ≡ true
ended_begun NotBegun = refl
ended_begun (Visits v) = refl
ended_begun (Over reply) = refl
