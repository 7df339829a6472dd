-- Where a request stood before its last answer, by what the answer has replaced. (Target build
-- order; MSBuild task)
use Rattle.std.specs.Prelude.{
  ◌≡◌,
  ◌==◌,
  not,
  List,
  Bool,
  true,
  false,
  Option,
  None,
  Some,
  option_map,
}
use Rattle.msb_laws.specs.Words.{Name}
use Rattle.target_order.specs.declared.visits.Asked.TheVariants.{Body as ForBody}
use Rattle.build_world.specs.declared.world.World.{World as Given}
use Rattle.msb_values.specs.declared.key.InstanceKey.{InstanceKey}
use Rattle.result_cache.specs.Journal.{Journal}
use Rattle.result_cache.specs.declared.request.RequestKey.{RequestKey}
use Rattle.task_trait.specs.declared.tools.ToolAnswer.{ToolAnswer}
use Rattle.task_trait.specs.declared.tools.ToolInput.{ToolInput}
use Rattle.build_meaning.specs.State.{Place, walking}
use Rattle.build_meaning.specs.Walk.{gives}
use Rattle.build_scheduler.specs.Position.{Position}
use Rattle.request_machine.specs.Stages.{has_begun}
use Rattle.request_machine.specs.Positions.{place_by, position_of}
use Rattle.request_machine.specs.Requests.{failed}
use Rattle.request_machine.specs.Runs.{run_in}
use Rattle.request_machine.specs.Visited.{Visited, seen_stage}
use Rattle.request_machine.specs.Walk.{Site, run_of}
use Rattle.request_machine.specs.declared.former.FormerWalk.{FormerWalk}
use Rattle.request_machine.specs.declared.former.Former.{Former}
use Rattle.request_machine.specs.declared.former.Former.TheVariants.{NotBegun, Body, Visit}
use Rattle.request_machine.specs.declared.former.FormerVisit.{FormerVisit}
use Rattle.request_machine.specs.declared.former.FormerVisit.TheVariants.{Whole, Parts}
use Rattle.request_machine.specs.declared.former.VisitParts.{VisitParts}
use Rattle.request_machine.specs.declared.request.Request.{Request}
use Rattle.request_machine.specs.declared.stage.Stage.{Stage}
use Rattle.request_machine.specs.declared.stage.Stage.TheVariants.{NotBegun as IsAtStart}
use Rattle.request_machine.specs.declared.stage.RunState.{RunState}

-- a visit with these parts
abbrev pub with_parts : {T : Type 0} → VisitParts T → Visited T → Visited T
with_parts p v = record {
  instance = v.instance;
  state = p.state;
  order = p.order;
  run = run_of v.run.instance p.target;
  at = p.at;
}

-- a visit whose run stands here
abbrev pub with_at : {T : Type 0} → RunState T → Visited T → Visited T
with_at at v = record {
  instance = v.instance;
  state = v.state;
  order = v.order;
  run = v.run;
  at = at;
}

-- the visit before the answer, by the stage behind it
abbrev pub visit_before : {T : Type 0} → Stage T → FormerVisit T → Option (Visited T)
visit_before now (Whole stage) = seen_stage stage
visit_before now (Parts parts) = option_map (with_parts parts) (seen_stage now)

abbrev pub body_before : {T : Type 0} → Stage T → RunState T → Option (Visited T)
body_before now at = option_map (with_at at) (seen_stage now)

-- a visit of this instance, the body of which is its run's own
abbrev pub IsVisitOf : {T : Type 0} → InstanceKey → Option (Visited T) → Type 0
IsVisitOf instance None = ⊥
IsVisitOf instance (Some v) =
    (v.order.asked ≡ ForBody) × (run_in v.run v.at ≡ v.run) × (v.run.instance ≡ instance)

-- what an answer has replaced fits what it has left
abbrev pub IsFormer : {T : Type 0} → InstanceKey → Stage T → Former T → Type 0
IsFormer instance now NotBegun = Unit {0}
IsFormer instance now (Body at journal) = IsVisitOf instance (body_before now at)
IsFormer instance now (Visit visit journal runs) = IsVisitOf instance (visit_before now visit)

-- something was answered before
abbrev pub had_begun : {T : Type 0} → Former T → Bool
had_begun NotBegun = false
had_begun (Body at journal) = true
had_begun (Visit visit journal runs) = true

-- what the last answer of a walk has replaced
pub record IsBefore {T : Type 0} (r : Request T) (b : FormerWalk T) : Type 0 where
  pub fits : IsFormer r.key.instance r.stage b.former
  pub begun : had_begun b.former ≡ not (b.asked == 0)

module _ {T : Type 0} (calls : T → List (Name × ToolInput)) where
  abbrev pub place_seen : Given → RequestKey → Journal → Option (Visited T) →
      Place Site ToolInput ToolAnswer
  place_seen w key journal None = walking (gives (failed None))
  place_seen w key journal (Some v) = place_by calls w key v journal v.at

  -- where a request stood, by what its last answer has replaced
  abbrev pub position_before : Request T → Former T → Position Site ToolInput ToolAnswer
  position_before r NotBegun = position_of calls r.world.now r.key r.journal r.runs IsAtStart
  position_before r (Body at journal) = record {
    journal = journal;
    runs = r.runs;
    place = place_seen r.world.now r.key journal (body_before r.stage at);
  }
  position_before r (Visit visit journal runs) = record {
    journal = journal;
    runs = runs;
    place = place_seen r.world.now r.key journal (visit_before r.stage visit);
  }

  -- this is what an answer has replaced that has taken a request from the first place to the second
  pub record Replaces (before after : Request T) (former : Former T) : Type 0 where
    pub fits : IsFormer after.key.instance after.stage former
    pub begun : has_begun before.stage ≡ had_begun former
    pub stood : position_before after former
        ≡ position_of calls before.world.now before.key before.journal before.runs before.stage
