-- How a request goes on with the record of its run.
use Rattle.std.proofs.Common.{◌≡◌, ℕ, List, [], true, sym, ap, ◌∙◌, subst}
use Rattle.build_world.specs.Instances.{seen_instance}
use Rattle.build_world.specs.declared.world.World.{World as Given}
use Rattle.result_cache.specs.Journal.{Journal}
use Rattle.result_cache.specs.Table.{Records}
use Rattle.result_cache.specs.declared.request.RequestKey.{RequestKey}
use Rattle.result_cache.specs.declared.run.RunId.{RunId}
use Rattle.task_trait.specs.declared.tools.ToolAnswer.{ToolAnswer}
use Rattle.task_trait.specs.declared.tools.ToolInput.{ToolInput}
use Rattle.build_meaning.specs.Walk.{Reply}
use Rattle.build_scheduler.specs.Position.{used_between}
use Rattle.build_scheduler.specs.declared.walker.Answer.TheVariants.{Use}
use Rattle.request_machine.specs.Answered.{Advances, HasMade}
use Rattle.request_machine.specs.Asks.{asked_by}
use Rattle.request_machine.specs.Stages.{IsReady, has_begun, instance_in, left_by}
use Rattle.request_machine.specs.Positions.{place_of, position_of}
use Rattle.request_machine.specs.AfterRuns.{IsAfter, IsVisit, TakenOn}
use Rattle.request_machine.specs.Worlds.{bodies_of, project_of, world_of}
use Rattle.request_machine.specs.declared.after_run.AfterRun.{AfterRun}
use Rattle.request_machine.specs.declared.after_run.OrderStep.{OrderStep}
use Rattle.request_machine.specs.declared.stage.Stage.{Stage}
use Rattle.request_machine.specs.declared.stage.Stage.TheVariants.{NotBegun, Visits, Over}
use Rattle.request_machine.specs.declared.order.NextStop.TheVariants.{Over as IsOver}
use Rattle.request_machine.proofs.PlacesAnswered.{between_begun, record_goes, record_used}
use Rattle.request_machine.proofs.Starting.{over_stands}

pub made_visits : {T : Type 0} (table : Records) (journal : Journal) (stage : Stage T)
    → HasMade table journal stage → IsVisit stage
made_visits table journal NotBegun has = absurd has
made_visits table journal (Visits v) has = tt
made_visits table journal (Over reply) has = absurd has

-- a request that is over after the run
pub over_taken : {T : Type 0} (old new : Stage T) (f : OrderStep) (reply : Reply)
    → f.next_stop ≡ IsOver reply → new ≡ Over reply → TakenOn old f new
over_taken NotBegun new f reply next_stop is = tt
over_taken (Visits v) new f reply next_stop is = λ key own w journal.
    let p = project_of w key (seen_instance v.instance) in
    over_stands w key journal reply
    (left_by p key (bodies_of w p) f.state f.order journal f.next_stop) new is
    (ap (left_by p key (bodies_of w p) f.state f.order journal) next_stop)
over_taken (Over other) new f reply next_stop is = tt

module _ {T : Type 0} (w : Given) (key : RequestKey) (table : Records) (journal : Journal)
    (runs : List RunId) where
  pub after_ready : (old : Stage T) (a : AfterRun) → HasMade table journal old
      → IsAfter w key table journal runs old a → IsReady a.step.next_stop a.step.order
  after_ready NotBegun a has is = absurd has
  after_ready (Visits v) a has is = is.follows.ready
  after_ready (Over reply) a has is = absurd has

  pub after_own : (old new : Stage T) (a : AfterRun) → instance_in key.instance old ≡ key.instance
      → HasMade table journal old → TakenOn old a.step new
      → instance_in key.instance new ≡ key.instance
  after_own NotBegun new a own has taken = absurd has
  after_own (Visits v) new a own has taken = (taken key own w journal).own
  after_own (Over reply) new a own has taken = absurd has

  pub after_begun : (old new : Stage T) (a : AfterRun) → instance_in key.instance old ≡ key.instance
      → HasMade table journal old → TakenOn old a.step new → has_begun new ≡ true
  after_begun NotBegun new a own has taken = absurd has
  after_begun (Visits v) new a own has taken = between_begun new (taken key own w journal).between
  after_begun (Over reply) new a own has taken = absurd has

  module _ (answer : List ℕ → ToolInput → ToolAnswer) (calls : T → List (List ℕ × ToolInput)) where
    pub after_goes : (old new : Stage T) (a : AfterRun) → instance_in key.instance old ≡
        key.instance → HasMade table journal old → IsAfter w key table journal runs old a
        → TakenOn old a.step new →
        Advances (world_of answer w) table (position_of calls w key journal runs old)
        (position_of calls w key a.journal a.runs new) Use a.ask
    after_goes NotBegun new a own has is taken = absurd has
    after_goes (Visits v) new a own has is taken =
        subst
        (λ rs. Advances (world_of answer w) table
        (position_of calls w key journal runs (Visits v))
        (position_of calls w key a.journal rs new) Use a.ask) (sym is.runs_are)
        (record_goes answer calls w key v own table journal a.journal runs is.made a.step new
        is.follows (taken key own) a.ask has is.is
        (is.asks ∙ ap (λ rs. asked_by key.instance rs a.step.next_stop) is.runs_are))
    after_goes (Over reply) new a own has is taken = absurd has

    pub after_used : (old new : Stage T) (a : AfterRun) → instance_in key.instance old ≡
        key.instance → HasMade table journal old → IsAfter w key table journal runs old a
        → TakenOn old a.step new →
        used_between (place_of calls w key journal old) (place_of calls w key a.journal new) ≡ []
    after_used NotBegun new a own has is taken = absurd has
    after_used (Visits v) new a own has is taken = record_used answer calls w key v own table
        journal a.journal runs is.made a.step new is.follows (taken key own)
    after_used (Over reply) new a own has is taken = absurd has
