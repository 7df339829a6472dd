-- Where a request stands when its order has been answered so far. (Target build order)
use Rattle.std.specs.Prelude.{◌≡◌, List, Bool, true, false, None}
use Rattle.msb_laws.specs.Asking.{asks as asks_of}
use Rattle.msb_laws.specs.Words.{Name}
use Rattle.target_order.specs.Left.{left}
use Rattle.target_order.specs.Progress.{Progress}
use Rattle.target_order.specs.Visit.{body as body_of}
use Rattle.target_order.specs.declared.visits.Asked.TheVariants.{Body as ForBody}
use Rattle.build_world.specs.Instances.{Instance}
use Rattle.build_world.specs.declared.world.World.{World as Given}
use Rattle.msb_values.specs.declared.key.InstanceKey.{InstanceKey}
use Rattle.result_cache.specs.Journal.{Journal}
use Rattle.result_cache.specs.declared.request.RequestKey.{RequestKey}
use Rattle.task_trait.specs.declared.tools.ToolAnswer.{ToolAnswer}
use Rattle.task_trait.specs.declared.tools.ToolInput.{ToolInput}
use Rattle.build_meaning.specs.State.{walking}
use Rattle.build_meaning.specs.Walk.{Walk, gives}
use Rattle.request_machine.specs.Requests.{Project, failed}
use Rattle.request_machine.specs.Walk.{RequestScope, Site, walk}
use Rattle.request_machine.specs.Worlds.{bodies_of, project_of, Bodies}
use Rattle.request_machine.specs.Positions.{place_of}
use Rattle.request_machine.specs.declared.order.NextStop.{NextStop}
use Rattle.request_machine.specs.declared.order.NextStop.TheVariants.{Wants, Over as IsOver}
use Rattle.request_machine.specs.declared.stage.Stage.{Stage}
use Rattle.request_machine.specs.declared.stage.RunState.{RunState}
use Rattle.request_machine.specs.declared.stage.RunState.TheVariants.{Wanted, Called, Made}
use Rattle.request_machine.specs.declared.stage.Stage.TheVariants.{NotBegun, Visits, Over}

-- something was answered
abbrev pub has_begun : {T : Type 0} → Stage T → Bool
has_begun NotBegun = false
has_begun (Visits v) = true
has_begun (Over reply) = true

-- the run of its target is wanted, and nothing is known of it yet
abbrev pub is_wanted : {T : Type 0} → RunState T → Bool
is_wanted Wanted = true
is_wanted (Called body noted) = false
is_wanted (Made made noted) = false

-- it wants such a run, or is over
abbrev pub is_between_runs : {T : Type 0} → Stage T → Bool
is_between_runs NotBegun = false
is_between_runs (Visits v) = is_wanted v.at
is_between_runs (Over reply) = true

-- how a request that is over stands: where its project has not the target of its run, it has failed
abbrev pub ended_stage : {T : Type 0} → Stage T → Stage T
ended_stage NotBegun = Over (failed None)
ended_stage (Visits v) = Over (failed None)
ended_stage (Over reply) = Over reply

-- the instance of the run that it wants or makes, which is that of the request
abbrev pub instance_in : {T : Type 0} → InstanceKey → Stage T → InstanceKey
instance_in key NotBegun = key
instance_in key (Visits v) = v.run.instance
instance_in key (Over reply) = key

-- what is left of the request
abbrev pub left_by : Project → RequestKey → Bodies → RequestScope → Progress → Journal → NextStop →
    Walk Site ToolInput ToolAnswer
left_by p key bodies state order journal (Wants name) = walk p key bodies
    (asks_of (body_of name) (left order)) state journal
left_by p key bodies state order journal (IsOver reply) = gives reply

-- an order that wants a run has asked for its body
abbrev pub IsReady : NextStop → Progress → Type 0
IsReady (Wants name) order = order.asked ≡ ForBody
IsReady (IsOver reply) order = Unit {0}

-- the stage of a request of which this is left
pub record StandsAt {T : Type 0} (w : Given) (key : RequestKey) (journal : Journal)
    (tree : Walk Site ToolInput ToolAnswer) (stage : Stage T) : Type 0 where
  pub between : is_between_runs stage ≡ true
  pub own : instance_in key.instance stage ≡ key.instance
  pub stands : (calls : T → List (Name × ToolInput))
      → place_of calls w key journal stage ≡ walking tree

-- the stage of a request that stands so, in any world and by any journal
abbrev pub StandsBy : {T : Type 0} → RequestKey → Instance → RequestScope → Progress → NextStop →
    Stage T → Type 0
StandsBy key instance state order next_stop stage =
    (w : Given) (journal : Journal)
    → let p = project_of w key instance in StandsAt w key journal
    (left_by p key (bodies_of w p) state order journal next_stop) stage
