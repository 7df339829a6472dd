-- Where the walk of a request stands, by what the code holds of it. (Target build order; MSBuild
-- task)
use Rattle.std.specs.Prelude.{ℕ, List, [], ◌∷◌, length, drop, map, Option, Some, None}
use Rattle.std.specs.List.{flat_map}
use Rattle.msb_laws.specs.Asking.{asks as asks_of}
use Rattle.msb_laws.specs.Words.{Name}
use Rattle.target_order.specs.Left.{left}
use Rattle.target_order.specs.Visit.{body as body_of}
use Rattle.build_world.specs.Instances.{UsedTarget}
use Rattle.build_world.specs.declared.world.World.{World as Given}
use Rattle.result_cache.specs.Journal.{Journal}
use Rattle.result_cache.specs.declared.record.Record.{Record}
use Rattle.result_cache.specs.declared.request.RequestKey.{RequestKey}
use Rattle.result_cache.specs.declared.run.RunId.{RunId}
use Rattle.task_trait.specs.declared.tools.ToolAnswer.{ToolAnswer}
use Rattle.task_trait.specs.declared.tools.ToolInput.{ToolInput}
use Rattle.build_meaning.specs.SoFar.{SoFar}
use Rattle.build_meaning.specs.State.{Place, walking, within}
use Rattle.build_meaning.specs.Stop.{Stop, ends, asks}
use Rattle.build_meaning.specs.Walk.{Outcome, gives}
use Rattle.build_scheduler.specs.Position.{Position}
use Rattle.target_body.specs.declared.body.Body.{Body}
use Rattle.target_body.specs.Standings.{Standing, begins, waits, over, standing_in, tool_use}
use Rattle.request_machine.specs.Requests.{Project, target_at, failed}
use Rattle.request_machine.specs.Walk.{Site, walk, after_target}
use Rattle.request_machine.specs.Worlds.{bodies_of, project_of, walk_of}
use Rattle.request_machine.specs.Visited.{Visited, seen_visit}
use Rattle.request_machine.specs.declared.snapshots.Snapshots.{Snapshots}
use Rattle.request_machine.specs.declared.stage.RunState.{RunState}
use Rattle.request_machine.specs.declared.stage.RunState.TheVariants.{Wanted, Called, Made}
use Rattle.request_machine.specs.declared.stage.Visit.{Visit}
use Rattle.request_machine.specs.declared.stage.Stage.{Stage}
use Rattle.request_machine.specs.declared.stage.Stage.TheVariants.{NotBegun, Visits, Over}

-- what the record of a run says besides its segments
abbrev pub outcome_in : Record → Outcome
outcome_in made = record {
  ok = made.ok;
  decisions = made.decisions;
  items = made.items;
  changes = made.changes;
  notes =
      made.notes;
}

-- what a run has done to files and called so far, and where it has stopped
abbrev pub Halt : Type 0
Halt = SoFar ToolInput × Stop ToolInput ToolAnswer

abbrev pub halt_by : List (Name × ToolInput) → Standing → Option Halt
halt_by uses (begins scope) = None
halt_by uses (waits segments key keys go) = Some
    (record { segments = segments; tools = map tool_use uses }, asks key keys go)
halt_by uses over = None

module _ {T : Type 0} (calls : T → List (Name × ToolInput)) where
  -- the calls of tools up to a moment that was noted
  abbrev pub calls_at : List (T × ℕ) → List (Name × ToolInput)
  calls_at [] = []
  calls_at (noted ∷ others) = calls noted.0

  -- the calls of tools between two moments that were noted, for each of some pairs
  abbrev pub uses_between : Snapshots T ℕ × Snapshots T ℕ → List (Name × ToolInput)
  uses_between pair = drop (length (calls_at pair.0.items)) (calls_at pair.1.items)

  abbrev pub uses_in : Snapshots (Snapshots T ℕ) (Snapshots T ℕ) → List (Name × ToolInput)
  uses_in noted = flat_map uses_between noted.items

-- where the body of a run has stopped; it is there where the project has its target
module _ (w : Given) where
  abbrev pub halt_of : RunId → Body → List (Name × ToolInput) → Option UsedTarget → Option Halt
  halt_of run body uses None = None
  halt_of run body uses (Some target) = halt_by uses (standing_in w run target body)

module _ {T : Type 0} (calls : T → List (Name × ToolInput)) (w : Given) where
  -- by what a request holds of the body
  abbrev pub halt_at : RunId → Option UsedTarget → RunState T → Option Halt
  halt_at run target Wanted = None
  halt_at run target (Called body noted) = halt_of w run body (uses_in calls noted) target
  halt_at run target (Made made noted) = Some (
    record { segments = made.segments; tools = map tool_use (uses_in calls noted) },
    ends
        (outcome_in made),
  )

  abbrev pub project_by : RequestKey → Visited T → Project
  project_by key v = project_of w key v.instance

  -- in the body of a run
  abbrev pub in_body_by : RequestKey → Visited T → Option Halt → Place Site ToolInput ToolAnswer
  in_body_by key v None = walking (gives (failed None))
  in_body_by key v (Some halt) =
      let p : Project = project_by key v in
      within (record {
        run = v.run;
        so_far = halt.0;
        go = after_target p (λ answer. walk p key (bodies_of w p) (left v.order answer)) v.state
            v.run.target;
      }) halt.1

  abbrev pub place_by : RequestKey → Visited T → Journal → RunState T → Place Site ToolInput
      ToolAnswer
  place_by key v journal Wanted = let p : Project = project_by key v in walking
      (walk p key (bodies_of w p) (asks_of (body_of v.run.target) (left v.order)) v.state
      journal)
  place_by key v journal at = in_body_by key v
      (halt_at v.run (target_at (project_by key v) v.run.target) at)

  -- by the code's visit
  abbrev pub in_body : RequestKey → Visit T → Option Halt → Place Site ToolInput ToolAnswer
  in_body key v halt = in_body_by key (seen_visit v) halt

  abbrev pub place_at : RequestKey → Visit T → Journal → RunState T → Place Site ToolInput
      ToolAnswer
  place_at key v journal at = place_by key (seen_visit v) journal at

  abbrev pub place_of : RequestKey → Journal → Stage T → Place Site ToolInput ToolAnswer
  place_of key journal NotBegun = walking (walk_of w key journal)
  place_of key journal (Visits v) = place_at key v journal v.at
  place_of key journal (Over reply) = walking (gives reply)

  abbrev pub position_of : RequestKey → Journal → List RunId → Stage T →
      Position Site ToolInput ToolAnswer
  position_of key journal runs stage = record
      { journal = journal; runs = runs; place = place_of key journal stage }
