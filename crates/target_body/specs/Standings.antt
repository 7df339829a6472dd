-- Where the body of a run stands between its calls, and what its next step is by the definition of
-- bodies. (Target element; MSBuild task)
use Rattle.std.specs.Prelude.{◌≡◌, ℕ, List, [], ◌∷◌, ◌++◌, length, map}
use Rattle.msb_laws.specs.Words.{Name}
use Rattle.msb_values.specs.declared.scope.Scope.{Scope}
use Rattle.result_cache.specs.Journal.{Journal}
use Rattle.result_cache.specs.declared.record.Segment.{Segment}
use Rattle.result_cache.specs.declared.request.RequestKey.{RequestKey}
use Rattle.result_cache.specs.declared.request.RequestResult.{RequestResult}
use Rattle.result_cache.specs.declared.run.RunId.{RunId}
use Rattle.build_meaning.specs.SoFar.{ToolUse, called, recorded}
use Rattle.build_meaning.specs.Stop.{Stop, ends, asks, run_on}
use Rattle.build_meaning.specs.Walk.{Body}
use Rattle.build_world.specs.Instances.{UsedTarget}
use Rattle.build_world.specs.declared.world.World.{World}
use Rattle.task_trait.specs.declared.tools.ToolAnswer.{ToolAnswer}
use Rattle.task_trait.specs.declared.tools.ToolInput.{ToolInput}
use Rattle.target_body.specs.Work.{body_of}
use Rattle.target_body.specs.States.{Run, run_at, outcome_of}
use Rattle.target_body.specs.Bodies.{body}
use Rattle.target_body.specs.Pieces.{Chooser, choice_of}
use Rattle.target_body.specs.Left.{left, waiting_run}
use Rattle.target_body.specs.Seen.{ended, seen_state}
use Rattle.target_body.specs.declared.body.BodyAsk.{BodyAsk}
use Rattle.target_body.specs.declared.body.BodyAsk.TheVariants.{Call, Finished}
use Rattle.target_body.specs.declared.body.Body.{Body as Held}
use Rattle.target_body.specs.declared.body.Stand.{Stand}
use Rattle.target_body.specs.declared.frames.AtRun.{AtRun}
use Rattle.target_body.specs.declared.state.State.{State}
use Rattle.target_body.specs.declared.steps.Step.{Step}
use Rattle.target_body.specs.declared.steps.Step.TheVariants.{Over, Waits}
use Rattle.target_body.specs.declared.body.Stand.TheVariants.{Begun, Waiting, Ended}

abbrev pub run_with : World → RunId → UsedTarget → Run
run_with world = run_at world.tree.files

-- what the run of a target does in a world
abbrev pub body_in : World → RunId → UsedTarget → Scope → Journal → Body ToolInput ToolAnswer
body_in world id target = body world.mode (run_with world id target)

-- It has not begun, and will begin in this scope. Or it has done this to files and called this, and
-- waits for the results of these requests, by which and by the journal then it goes on. Or it is
-- over.
pub data Standing : Type 0 where
  begins : Scope → Standing
  waits : List Segment → RequestKey → List RequestKey
      → (List RequestResult → Journal → Body ToolInput ToolAnswer) → Standing
  over : Standing

abbrev pub waits_if : List RequestKey → List Segment
    → (List RequestResult → Journal → Body ToolInput ToolAnswer) → Standing
waits_if [] segments go = over
waits_if (key ∷ keys) segments go = waits segments key keys go

-- where the machine stands in a run, whose buckets are done as is chosen
abbrev pub standing_by : Chooser → Run → Stand → Standing
standing_by choose run (Begun scope) = begins scope
standing_by choose run (Waiting w) =
    waits_if (waiting_run w.at) w.state.segments
    (λ results journal. body_of (left choose run w.at (seen_state w.state journal) results journal))
standing_by choose run Ended = over

abbrev pub standing : Chooser → Run → Held → Standing
standing choose run b = standing_by choose run b.stand

-- where it stands in the run of a target in a world
abbrev pub standing_in : World → RunId → UsedTarget → Held → Standing
standing_in world id target =
    let run : Run = run_with world id target in
    standing (choice_of world.mode run) run

-- whether these are the results for which it waits: none at first, and later one for each request
abbrev pub Fits : Standing → List RequestResult → Type 0
Fits (begins scope) results = results ≡ []
Fits (waits segments key keys go) results = length results ≡ length (key ∷ keys)
Fits over results = ⊥

abbrev pub tool_use : Name × ToolInput → ToolUse ToolInput
tool_use call = record { name = call.0; input = call.1 }

-- what it asks where it has stopped, and where it stands then
abbrev pub IsTold : Stop ToolInput ToolAnswer → List Segment → BodyAsk → Standing → Type 0
IsTold (ends outcome) segments ask now = (ask ≡ Finished (recorded outcome segments)) × (now ≡ over)
IsTold (asks key keys go) segments ask now = (ask ≡ Call (key ∷ keys))
    × (now ≡ waits segments key keys go)

-- A body goes on from here, with what it has done to files and called: files are written and
-- removed and tools are used until it stops. The second list of calls of tools is the first with
-- those that it makes behind it, and so it is whatever tools it used before.
pub record Advances (answer : Name → ToolInput → ToolAnswer) (run : RunId)
    (b : Body ToolInput ToolAnswer) (segments : List Segment)
    (before after : Journal) (called called_then : List (Name × ToolInput)) (ask : BodyAsk)
    (now : Standing) : Type 0 where
  pub uses : List (Name × ToolInput)
  pub calls : called_then ≡ called ++ uses
  pub stop : Stop ToolInput ToolAnswer
  pub written : List Segment
  pub told : IsTold stop written ask now
  pub stops : (used : List (ToolUse ToolInput)) →
      run_on answer run b before (record { segments = segments; tools = used })
      ≡ record {
        stop = stop;
        journal = after;
        so_far = record
            { segments = written; tools = used ++ map tool_use uses };
      }

-- one step of the machine, in a run of which this is the body, by the results that have come
abbrev pub Goes : (answer : Name → ToolInput → ToolAnswer) → RunId →
    (Scope → Journal → Body ToolInput ToolAnswer) → Standing → List RequestResult →
    (before after : Journal) → (called called_then : List (Name × ToolInput)) → BodyAsk →
    Standing → Type 0
Goes answer id whole (begins scope) results before after tools tools_then ask now =
    Advances answer id (whole scope before) [] before after tools tools_then ask now
Goes answer id whole (waits segments key keys go) results before after tools tools_then ask now =
    Advances answer id (go results before) (segments ++ called (key ∷ keys) results) before after
    tools tools_then ask now
Goes answer id whole over results before after tools tools_then ask now = Unit {0}

-- what is asked behind a step of the machine, and where it stands then
abbrev pub Tells : Chooser → Run → State → Step AtRun → BodyAsk → Standing → Type 0
Tells choose run state (Over ending) ask now =
    (ask ≡ Finished (recorded (outcome_of (ended ending (seen_state state []))) state.segments))
    × (now ≡ over)
Tells choose run state (Waits at) ask now =
    (ask ≡ Call (waiting_run at))
    × (now ≡ standing_by choose run (Waiting (record { state = state; at = at })))
