-- The machine at a moment, and how its steps are those of the definition. (Target element)
use Rattle.std.specs.Prelude.{◌≡◌, ℕ, List, Result}
use Rattle.msb_laws.specs.Words.{Name}
use Rattle.result_cache.specs.Journal.{Journal}
use Rattle.result_cache.specs.declared.request.RequestKey.{RequestKey}
use Rattle.result_cache.specs.declared.request.RequestResult.{RequestResult}
use Rattle.result_cache.specs.declared.run.RunId.{RunId}
use Rattle.task_trait.specs.declared.tools.ToolAnswer.{ToolAnswer}
use Rattle.task_trait.specs.declared.tools.ToolInput.{ToolInput}
use Rattle.target_body.specs.Work.{Work}
use Rattle.target_body.specs.States.{State, Stopped}
use Rattle.target_body.specs.Played.{Player, Done, Reached, over, waits, played, reached_then}
use Rattle.target_body.specs.Seen.{seen_state, seen_done, ended}
use Rattle.target_body.specs.declared.state.State.{State as Held}
use Rattle.target_body.specs.declared.steps.Ending.{Ending}
use Rattle.target_body.specs.declared.steps.Step.{Step}
use Rattle.target_body.specs.declared.steps.Step.TheVariants.{Over, Waits}

abbrev pub player : RunId → (Name → ToolInput → ToolAnswer) → Player
player run tools = record { run = run; tools = tools }

-- the state, the journal of the request, and the calls of tools
pub record Moment : Type 0 where
  pub held : Held
  pub journal : Journal
  pub tools : List (Name × ToolInput)

abbrev pub moment : Held → Journal → List (Name × ToolInput) → Moment
moment held journal tools = record { held = held; journal = journal; tools = tools }

abbrev pub state_at : Moment → State
state_at m = seen_state m.held m.journal

abbrev pub done_at : Moment → Done
done_at m = seen_done m.held m.journal m.tools

-- what the frames of a part of the machine stand for: the requests whose results are waited for,
-- and what is left of the part then
pub record Frames (F : Type 0) : Type 0 where
  pub keys : F → List RequestKey
  pub left : F → State → List RequestResult → Journal → Work (Result State Stopped)

-- how far a part has come by a step of the machine: it is over in a state, or waits
abbrev pub reached_by : {F : Type 0} → Frames F → Step F → Moment → Reached (Result State Stopped)
reached_by frames (Over ending) m = over (ended ending (state_at m)) (done_at m)
reached_by frames (Waits frame) m = waits (frames.keys frame) (frames.left frame (state_at m))
    (done_at m)

-- a part of the run, and what follows on a step of another part
abbrev pub Plays : {F : Type 0} → Frames F → Player → (State → Work (Result State Stopped)) → Moment
    → Step F → Moment → Type 0
Plays frames p part before step after = played p (part (state_at before)) (done_at before)
    ≡ reached_by frames step after

abbrev pub Continues : {E F : Type 0} → Frames E → Frames F → Player
    → (Result State Stopped → Work (Result State Stopped)) → Step E → Moment → Step F → Moment
    → Type 0
Continues from frames p next step before step_then after = reached_then p
    (reached_by from step before)
    next ≡ reached_by frames step_then after

-- a part that doesn't wait
abbrev pub EndsAs : Player → (State → Work (Result State Stopped)) → Moment → Ending → Moment
    → Type 0
EndsAs p part before ending after = played p (part (state_at before)) (done_at before)
    ≡ over (ended ending (state_at after)) (done_at after)
