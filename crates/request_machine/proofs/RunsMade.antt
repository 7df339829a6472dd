-- How the run of a target is made, as the code makes it.
use Rattle.std.proofs.Common.{
  ◌≡◌,
  ℕ,
  List,
  [],
  map,
  Option,
  None,
  Some,
  IfSome,
  IsSome,
  refl,
  sym,
  ap,
  ◌∙◌,
  subst,
}
use Rattle.std.specs.List.{flat_map}
use Rattle.std.proofs.lemmas.List.{append-nil}
use Rattle.msb_values.specs.declared.scope.Scope.{Scope}
use Rattle.build_world.specs.Instances.{UsedTarget}
use Rattle.build_world.specs.declared.world.World.{World as Given}
use Rattle.result_cache.specs.Journal.{Journal}
use Rattle.result_cache.specs.declared.request.RequestResult.{RequestResult}
use Rattle.result_cache.specs.declared.run.RunId.{RunId}
use Rattle.task_trait.specs.declared.tools.ToolAnswer.{ToolAnswer}
use Rattle.task_trait.specs.declared.tools.ToolInput.{ToolInput}
use Rattle.build_meaning.specs.SoFar.{nothing_yet, recorded}
use Rattle.build_meaning.specs.Stop.{ends}
use Rattle.target_body.specs.Pieces.{Chooser, choice_of}
use Rattle.target_body.specs.States.{Run}
use Rattle.target_body.specs.Standings.{
  Standing,
  begins,
  waits,
  over,
  Fits,
  body_in,
  run_with,
  standing,
  standing_in,
  tool_use,
}
use Rattle.target_body.specs.declared.body.Body.{Body}
use Rattle.target_body.specs.declared.body.BodyAsk.{BodyAsk}
use Rattle.target_body.specs.declared.body.BodyAsk.TheVariants.{Call, Finished}
use Rattle.request_machine.specs.RunStops.{Resumes, IsFinished, IsRunStop, IsWaiting, Plays, Stops}
use Rattle.request_machine.specs.Positions.{halt_at, halt_by, halt_of, uses_between, uses_in}
use Rattle.request_machine.specs.Runs.{run_in}
use Rattle.request_machine.specs.Worlds.{body_if, nothing_made}
use Rattle.request_machine.specs.declared.snapshots.Snapshots.{Snapshots}
use Rattle.request_machine.specs.declared.run.RunStop.{RunStop}

abbrev Uses : Type 0 → Type 0
Uses T = Snapshots (Snapshots T ℕ) (Snapshots T ℕ)

-- where the body of a run has stopped, it is the body of that run
pub step_run : {T : Type 0} (run : RunId) (body : Body) (noted : Uses T) (ask : BodyAsk)
    (run_stop : RunStop T) → body.run ≡ run → IsRunStop run body noted ask run_stop → run_in run
    run_stop.at ≡ run
step_run run body noted (Call keys) run_stop own is = ap (run_in run) is.0 ∙ own
step_run run body noted (Finished made) run_stop own is = ap (run_in run) is.0

pub finished_run : {T : Type 0} (run : RunId) (noted : Uses T) (run_stop : RunStop T)
    → IsFinished run noted (recorded nothing_made []) run_stop → run_in run run_stop.at ≡ run
finished_run run noted run_stop is = ap (run_in run) is.0

module _ {T : Type 0} (answer : List ℕ → ToolInput → ToolAnswer)
    (calls : T → List (List ℕ × ToolInput)) (w : Given) (run : RunId) where
  none_used : (noted : Uses T) → noted.items ≡ [] → uses_in calls noted ≡ []
  none_used noted empty = ap (flat_map (uses_between calls)) empty

  -- a body that begins
  pub begins_steps : (target : Option UsedTarget) (scope : Scope) (body : Body) (noted : Uses T)
      (results : List RequestResult) (before after : Journal) (old new : T) (run_stop : RunStop T)
      → noted.items ≡ [] → ((choose : Chooser) (r : Run) → standing choose r body ≡ begins scope)
      → IsSome target
      → IfSome target
      (λ t. Plays answer calls w run t (standing_in w run t body) results before after old new
      noted run_stop)
      → Stops answer calls w run target (body_if w run target scope before) nothing_yet before
      after old new run_stop
  begins_steps None scope body noted results before after old new run_stop empty at is plays =
      absurd (cc)
  begins_steps (Some t) scope body noted results before after old new run_stop empty at is plays =
      subst
      (λ us. Stops answer calls w run (Some t) (body_in w run t scope before)
      (record { segments = []; tools = map tool_use us }) before after old new run_stop)
      (none_used noted empty)
      (subst (λ st. Plays answer calls w run t st results before after old new noted run_stop)
      (at (choice_of w.mode (run_with w run t)) (run_with w run t)) plays)

  pub begins_fits : (target : Option UsedTarget) (scope : Scope) (body : Body)
      (results : List RequestResult) → results ≡ []
      → ((choose : Chooser) (r : Run) → standing choose r body ≡ begins scope)
      → IfSome target (λ t. Fits (standing_in w run t body) results)
  begins_fits None scope body results none at = tt
  begins_fits (Some t) scope body results none at = subst (λ st. Fits st results)
      (sym (at (choice_of w.mode (run_with w run t)) (run_with w run t))) none

  -- a target that the project has not
  pub nothing_steps : (target : Option UsedTarget) (scope : Scope) (noted : Uses T)
      (journal : Journal) (tools : T) (run_stop : RunStop T) → target ≡ None → noted.items ≡ []
      → IsFinished run noted (recorded nothing_made []) run_stop
      → Stops answer calls w run target (body_if w run target scope journal) nothing_yet journal
      journal tools tools run_stop
  nothing_steps target scope noted journal tools run_stop none empty is = subst
      (λ t. Stops answer calls w run t (body_if w run t scope journal) nothing_yet journal journal
      tools tools run_stop) (sym none) (record {
        uses = [];
        called = sym (append-nil (calls tools));
        stopped = record { stop = ends nothing_made; journal = journal; so_far = nothing_yet };
        is = refl;
        halted = ap (halt_at calls w run None) is.0
            ∙ ap (λ us. Some (record { segments = []; tools = map tool_use us }, ends nothing_made))
            (none_used noted empty);
        tools = refl;
        journal = refl;
        asks_so = is.1;
      })

  -- a body that waits for results
  standing_fits : (st : Standing) (uses : List (List ℕ × ToolInput)) (results : List RequestResult)
      → IsWaiting (halt_by uses st) results → Fits st results
  standing_fits (begins scope) uses results waiting = absurd waiting
  standing_fits (waits segments key keys go) uses results waiting = waiting
  standing_fits over uses results waiting = absurd waiting

  pub waits_there : (target : Option UsedTarget) (body : Body) (uses : List (List ℕ × ToolInput))
      (results : List RequestResult) → IsWaiting (halt_of w run body uses target) results
      → IsSome target
  waits_there None body uses results waiting = absurd waiting
  waits_there (Some t) body uses results waiting = refl

  pub waits_fits : (target : Option UsedTarget) (body : Body) (uses : List (List ℕ × ToolInput))
      (results : List RequestResult) → IsWaiting (halt_of w run body uses target) results
      → IfSome target (λ t. Fits (standing_in w run t body) results)
  waits_fits None body uses results waiting = tt
  waits_fits (Some t) body uses results waiting = standing_fits (standing_in w run t body) uses
      results waiting

  plays_at : (t : UsedTarget) (st : Standing) (noted : Uses T) (results : List RequestResult)
      (before after : Journal) (old new : T) (run_stop : RunStop T)
      → Plays answer calls w run t st results before after old new noted run_stop
      → Resumes answer calls w run (Some t) (halt_by (uses_in calls noted) st) results before
      after
      old new run_stop
  plays_at t (begins scope) noted results before after old new run_stop plays = tt
  plays_at t (waits segments key keys go) noted results before after old new run_stop plays = plays
  plays_at t over noted results before after old new run_stop plays = tt

  pub plays_on : (target : Option UsedTarget) (body : Body) (noted : Uses T)
      (results : List RequestResult) (before after : Journal) (old new : T) (run_stop : RunStop T)
      → IfSome target
      (λ t. Plays answer calls w run t (standing_in w run t body) results before after old new
      noted run_stop)
      → Resumes answer calls w run target (halt_of w run body (uses_in calls noted) target)
      results
      before after old new run_stop
  plays_on None body noted results before after old new run_stop plays = tt
  plays_on (Some t) body noted results before after old new run_stop plays = plays_at t
      (standing_in w run t body) noted results before after old new run_stop plays
