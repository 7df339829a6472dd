-- A task element: it is called, or its Outputs are inferred where it is not. (Task element; MSBuild
-- batching; Incremental builds: output inference)
use Rattle.std.specs.Prelude.{ℕ, List, [], Bool, true, false, Option, Some, None, Result, Ok, Err}
use Rattle.msb_laws.specs.Results as results
use Rattle.msb_laws.specs.Results.{map_ok}
use Rattle.msb_laws.specs.Words.{Name}
use Rattle.msb_values.specs.Keys.{key_of}
use Rattle.msb_elements.specs.Nodes.{name_of}
use Rattle.msb_expand.specs.declared.lens.Bucket.{Bucket}
use Rattle.build_world.specs.Elements.{At}
use Rattle.build_world.specs.declared.fault.EvalFault.{EvalFault}
use Rattle.element_texts.specs.Contexts.{ElementContext, in_bucket, element_holds}
use Rattle.task_trait.specs.Failures.{failed as failed_output}
use Rattle.task_trait.specs.declared.failures.Failure.TheVariants.{UnknownTask}
use Rattle.task_trait.specs.declared.tools.TaskOutput.{TaskOutput}
use Rattle.task_trait.specs.declared.tools.Param.{Param}
use Rattle.target_incremental.specs.declared.decision.Choice.{Choice}
use Rattle.target_incremental.specs.declared.decision.Choice.TheVariants.{
  Run as RunAll,
  Skip,
  Nothing,
  Part,
}
use Rattle.target_texts.specs.declared.on_error.OnError.{OnError}
use Rattle.target_texts.specs.declared.on_error.OnError.TheVariants.{Stop, Warn, Continue}
use Rattle.target_body.specs.Work.{Work, done, followed_by, unless_stopped, each_in_turn}
use Rattle.target_body.specs.States.{
  Run,
  State,
  Stopped,
  failed,
  faulted,
  or_stop,
  taken,
  with_notes,
  context_in,
}
use Rattle.target_texts.specs.Made.{Made, all_made}
use Rattle.target_texts.specs.OnErrors.{on_error_at, notes_by}
use Rattle.target_texts.specs.Parameters.{task_buckets, params_at}
use Rattle.target_texts.specs.Outputs.{outputs}
use Rattle.target_texts.specs.Inferred.{task_of, inferred_at}
use Rattle.target_body.specs.Answers.{answered}

-- what its texts see where it is called
abbrev pub call_context : Run → State → Bucket → ElementContext
call_context run s bucket = in_bucket (context_in run s s.task_scope) bucket

-- the body stops where a task has failed, unless it goes on
abbrev pub failed_by : OnError → State → Result State Stopped
failed_by Stop s = Err (failed s)
failed_by Warn s = Ok s
failed_by Continue s = Ok s

abbrev pub ended_by : OnError → (ok : Bool) → State → Result State Stopped
ended_by on_error true s = Ok s
ended_by on_error false s = failed_by on_error s

-- the Outputs of a task that was called, unless others are inferred in their place
abbrev pub outputs_if : Bool → ElementContext → List Param → At → Made
outputs_if true p given e = outputs p given e
outputs_if false p given e = all_made []

-- its notes and its Outputs, be it that it has failed; and then the body goes on, or stops
abbrev pub answered_to : Run → At → Bool → Bucket → OnError → State × TaskOutput
    → Result State Stopped
answered_to run e gives bucket on_error x =
    results.and_then
    (taken (outputs_if gives (call_context run x.0 bucket) x.1.outputs e)
    (with_notes (notes_by on_error x.1.notes) x.0))
    (ended_by on_error x.1.ok)

-- what a task is called with, unless its Condition is false: what comes of a failure, and its
-- parameters
abbrev pub readied_if : Bool → ElementContext → At
    → Result (Option (OnError × List Param)) EvalFault
readied_if true p e = results.and_then (on_error_at p e)
    (λ on_error. map_ok (λ params. Some (on_error, params)) (params_at p e (task_of e)))
readied_if false p e = Ok None

abbrev pub readied : ElementContext → At → Result (Option (OnError × List Param)) EvalFault
readied p e = results.and_then (element_holds p e) (λ holds. readied_if holds p e)

-- an element whose name is no name calls no task
abbrev pub answered_if : Option Name → Run → State → At → List Param → Work (State × TaskOutput)
answered_if (Some task) run s e params = answered run s task params
answered_if None run s e params = done (s, failed_output (task_of e) UnknownTask)

abbrev pub called_with : Run → At → Bool → Bucket → State → Option (OnError × List Param)
    → Work (Result State Stopped)
called_with run e gives bucket s None = done (Ok s)
called_with run e gives bucket s (Some ready) =
    followed_by (answered_if (key_of (name_of e.node)) run s e ready.1)
    (λ x. done (answered_to run e gives bucket ready.0 x))

-- a bucket
abbrev pub call : Run → At → Bool → Bucket → State → Work (Result State Stopped)
call run e gives bucket s = unless_stopped (or_stop s (readied (call_context run s bucket) e))
    (called_with run e gives bucket s)

-- it is called bucket by bucket, each of which sees the scope as the element found it
abbrev pub called : Run → At → Bool → State → Work (Result State Stopped)
called run e gives s = unless_stopped (or_stop s (task_buckets (context_in run s s.task_scope) e))
    (λ buckets. each_in_turn (call run e gives) buckets s)

abbrev pub inferred : Run → At → State → Result State Stopped
inferred run e s = taken (inferred_at (context_in run s s.scope) e) s

-- a run that has failed doesn't go on
abbrev pub still_failed : Result State Stopped → Result State Stopped
still_failed (Ok s) = Err (failed s)
still_failed (Err stop) = Err stop

-- after the calls, also after one that stops the body; a fault stops it at once
abbrev pub then_inferred : Run → At → Result State Stopped → Result State Stopped
then_inferred run e (Ok s) = inferred run e s
then_inferred run e (Err (failed s)) = still_failed (inferred run e s)
then_inferred run e (Err (faulted p)) = Err (faulted p)

-- by what is decided of the target's bucket
abbrev pub task : Run → Choice → At → State → Work (Result State Stopped)
task run RunAll e s = called run e true s
task run Skip e s = done (inferred run e s)
task run Nothing e s = done (Ok s)
task run (Part old) e s = followed_by (called run e false s) (λ end. done (then_inferred run e end))
