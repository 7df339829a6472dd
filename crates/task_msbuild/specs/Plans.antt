-- What the MSBuild task is to do. (MSBuild task)
use Rattle.std.specs.Prelude.{
  ℕ,
  List,
  [],
  ◌∷◌,
  Bool,
  false,
  not,
  ◌&&◌,
  ◌||◌,
  ◌==◌,
  length,
  take,
  drop,
  Result,
  Ok,
  Err,
  codes,
  if◌then◌else◌,
}
use Rattle.std.specs.List.{flat_map, list_any}
use Rattle.msb_laws.specs.Words.{Path, Pairs}
use Rattle.file_store.specs.declared.tree.File.{File}
use Rattle.msb_values.specs.declared.note.Note.{Note}
use Rattle.msb_values.specs.declared.note.Note.TheVariants.{Fail}
use Rattle.result_cache.specs.declared.request.RequestKey.{RequestKey}
use Rattle.result_cache.specs.declared.request.RequestResult.{RequestResult}
use Rattle.task_trait.specs.Failures.{failure_text}
use Rattle.task_trait.specs.declared.failures.Failure.{Failure}
use Rattle.task_trait.specs.declared.failures.Failure.TheVariants.{NoProject}
use Rattle.task_trait.specs.declared.tools.Param.{Param}
use Rattle.task_msbuild.specs.declared.plans.Plan.{Plan}
use Rattle.task_msbuild.specs.declared.project.Project.{Project}
use Rattle.task_msbuild.specs.declared.parameters.Parameters.{Parameters}
use Rattle.task_msbuild.specs.Calls.{is_there, looked_up, all_calls}
use Rattle.task_msbuild.specs.Parameters.{parameters_of}

abbrev pub note_of : Failure → Note
note_of failure = Fail (failure_text (codes "msbuild") failure)

-- no call, and a note
abbrev pub refused : Failure → Plan
refused failure = record
    { calls = []; parallel = false; stop_first = false; notes = note_of failure ∷ []; ok = false }

-- the note of a project that is missing and isn't passed over
abbrev pub missing_notes : List File → Bool → Project → List Note
missing_notes files skip_missing project =
    if is_there files project || skip_missing then [] else note_of (NoProject project.item.text)
    ∷ []

abbrev pub all_missing_notes : List File → Parameters → List Note
all_missing_notes files p = flat_map (missing_notes files p.skip_missing) (looked_up files p)

-- the task fails where a project is missing; calls that are made at once don't stop at a failure
abbrev pub planned : List File → Pairs → Parameters → Plan
planned files globals p = record {
  calls = all_calls files globals p;
  parallel = p.parallel;
  stop_first = p.stop_first && not p.parallel;
  notes = all_missing_notes files p;
  ok = length (all_missing_notes files p) == 0;
}

abbrev pub planned_or_refused : List File → Pairs → Result Parameters Failure → Plan
planned_or_refused files globals (Ok p) = planned files globals p
planned_or_refused files globals (Err failure) = refused failure

-- by the files of the tree, the folder of the caller, its global properties, and the parameters
-- that are given
abbrev pub plan_of : List File → Path → Pairs → List Param → Plan
plan_of files dir globals params = planned_or_refused files globals (parameters_of dir params)

-- a call has failed behind which no other is made
abbrev pub has_stopped : Plan → List RequestResult → Bool
has_stopped plan results = plan.stop_first && list_any (λ result. not result.ok) results

-- the calls that are made next, when these are the results of the first calls: all at once, or one
-- after the other
abbrev pub next_calls : Plan → List RequestResult → List RequestKey
next_calls plan results =
    let waiting = drop (length results) plan.calls in
    if plan.parallel then waiting else (if has_stopped plan results then [] else take 1 waiting)
