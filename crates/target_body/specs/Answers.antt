-- How a task is answered: by the tasks that are built in, by the requests that it calls, or by a
-- tool. (Task element; MSBuild tasks; MSBuild task)
use Rattle.std.specs.Prelude.{
  ℕ,
  zero,
  suc,
  List,
  [],
  ◌∷◌,
  ◌++◌,
  length,
  Bool,
  true,
  false,
  Result,
  Ok,
  Err,
  codes,
}
use Rattle.std.specs.Str.{bytes_eq}
use Rattle.msb_laws.specs.Words.{Name}
use Rattle.msb_values.specs.declared.act.Act.{Act}
use Rattle.msb_expand.specs.Reserved.{folder_of}
use Rattle.result_cache.specs.declared.request.RequestKey.{RequestKey}
use Rattle.result_cache.specs.declared.request.RequestResult.{RequestResult}
use Rattle.task_trait.specs.Failures.{failed}
use Rattle.task_trait.specs.declared.failures.Failure.{Failure}
use Rattle.task_trait.specs.declared.tools.Param.{Param}
use Rattle.task_trait.specs.declared.tools.TaskOutput.{TaskOutput}
use Rattle.task_trait.specs.declared.tools.ToolAnswer.{ToolAnswer}
use Rattle.task_trait.specs.declared.tools.ToolAnswer.TheVariants.{Unknown, Made}
use Rattle.task_trait.specs.declared.tools.ToolInput.{ToolInput}
use Rattle.task_kit.specs.Foreign.{foreign_input, foreign_output}
use Rattle.task_kit.specs.Tasks.{answer}
use Rattle.task_msbuild.specs.Plans.{next_calls, plan_of}
use Rattle.task_msbuild.specs.Gathered.{gathered}
use Rattle.task_msbuild.specs.declared.plans.Plan.{Plan}
use Rattle.target_body.specs.Work.{Work, done, does, uses, calls, followed_by}
use Rattle.target_body.specs.States.{Run, State, with_journal, with_act, view_of}

-- the acts that a task gives are done in order
abbrev pub all_acted : List Act → State → Work State
all_acted [] s = done s
all_acted (act ∷ rest) s = does act (λ journal. all_acted rest (with_act act journal s))

abbrev pub given : State → TaskOutput → Work (State × TaskOutput)
given s output = followed_by (all_acted output.acts s) (λ after. done (after, output))

-- these requests are called at once
abbrev pub call_at_once : List RequestKey → State → Work (State × List RequestResult)
call_at_once [] s = done (s, [])
call_at_once (key ∷ keys) s = calls key keys
    (λ results journal. done (with_journal journal s, results))

-- In each round the calls that come next are made at once. A round makes one at least, unless no
-- call is left, so as many rounds as calls are enough. (MSBuild task: BuildInParallel,
-- StopOnFirstFailure)
abbrev pub make_calls : (rounds : ℕ) → Plan → List RequestResult → State
    → Work (State × List RequestResult)
make_calls zero plan results s = done (s, results)
make_calls (suc rounds) plan results s =
    followed_by (call_at_once (next_calls plan results) s)
    (λ x. make_calls rounds plan (results ++ x.1) x.0)

abbrev pub msbuild : Run → State → List Param → Work (State × TaskOutput)
msbuild run s params =
    let plan : Plan = plan_of run.files (folder_of run.instance.path) run.instance.globals params in
    followed_by (make_calls (length plan.calls) plan [] s) (λ x. done (x.0, gathered plan x.1))

-- a tool is handed the parameters and the files of Sources
abbrev pub tool : Name → State → Result ToolInput Failure → Work (State × TaskOutput)
tool task s (Ok input) = uses task input
    (λ given_answer. given s (foreign_output task s.written given_answer))
tool task s (Err failure) = done (s, failed task failure)

abbrev pub not_built_in : Bool → Run → State → (task : Name) → List Param
    → Work (State × TaskOutput)
not_built_in true run s task params = msbuild run s params
not_built_in false run s task params = tool task s
    (foreign_input (folder_of run.instance.path) (view_of run s) params)

abbrev pub answered_by : ToolAnswer → Run → State → (task : Name) → List Param
    → Work (State × TaskOutput)
answered_by (Made output) run s task params = given s output
answered_by Unknown run s task params = not_built_in (bytes_eq task (codes "msbuild")) run s task
    params

-- the answer to a task, when its acts are done and its requests have come back
abbrev pub answered : Run → State → (task : Name) → List Param → Work (State × TaskOutput)
answered run s task params = answered_by
    (answer task (folder_of run.instance.path) (view_of run s) params s.written) run s task params
