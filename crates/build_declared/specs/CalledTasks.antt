-- The tasks that the children of a target call. (Task element; Output element)
use Rattle.std.specs.Prelude.{
  ◌≡◌,
  true,
  List,
  [],
  ◌∷◌,
  ◌++◌,
  Option,
  None,
  Some,
  IsSome,
  Result,
  Ok,
  Err,
}
use Rattle.msb_laws.specs.Words.{Name}
use Rattle.msb_values.specs.Keys.{key_of}
use Rattle.msb_values.specs.declared.act.Act.{Act}
use Rattle.msb_elements.specs.Nodes.{name_of}
use Rattle.msb_expand.specs.declared.lens.Bucket.{Bucket}
use Rattle.result_cache.specs.declared.run.RunId.{RunId}
use Rattle.result_cache.specs.Lists.{In}
use Rattle.build_world.specs.Elements.{At, children_of}
use Rattle.build_world.specs.declared.fault.EvalFault.{EvalFault}
use Rattle.task_trait.specs.declared.tools.Param.{Param}
use Rattle.task_trait.specs.declared.tools.TaskOutput.{TaskOutput}
use Rattle.task_trait.specs.declared.tools.ToolAnswer.{ToolAnswer}
use Rattle.task_trait.specs.declared.tools.ToolInput.{ToolInput}
use Rattle.target_incremental.specs.declared.decision.Choice.TheVariants.{Run as RunAll}
use Rattle.target_texts.specs.Outputs.{output_items}
use Rattle.target_texts.specs.Parameters.{task_buckets}
use Rattle.target_texts.specs.declared.on_error.OnError.{OnError}
use Rattle.target_body.specs.States.{Run, State, Stopped, context_in}
use Rattle.target_body.specs.Children.{
  Kind,
  group_element,
  on_error_element,
  task_element,
  kind_of,
  child,
}
use Rattle.target_body.specs.Tasks.{call_context, readied, answered_if, call}
use Rattle.build_declared.specs.Ends.{End, end_of}

-- a task that is called: its element, its parameters and its answer
pub record Called : Type 0 where
  pub element : At
  pub params : List Param
  pub answer : TaskOutput

module _ (tools : Name → ToolInput → ToolAnswer) (id : RunId) (run : Run) where
  abbrev pub answered_in : At → List Param → Option (End (State × TaskOutput)) → List Called
  answered_in e params None = []
  answered_in e params (Some end) =
      record { element = e; params = params; answer = end.value.1 } ∷ []

  -- a task is called unless its Condition is false or one of its texts has a fault
  abbrev pub called_if : At → State → List Act → Result (Option (OnError × List Param)) EvalFault →
      List Called
  called_if e s before (Ok (Some ready)) =
      answered_in e ready.1
      (end_of tools id (answered_if (key_of (name_of e.node)) run s e ready.1) s.journal before)
  called_if e s before (Ok None) = []
  called_if e s before (Err fault) = []

  abbrev pub called_by : Result State Stopped → List Act → (State → List Act → List Called) →
      List Called
  called_by (Ok s) acts next = next s acts
  called_by (Err stop) acts next = []

  abbrev pub then_called : Option (End (Result State Stopped)) → (State → List Act → List Called) →
      List Called
  then_called None next = []
  then_called (Some end) next = called_by end.value end.acts next

  -- the calls of a task element, bucket by bucket
  abbrev pub calls_among : At → List Bucket → State → List Act → List Called
  calls_among e [] s before = []
  calls_among e (bucket ∷ buckets) s before =
      called_if e s before (readied (call_context run s bucket) e)
      ++ then_called (end_of tools id (call run e true bucket s) s.journal before)
      (calls_among e buckets)

  abbrev pub calls_of_task : At → State → List Act → Result (List Bucket) EvalFault → List Called
  calls_of_task e s before (Ok buckets) = calls_among e buckets s before
  calls_of_task e s before (Err fault) = []

  abbrev pub calls_of_child : Kind → At → State → List Act → List Called
  calls_of_child group_element e s before = []
  calls_of_child on_error_element e s before = []
  calls_of_child task_element e s before =
      calls_of_task e s before (task_buckets (context_in run s s.task_scope) e)

  -- the calls of the children in order, where all of them run
  abbrev pub calls_of : List At → State → List Act → List Called
  calls_of [] s before = []
  calls_of (e ∷ es) s before =
      calls_of_child (kind_of (name_of e.node)) e s before
      ++ then_called (end_of tools id (child run RunAll e s) s.journal before) (calls_of es)

  -- each Output names a parameter that the element gives, and the task returns just that list
  abbrev pub ReturnsGiven : Called → Type 0
  ReturnsGiven c = (o : At) → In o (children_of c.element) →
      IsSome (output_items c.params o)
      × (output_items c.answer.outputs o ≡ output_items c.params o)
