-- What the code holds of a run.
use Rattle.std.specs.Prelude.{ℕ, List, [], ◌∷◌, get_or, unwrap_or, Result, Ok, Err}
use Rattle.msb_laws.specs.Words.{Name}
use Rattle.build_world.specs.Elements.{At, children_of}
use Rattle.build_world.specs.Instances.{seen_target}
use Rattle.result_cache.specs.Journal.{Journal}
use Rattle.result_cache.specs.declared.record.Segment.{Segment}
use Rattle.result_cache.specs.declared.record.Segment.TheVariants.{Call}
use Rattle.result_cache.specs.declared.request.RequestKey.{RequestKey}
use Rattle.result_cache.specs.declared.request.RequestResult.{RequestResult}
use Rattle.task_trait.specs.declared.tools.ToolInput.{ToolInput}
use Rattle.target_body.specs.Played.{Done}
use Rattle.target_body.specs.Children.{
  Kind as TheKind,
  group_element,
  on_error_element,
  task_element,
}
use Rattle.target_body.specs.Pieces.{Chooser, choice_of}
use Rattle.target_body.specs.States.{Run, State, Stopped, faulted, failed, progress_of}
use Rattle.target_body.specs.declared.children.Kind.{Kind}
use Rattle.target_body.specs.declared.children.Kind.TheVariants.{Group, OnError, Task}
use Rattle.target_body.specs.declared.run_context.RunContext.{RunContext}
use Rattle.target_body.specs.declared.state.State.{State as Held}
use Rattle.target_body.specs.declared.steps.Ending.{Ending}
use Rattle.target_body.specs.declared.steps.Ending.TheVariants.{Fine, Faulted, Failed}

abbrev pub seen_run : RunContext → Run
seen_run context = record {
  files = context.world.now.tree.files;
  instance = context.id.now.instance;
  target = seen_target context.target.now;
}

-- what the build decides by the lists of a bucket
abbrev pub seen_chooser : RunContext → Chooser
seen_chooser context = choice_of context.world.now.mode (seen_run context)

abbrev pub seen_state : Held → Journal → State
seen_state s journal = record {
  scope = s.scope;
  task_scope = unwrap_or s.task_scope s.scope;
  unseen = s.unseen;
  journal = journal;
  written = s.written;
  decisions = s.decisions;
  items = s.items;
  changes = s.changes;
  notes = s.notes;
}

abbrev pub seen_done : Held → Journal → List (Name × ToolInput) → Done
seen_done s journal tools = record { segments = s.segments; tools = tools; journal = journal }

-- how a part ends in this state
abbrev pub ended : Ending → State → Result State Stopped
ended Fine s = Ok s
ended Faulted s = Err (faulted (progress_of s))
ended Failed s = Err (failed s)

-- a child of the target by its place; at no child's place, the target itself
abbrev pub child_at : Run → ℕ → At
child_at run place = get_or (children_of run.target.element) place run.target.element

abbrev pub seen_kind : Kind → TheKind
seen_kind Group = group_element
seen_kind OnError = on_error_element
seen_kind Task = task_element

-- what a call leaves in the record
abbrev pub call_segment : RequestKey × RequestResult → List Segment
call_segment (key, result) = Call key result.runs ∷ []
