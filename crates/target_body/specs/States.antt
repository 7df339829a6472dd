-- What the run of a target has come to, and where it stops. (Target element)
use Rattle.std.specs.Prelude.{
  ℕ,
  ◌+◌,
  true,
  false,
  List,
  [],
  ◌∷◌,
  ◌++◌,
  Option,
  Some,
  None,
  Result,
  Ok,
  Err,
}
use Rattle.std.specs.List.{find}
use Rattle.std.specs.Str.{bytes_eq}
use Rattle.msb_laws.specs.Words.{Name}
use Rattle.file_store.specs.declared.tree.File.{File}
use Rattle.msb_values.specs.Pairs.{all_put}
use Rattle.msb_values.specs.declared.change.Change.{Change}
use Rattle.msb_values.specs.declared.item.Item.{Item}
use Rattle.msb_values.specs.declared.key.InstanceKey.{InstanceKey}
use Rattle.msb_values.specs.declared.note.Note.{Note}
use Rattle.msb_values.specs.declared.note.Note.TheVariants.{Fail}
use Rattle.msb_values.specs.declared.act.Act.{Act}
use Rattle.msb_values.specs.declared.scope.Scope.{Scope}
use Rattle.result_cache.specs.Journal.{Journal}
use Rattle.result_cache.specs.declared.record.Decision.{Decision}
use Rattle.result_cache.specs.declared.run.RunId.{RunId}
use Rattle.build_meaning.specs.Walk.{Outcome}
use Rattle.build_world.specs.Faults.{fault_text}
use Rattle.build_world.specs.Instances.{UsedTarget}
use Rattle.build_world.specs.declared.fault.EvalFault.{EvalFault}
use Rattle.msb_files.specs.Views as views
use Rattle.msb_expand.specs.declared.lens.Bucket.{Bucket}
use Rattle.msb_items.specs.Items.{with_list}
use Rattle.element_texts.specs.Contexts.{ElementContext, item_context}
use Rattle.msb_values.specs.Changes.{all_applied}
use Rattle.task_trait.specs.Tools.{act_size}
use Rattle.target_texts.specs.Made.{Made}

-- the target of this name
abbrev pub target_named : List UsedTarget → Name → Option UsedTarget
target_named targets name = find (λ target. bytes_eq target.name name) targets

-- a run: the files as they stood at the start, the project with its global properties, and the
-- target
pub record Run : Type 0 where
  pub files : List File
  pub instance : InstanceKey
  pub target : UsedTarget

abbrev pub run_at : List File → RunId → UsedTarget → Run
run_at files id target = record { files = files; instance = id.instance; target = target }

-- The scope of the bucket at hand, and the scope that its tasks see, which is another one where
-- they run on a part of a list. The changes of the task element at hand, which neither has yet. The
-- journal of files, and the number of bytes that the run itself has written. Then what its record
-- says: what was decided of each bucket, the items that are returned, the changes of the request's
-- scope, and the notes.
pub record State : Type 0 where
  pub scope : Scope
  pub task_scope : Scope
  pub unseen : List Change
  pub journal : Journal
  pub written : ℕ
  pub decisions : List Decision
  pub items : List Item
  pub changes : List Change
  pub notes : List Note

-- at the beginning of a run
abbrev pub begun : Scope → Journal → State
begun scope journal = record {
  scope = scope;
  task_scope = scope;
  unseen = [];
  journal = journal;
  written = 0;
  decisions = [];
  items = [];
  changes = [];
  notes = [];
}

-- a bucket begins: it sees of the batched lists only its own items (MSBuild batching)
abbrev pub entered : Scope → Bucket → State → State
entered found bucket s =
    let scope : Scope = record found { items = all_put found.items bucket.lists } in
    record s { scope = scope; task_scope = scope; unseen = [] }

-- tasks see these items of a type, and everything else sees all of them
abbrev pub on_part : Name → List Item → State → State
on_part kind items s = record s { task_scope = with_list s.scope kind items }

-- changes are made in both scopes
abbrev pub changed : List Change → State → State
changed changes s = record s {
  scope = all_applied changes s.scope;
  task_scope = all_applied changes s.task_scope;
}

-- the changes of a group, which both scopes have at once
abbrev pub after_group : List Change → State → State
after_group changes s = record (changed changes s) { changes = s.changes ++ changes }

-- changes of the task element at hand, which stay out of the scopes until it is over
abbrev pub with_changes : List Change → State → State
with_changes changes s = record s { unseen = s.unseen ++ changes; changes = s.changes ++ changes }

-- the child is over
abbrev pub settled : State → State
settled s = changed s.unseen (record s { unseen = [] })

abbrev pub with_notes : List Note → State → State
with_notes notes s = record s { notes = s.notes ++ notes }

abbrev pub with_items : List Item → State → State
with_items items s = record s { items = s.items ++ items }

abbrev pub with_decision : Decision → State → State
with_decision decision s = record s { decisions = s.decisions ++ decision ∷ [] }

abbrev pub with_journal : Journal → State → State
with_journal journal s = record s { journal = journal }

-- a file was written or removed
abbrev pub with_act : Act → Journal → State → State
with_act act journal s = record s { journal = journal; written = s.written + act_size act }

-- how far a run has come: the journal of files, and what its record says
pub record Progress : Type 0 where
  pub journal : Journal
  pub decisions : List Decision
  pub changes : List Change
  pub notes : List Note

abbrev pub progress_of : State → Progress
progress_of s = record {
  journal = s.journal;
  decisions = s.decisions;
  changes = s.changes;
  notes = s.notes;
}

-- why a run stops: a text has a fault, behind which nothing looks at a scope; or a task has failed,
-- behind which Outputs may be inferred
pub data Stopped : Type 0 where
  faulted : Progress → Stopped
  failed : State → Stopped

abbrev pub progress_at : Stopped → Progress
progress_at (faulted p) = p
progress_at (failed s) = progress_of s

-- a fault is noted as an error, and stops the run
abbrev pub stop_at : EvalFault → State → Stopped
stop_at fault s = faulted (progress_of (with_notes (Fail (fault_text fault) ∷ []) s))

abbrev pub stopped_by : Option EvalFault → State → Result State Stopped
stopped_by None s = Ok s
stopped_by (Some fault) s = Err (stop_at fault s)

abbrev pub or_stop : {X : Type 0} → State → Result X EvalFault → Result X Stopped
or_stop s (Ok x) = Ok x
or_stop s (Err fault) = Err (stop_at fault s)

-- what was made is kept, also up to a fault
abbrev pub taken : Made → State → Result State Stopped
taken made s = stopped_by made.fault (with_changes made.changes s)

-- the files as the run sees them
abbrev pub view_of : Run → State → views.View
view_of run s = record { files = run.files; journal = s.journal }

-- what the texts of a target see in a scope
abbrev pub context_in : Run → State → Scope → ElementContext
context_in run s scope = item_context (views.paths (view_of run s)) run.instance.path scope

-- what the record says of a run that came to its end, and of one that stopped: what went before is
-- kept, and nothing is returned
abbrev pub outcome_of : Result State Stopped → Outcome
outcome_of (Ok s) = record
    { ok = true; decisions = s.decisions; items = s.items; changes = s.changes; notes = s.notes }
outcome_of (Err stop) = let p : Progress = progress_at stop in record
    { ok = false; decisions = p.decisions; items = []; changes = p.changes; notes = p.notes }
