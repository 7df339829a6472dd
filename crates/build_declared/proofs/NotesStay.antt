-- The notes of a run stay in its record.
use Rattle.std.proofs.Common.{
  ◌≡◌,
  ℕ,
  Bool,
  true,
  false,
  List,
  [],
  ◌∷◌,
  Option,
  None,
  Some,
  ap,
  sym,
  subst,
}
use Rattle.std.specs.Prelude.{Result, Ok, Err}
use Rattle.msb_laws.specs.Results as results
use Rattle.msb_laws.specs.Results.{map_ok}
use Rattle.msb_values.specs.Keys.{key_of}
use Rattle.msb_values.specs.declared.change.Change.{Change}
use Rattle.msb_values.specs.declared.item.Item.{Item}
use Rattle.msb_values.specs.declared.note.Note.{Note}
use Rattle.msb_values.specs.declared.note.Note.TheVariants.{Fail}
use Rattle.msb_values.specs.declared.scope.Scope.{Scope}
use Rattle.msb_elements.specs.Nodes.{name_of}
use Rattle.msb_expand.specs.declared.lens.Bucket.{Bucket}
use Rattle.result_cache.specs.Lists.{In}
use Rattle.result_cache.specs.declared.run.RunId.{RunId}
use Rattle.result_cache.specs.declared.record.Decision.{Decision}
use Rattle.build_world.specs.Elements.{At, children_of}
use Rattle.build_world.specs.Faults.{fault_text}
use Rattle.build_world.specs.declared.fault.EvalFault.{EvalFault}
use Rattle.build_meaning.proofs.MeaningDerived.{in-left}
use Rattle.msb_items.specs.TargetGroups.{group_changes}
use Rattle.task_trait.specs.declared.tools.Param.{Param}
use Rattle.task_trait.specs.declared.tools.TaskOutput.{TaskOutput}
use Rattle.task_trait.specs.declared.tools.ToolAnswer.{ToolAnswer}
use Rattle.task_trait.specs.declared.tools.ToolInput.{ToolInput}
use Rattle.target_incremental.specs.declared.decision.Choice.{Choice}
use Rattle.target_incremental.specs.declared.decision.Choice.TheVariants.{
  Run as RunAll,
  Skip,
  Nothing,
  Part,
}
use Rattle.target_texts.specs.declared.on_error.OnError.{OnError}
use Rattle.target_texts.specs.declared.on_error.OnError.TheVariants.{Stop, Warn, Continue}
use Rattle.target_texts.specs.Made.{Made}
use Rattle.target_texts.specs.Inferred.{inferred_at}
use Rattle.target_texts.specs.Parameters.{task_buckets}
use Rattle.target_texts.specs.Lists.{Lists}
use Rattle.target_texts.specs.OnErrors.{notes_by}
use Rattle.target_texts.specs.Returned.{returns_of}
use Rattle.target_body.specs.Work.{Work, done, followed_by, unless_stopped, each_in_turn}
use Rattle.target_body.specs.States.{
  Run,
  State,
  Stopped,
  faulted,
  failed,
  entered,
  with_notes,
  with_items,
  with_decision,
  with_changes,
  after_group,
  stop_at,
  settled,
  or_stop,
  stopped_by,
  taken,
  context_in,
}
use Rattle.target_body.specs.Tasks.{
  call_context,
  ended_by,
  outputs_if,
  answered_to,
  readied,
  answered_if,
  called_with,
  call,
  called,
  inferred,
  still_failed,
  then_inferred,
  task,
}
use Rattle.target_body.specs.Children.{
  group,
  Kind,
  group_element,
  on_error_element,
  task_element,
  kind_of,
  child_by,
  child,
  children,
}
use Rattle.target_body.specs.Returned.{items_if, returned}
use Rattle.target_body.specs.Pieces.{
  lists_at,
  treated,
  on_old,
  word_of,
  decided,
  or_failed,
  Chooser,
  chosen_or_run,
  bucket_by,
}
use Rattle.build_declared.proofs.PartEnds.{progress_in}
use Rattle.build_declared.specs.Ends.{End}
use Rattle.build_declared.proofs.Alones.{some-same, end-bound, KeepsNotes, keeps-then, keeps-each}
use Rattle.build_declared.proofs.Held.{if-leaves}

-- a result has the notes of a state
abbrev pub Has : State → Result State Stopped → Type 0
Has s r = (note : Note) → In note s.notes → In note (progress_in r).notes

pub taken-has : (m : Made) (s : State) → Has s (taken m s)
taken-has m s = go m.fault
  where
    go : (fault : Option EvalFault) → Has s (stopped_by fault (with_changes m.changes s))
    go None note i = i
    go (Some fault) note i = in-left note s.notes (Fail (fault_text fault) ∷ []) i

pub ended-has : (on_error : OnError) (ok : Bool) (s : State) → Has s (ended_by on_error ok s)
ended-has on_error true s note i = i
ended-has Stop false s note i = i
ended-has Warn false s note i = i
ended-has Continue false s note i = i

pub and-has : (s : State) (r : Result State Stopped) (f : State → Result State Stopped) → Has s r →
    ((t : State) → Has t (f t)) → Has s (results.and_then r f)
and-has s (Ok t) f h g note i = g t note (h note i)
and-has s (Err d) f h g note i = h note i

pub settled-has : (s : State) (r : Result State Stopped) → Has s r → Has s (map_ok settled r)
settled-has s (Ok t) h note i = h note i
settled-has s (Err d) h note i = h note i

pub still-has : (s : State) (r : Result State Stopped) → Has s r → Has s (still_failed r)
still-has s (Ok t) h note i = h note i
still-has s (Err d) h note i = h note i

module _ (tools : List ℕ → ToolInput → ToolAnswer) (id : RunId) (run : Run) where
  abbrev Keeps : State → Work (Result State Stopped) → Type 0
  Keeps s v = KeepsNotes tools id s v

  -- a part that is over
  pub over : (s : State) (r : Result State Stopped) → Has s r → Keeps s (done r)
  over s r h j ps E e note i =
      let same : record { value = r; journal = j; acts = ps } ≡ E =
      some-same (record { value = r; journal = j; acts = ps }) E e in
      subst (λ (z : End (Result State Stopped)). In note (progress_in z.value).notes) same
      (h note i)

  -- a part whose end is looked at
  then-over : (s : State) (v : Work (Result State Stopped)) (f : Result State Stopped →
      Result State Stopped) → Keeps s v → ((r : Result State Stopped) → Has s r → Has s (f r)) →
      Keeps s (followed_by v (λ end. done (f end)))
  then-over s v f h g j ps E e note i =
      let x = end-bound tools id v (λ end. done (f end)) j ps E e in
      over s (f x.0.value) (g x.0.value (h j ps x.0 x.1)) x.0.journal x.0.acts E x.2 note i

  read : {X : Type 0} (s : State) (x : Result X EvalFault) (next : X →
      Work (Result State Stopped)) → ((y : X) → Keeps s (next y)) →
      Keeps s (unless_stopped (or_stop s x) next)
  read s (Ok y) next f = f y
  read s (Err fault) next f = over s (Err (stop_at fault s))
      (λ note i. in-left note s.notes (Fail (fault_text fault) ∷ []) i)

  -- ---- tasks

  pub answered-has : (e : At) (gives : Bool) (bucket : Bucket) (on_error : OnError)
      (x : State × TaskOutput) → Has x.0 (answered_to run e gives bucket on_error x)
  answered-has e gives bucket on_error x =
      and-has x.0 (taken (outputs_if gives (call_context run x.0 bucket) x.1.outputs e)
      (with_notes (notes_by on_error x.1.notes) x.0)) (ended_by on_error x.1.ok)
      (λ note i. taken-has (outputs_if gives (call_context run x.0 bucket) x.1.outputs e)
      (with_notes (notes_by on_error x.1.notes) x.0) note
      (in-left note x.0.notes (notes_by on_error x.1.notes) i))
      (ended-has on_error x.1.ok)

  with-keeps : (e : At) (gives : Bool) (bucket : Bucket) (s : State)
      (ready : Option (OnError × List Param)) → Keeps s (called_with run e gives bucket s ready)
  with-keeps e gives bucket s None = over s (Ok s) (λ note i. i)
  with-keeps e gives bucket s (Some ready) = λ j ps E h note i.
      let x = end-bound tools id (answered_if (key_of (name_of e.node)) run s e ready.1)
      (λ x. done (answered_to run e gives bucket ready.0 x)) j ps E h in
      let same : x.0.value.0.notes ≡ s.notes = ap (λ (z : State). z.notes)
      (if-leaves tools id run (key_of (name_of e.node)) e ready.1 s j ps x.0 x.1) in
      over s (answered_to run e gives bucket ready.0 x.0.value)
      (λ n u. answered-has e gives bucket ready.0 x.0.value n (subst (In n) (sym same) u))
      x.0.journal x.0.acts E x.2 note i

  pub call-keeps : (e : At) (gives : Bool) (bucket : Bucket) (s : State) →
      Keeps s (call run e gives bucket s)
  call-keeps e gives bucket s = read s (readied (call_context run s bucket) e)
      (called_with run e gives bucket s) (with-keeps e gives bucket s)

  called-keeps : (e : At) (gives : Bool) (s : State) → Keeps s (called run e gives s)
  called-keeps e gives s =
      read s (task_buckets (context_in run s s.task_scope) e)
      (λ buckets. each_in_turn (call run e gives) buckets s)
      (λ buckets. keeps-each tools id (call run e gives) (call-keeps e gives) buckets s)

  pub inferred-has : (e : At) (s : State) → Has s (inferred run e s)
  inferred-has e s = taken-has (inferred_at (context_in run s s.scope) e) s

  pub then-has : (e : At) (s : State) (r : Result State Stopped) → Has s r →
      Has s (then_inferred run e r)
  then-has e s (Ok t) h note i = inferred-has e t note (h note i)
  then-has e s (Err (failed t)) h note i =
      still-has s (inferred run e t) (λ n u. inferred-has e t n (h n u)) note i
  then-has e s (Err (faulted p)) h note i = h note i

  task-keeps : (choice : Choice) (e : At) (s : State) → Keeps s (task run choice e s)
  task-keeps RunAll e s = called-keeps e true s
  task-keeps Skip e s = over s (inferred run e s) (inferred-has e s)
  task-keeps Nothing e s = over s (Ok s) (λ note i. i)
  task-keeps (Part old) e s = then-over s (called run e false s) (then_inferred run e)
      (called-keeps e false s) (then-has e s)

  pub group-has : (e : At) (s : State) → Has s (group run e s)
  group-has e s = go (group_changes (context_in run s s.scope) e)
    where
      go : (x : Result (List Change) EvalFault) →
          Has s (map_ok (λ changes. after_group changes s) (or_stop s x))
      go (Ok changes) note i = i
      go (Err fault) note i = in-left note s.notes (Fail (fault_text fault) ∷ []) i

  pub child-keeps : (choice : Choice) (e : At) (s : State) → Keeps s (child run choice e s)
  child-keeps choice e s = then-over s (child_by (kind_of (name_of e.node)) run choice e s)
      (map_ok settled) (go (kind_of (name_of e.node))) (settled-has s)
    where
      go : (kind : Kind) → Keeps s (child_by kind run choice e s)
      go group_element = over s (group run e s) (group-has e s)
      go on_error_element = over s (Ok s) (λ note i. i)
      go task_element = task-keeps choice e s

  children-keeps : (choice : Choice) (s : State) → Keeps s (children run choice s)
  children-keeps choice s = keeps-each tools id (child run choice) (child-keeps choice)
      (children_of run.target.element) s

  treated-keeps : (choice : Choice) (items : Option (List ℕ × List Item)) (s : State) →
      Keeps s (treated run choice items s)
  treated-keeps RunAll items s = children-keeps RunAll s
  treated-keeps Skip items s = children-keeps Skip s
  treated-keeps Nothing items s = over s (Ok s) (λ note i. i)
  treated-keeps (Part old) None s = children-keeps (Part old) s
  treated-keeps (Part old) (Some typed) s = children-keeps (Part old) (on_old (Some typed) old s)

  pub returned-has : (bucket : Bucket) (s : State) → Has s (returned run bucket s)
  returned-has bucket s = go (items_if run bucket s (returns_of run.target))
    where
      go : (x : Result (List Item) EvalFault) → Has s (map_ok (λ items. with_items items s)
          (or_stop s x))
      go (Ok items) note i = i
      go (Err fault) note i = in-left note s.notes (Fail (fault_text fault) ∷ []) i

  pub word-has : (s : State) (word : Decision) (r : Result State Stopped) → Has s r →
      Has s (map_ok (with_decision word) r)
  word-has s word (Ok t) h note i = h note i
  word-has s word (Err d) h note i = h note i

  pub decided-keeps : (bucket : Bucket) (choice : Choice) (items : Option (List ℕ × List Item))
      (s : State) → Keeps s (decided run bucket choice items s)
  decided-keeps bucket choice items s =
      keeps-then tools id s (treated run choice items s)
      (λ end. done (map_ok (with_decision (word_of choice items)) (returned run bucket end)))
      (treated-keeps choice items s)
      (λ t. over t (map_ok (with_decision (word_of choice items)) (returned run bucket t))
      (word-has t (word_of choice items) (returned run bucket t) (returned-has bucket t)))

  failed-has : (s : State) (r : Result State Stopped) → Has s r → Has s (or_failed r)
  failed-has s (Ok t) h note i = h note i
  failed-has s (Err (faulted p)) h note i = h note i
  failed-has s (Err (failed t)) h note i = h note i

  pub bucket-keeps : (choose : Chooser) (scope : Scope) (bucket : Bucket) (s : State) →
      Keeps s (bucket_by choose run scope bucket s)
  bucket-keeps choose scope bucket s =
      then-over s (unless_stopped (or_stop (entered scope bucket s)
      (lists_at run bucket (entered scope bucket s)))
      (chosen_or_run choose run bucket (entered scope bucket s))) or_failed
      (read (entered scope bucket s) (lists_at run bucket (entered scope bucket s))
      (chosen_or_run choose run bucket (entered scope bucket s)) go) (failed-has s)
    where
      go : (l : Option Lists) → Keeps (entered scope bucket s)
          (chosen_or_run choose run bucket (entered scope bucket s) l)
      go None = decided-keeps bucket RunAll None (entered scope bucket s)
      go (Some lists) = decided-keeps bucket (choose lists (entered scope bucket s)) lists.items
          (entered scope bucket s)
