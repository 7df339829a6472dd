-- A run from two journals that are alike, whose buckets are done in the same way, goes step by step
-- alike.
use Rattle.std.proofs.Common.{
  ◌≡◌,
  ℕ,
  zero,
  suc,
  Bool,
  true,
  false,
  List,
  [],
  ◌∷◌,
  ◌++◌,
  length,
  Option,
  None,
  Some,
  refl,
  ap,
  ◌∙◌,
  subst,
}
use Rattle.std.specs.Prelude.{Result, Ok, Err, codes}
use Rattle.std.specs.Str.{bytes_eq}
use Rattle.msb_laws.specs.Results as results
use Rattle.msb_laws.specs.Results.{map_ok}
use Rattle.msb_values.specs.Keys.{key_of}
use Rattle.msb_values.specs.declared.change.Change.{Change}
use Rattle.msb_values.specs.declared.item.Item.{Item}
use Rattle.msb_values.specs.declared.act.Act.{Act}
use Rattle.msb_values.specs.declared.scope.Scope.{Scope}
use Rattle.msb_elements.specs.Nodes.{name_of}
use Rattle.msb_expand.specs.declared.lens.Bucket.{Bucket}
use Rattle.msb_expand.specs.Reserved.{folder_of}
use Rattle.file_store.specs.declared.tree.File.{File}
use Rattle.result_cache.specs.declared.request.RequestKey.{RequestKey}
use Rattle.result_cache.specs.declared.request.RequestResult.{RequestResult}
use Rattle.result_cache.specs.declared.record.Decision.TheVariants.{Failed as FailedWord}
use Rattle.result_cache.specs.Journal.{Journal}
use Rattle.build_world.specs.Elements.{At, children_of, attribute_of}
use Rattle.build_world.specs.declared.fault.EvalFault.{EvalFault}
use Rattle.build_meaning.specs.Walk.{Outcome}
use Rattle.build_incremental.specs.Alike.{AlikeJournals}
use Rattle.build_incremental.specs.SideBySide.{AlikeBodies}
use Rattle.element_texts.specs.Contexts.{in_bucket, item_context}
use Rattle.msb_items.specs.TargetGroups.{group_changes}
use Rattle.msb_files.specs.Views as views
use Rattle.task_trait.specs.declared.failures.Failure.{Failure}
use Rattle.task_trait.specs.declared.tools.Param.{Param}
use Rattle.task_trait.specs.declared.tools.TaskOutput.{TaskOutput}
use Rattle.task_trait.specs.declared.tools.ToolAnswer.{ToolAnswer}
use Rattle.task_trait.specs.declared.tools.ToolAnswer.TheVariants.{Unknown, Made as MadeBy}
use Rattle.task_trait.specs.declared.tools.ToolInput.{ToolInput}
use Rattle.task_kit.specs.Foreign.{foreign_input, foreign_output}
use Rattle.task_kit.specs.Tasks.{answer}
use Rattle.task_msbuild.specs.Plans.{next_calls, plan_of}
use Rattle.task_msbuild.specs.Gathered.{gathered}
use Rattle.task_msbuild.specs.declared.plans.Plan.{Plan}
use Rattle.target_incremental.specs.declared.decision.Choice.{Choice}
use Rattle.target_incremental.specs.declared.decision.Choice.TheVariants.{
  Run as RunAll,
  Skip,
  Nothing,
  Part,
}
use Rattle.target_texts.specs.declared.on_error.OnError.{OnError}
use Rattle.target_texts.specs.declared.on_error.OnError.TheVariants.{Stop, Warn, Continue}
use Rattle.target_texts.specs.Made.{Made}
use Rattle.target_texts.specs.Inferred.{inferred_at}
use Rattle.target_texts.specs.Parameters.{task_buckets}
use Rattle.target_texts.specs.Lists.{Lists, lists_by}
use Rattle.target_texts.specs.Returned.{in_target, returns_of, returned_items}
use Rattle.target_texts.specs.Batched.{target_buckets}
use Rattle.target_texts.specs.OnErrors.{notes_by}
use Rattle.target_body.specs.Work.{Work, done, unless_stopped, each_in_turn}
use Rattle.target_body.specs.States.{
  Run,
  State,
  Stopped,
  faulted,
  failed,
  begun,
  entered,
  with_journal,
  with_act,
  with_notes,
  with_items,
  with_decision,
  with_changes,
  after_group,
  stop_at,
  settled,
  or_stop,
  stopped_by,
  taken,
  view_of,
  context_in,
  outcome_of,
  Progress,
}
use Rattle.target_body.specs.Answers.{
  all_acted,
  given,
  call_at_once,
  make_calls,
  msbuild,
  tool,
  not_built_in,
  answered_by,
  answered,
}
use Rattle.target_body.specs.Tasks.{
  call_context,
  failed_by,
  ended_by,
  outputs_if,
  answered_to,
  readied,
  answered_if,
  called_with,
  call,
  called,
  inferred,
  then_inferred,
  task,
  still_failed,
}
use Rattle.target_body.specs.Children.{
  group,
  Kind,
  group_element,
  on_error_element,
  task_element,
  kind_of,
  child_by,
  child,
  children,
}
use Rattle.target_body.specs.Returned.{items_if, returned}
use Rattle.target_body.specs.Pieces.{
  lists_at,
  treated,
  on_old,
  word_of,
  decided,
  as_failed,
  or_failed,
  Chooser,
  chosen_or_run,
  bucket_by,
}
use Rattle.target_body.specs.Bodies.{buckets_by, work_by, body_by}
use Rattle.build_declared.specs.Written.{bytes_in}
use Rattle.build_declared.proofs.Twins.{
  AlikeWork,
  bound,
  bodies,
  Twin,
  by-twin,
  TwinStop,
  TwinEnd,
  unless-twin,
  then-twin,
  each-twin,
  or-stop-twin,
  settled-twin,
  outcome-twin,
}

-- what is asked of files gives the same by journals that are alike
pub record LooksSame (files : List File) (W : List ℕ → Type 0) : Type 0 where
  pub paths : (j k : Journal) → AlikeJournals (bytes_in files) W j k →
      views.paths (record { files = files; journal = j })
      ≡ views.paths (record { files = files; journal = k })
  pub answers : (j k : Journal) → AlikeJournals (bytes_in files) W j k →
      (name dir : List ℕ) (params : List Param) (written : ℕ) →
      answer name dir (record { files = files; journal = j }) params written
      ≡ answer name dir (record { files = files; journal = k }) params written
  pub inputs : (j k : Journal) → AlikeJournals (bytes_in files) W j k →
      (dir : List ℕ) (params : List Param) →
      foreign_input dir (record { files = files; journal = j }) params
      ≡ foreign_input dir (record { files = files; journal = k }) params

module _ (run : Run) (W : List ℕ → Type 0) (looks : LooksSame run.files W) where
  abbrev T : List ℕ → Option (List ℕ)
  T = bytes_in run.files

  abbrev Same : State → State → Type 0
  Same = Twin T W

  abbrev Goes : Work (Result State Stopped) → Work (Result State Stopped) → Type 0
  Goes = AlikeWork T W (TwinEnd T W)

  abbrev Ends : Result State Stopped → Result State Stopped → Type 0
  Ends = TwinEnd T W

  place-same : (s t : State) (scope : Scope) → Same s t →
      context_in run s scope ≡ context_in run t scope
  place-same s t scope h = ap (λ ps. item_context ps run.instance.path scope)
      (looks.paths s.journal t.journal h.alike)

  scope-same : (s t : State) → Same s t → s.scope ≡ t.scope
  scope-same s t h = ap (λ (z : State). z.scope) h.same

  acted-same : (s t : State) → Same s t → s.written ≡ t.written
  acted-same s t h = ap (λ (z : State). z.written) h.same

  -- where the texts of a place give the same
  at-place : (s t : State) → Same s t → context_in run s s.scope ≡ context_in run t t.scope
  at-place s t h = place-same s t s.scope h ∙ ap (context_in run t) (scope-same s t h)

  at-tasks : (s t : State) → Same s t → context_in run s s.task_scope
      ≡ context_in run t t.task_scope
  at-tasks s t h = place-same s t s.task_scope h
      ∙ ap (context_in run t) (ap (λ (z : State). z.task_scope) h.same)

  -- ---- what is made in a state

  taken-twin : (m : Made) (s t : State) → Same s t → Ends (taken m s) (taken m t)
  taken-twin m s t h = go m.fault
    where
      go : (fault : Option EvalFault) → Ends (stopped_by fault (with_changes m.changes s))
          (stopped_by fault (with_changes m.changes t))
      go None = by-twin T W (λ z. Same (with_changes m.changes s)
          (with_changes m.changes z)) s t h (λ k a. record { alike = a; same = refl })
      go (Some fault) =
          by-twin T W (λ z. Ends (stopped_by (Some fault) (with_changes m.changes s))
          (stopped_by (Some fault) (with_changes m.changes z))) s t h (λ k a. record {
            alike =
                a;
            same = refl;
          })

  taken-same : (m n : Made) (s t : State) → m ≡ n → Same s t → Ends (taken m s) (taken n t)
  taken-same m n s t e h = subst (λ z. Ends (taken m s) (taken z t)) e (taken-twin m s t h)

  notes-twin : (notes : List _) (s t : State) → Same s t →
      Same (with_notes notes s) (with_notes notes t)
  notes-twin notes s t h = by-twin T W (λ z. Same (with_notes notes s)
      (with_notes notes z)) s t h (λ k a. record { alike = a; same = refl })

  -- ---- answers

  abbrev TwinOutput : State × TaskOutput → State × TaskOutput → Type 0
  TwinOutput x y = Same x.0 y.0 × (x.1 ≡ y.1)

  abbrev Answers : Work (State × TaskOutput) → Work (State × TaskOutput) → Type 0
  Answers = AlikeWork T W TwinOutput

  write-twin : (act : Act) (s t : State) → Same s t → (j k : Journal) → AlikeJournals T W j k →
      Same (with_act act j s) (with_act act k t)
  write-twin act s t h j k a = by-twin T W (λ z. Same (with_act act j s)
      (with_act act k z)) s t h (λ l b. record { alike = a; same = refl })

  journal-twin : (s t : State) → Same s t → (j k : Journal) → AlikeJournals T W j k →
      Same (with_journal j s) (with_journal k t)
  journal-twin s t h j k a = by-twin T W (λ z. Same (with_journal j s)
      (with_journal k z)) s t h (λ l b. record { alike = a; same = refl })

  all-acted : (acts : List Act) (s t : State) → Same s t →
      AlikeWork T W Same (all_acted acts s) (all_acted acts t)
  all-acted [] s t h = h
  all-acted (act ∷ acts) s t h = (
    refl,
    λ j k a. all-acted acts (with_act act j s)
        (with_act act k t) (write-twin act s t h j k a),
  )

  given-twin : (output : TaskOutput) (s t : State) → Same s t →
      Answers (given s output) (given t output)
  given-twin output s t h =
      bound T W Same TwinOutput (all_acted output.acts s) (all_acted output.acts t)
      (λ after. done (after, output)) (λ after. done (after, output))
      (all-acted output.acts s t h) (λ x y e. (e, refl))

  abbrev TwinResults : State × List RequestResult → State × List RequestResult → Type 0
  TwinResults x y = Same x.0 y.0 × (x.1 ≡ y.1)

  once-twin : (keys : List RequestKey) (s t : State) → Same s t →
      AlikeWork T W TwinResults (call_at_once keys s) (call_at_once keys t)
  once-twin [] s t h = (h, refl)
  once-twin (key ∷ keys) s t h = (refl, refl, λ answers j k a. (journal-twin s t h j k a, refl))

  calls-twin : (rounds : ℕ) (plan : Plan) (answers : List RequestResult) (s t : State) →
      Same s t → AlikeWork T W TwinResults (make_calls rounds plan answers s)
      (make_calls rounds plan answers t)
  calls-twin zero plan answers s t h = (h, refl)
  calls-twin (suc rounds) plan answers s t h =
      bound T W TwinResults TwinResults (call_at_once (next_calls plan answers) s)
      (call_at_once (next_calls plan answers) t)
      (λ x. make_calls rounds plan (answers ++ x.1) x.0)
      (λ x. make_calls rounds plan (answers ++ x.1) x.0)
      (once-twin (next_calls plan answers) s t h)
      (λ x y e. subst (λ (results : List RequestResult).
      AlikeWork T W TwinResults (make_calls rounds plan (answers ++ x.1) x.0)
      (make_calls rounds plan (answers ++ results) y.0)) e.1
      (calls-twin rounds plan (answers ++ x.1) x.0 y.0 e.0))

  msbuild-twin : (params : List Param) (s t : State) → Same s t →
      Answers (msbuild run s params) (msbuild run t params)
  msbuild-twin params s t h =
      let plan : Plan = plan_of run.files (folder_of run.instance.path) run.instance.globals params
      in
      bound T W TwinResults TwinOutput (make_calls (length plan.calls) plan [] s)
      (make_calls (length plan.calls) plan [] t)
      (λ x. done (x.0, gathered plan x.1)) (λ x. done (x.0, gathered plan x.1))
      (calls-twin (length plan.calls) plan [] s t h) (λ x y e. (e.0, ap (gathered plan) e.1))

  tool-twin : (name : List ℕ) (x : Result ToolInput Failure) (s t : State) → Same s t →
      Answers (tool name s x) (tool name t x)
  tool-twin name (Ok input) s t h = (
    refl,
    refl,
    λ a. subst (λ n. Answers (given s (foreign_output name s.written a))
        (given t (foreign_output name n a))) (acted-same s t h)
        (given-twin (foreign_output name s.written a) s t h),
  )
  tool-twin name (Err failure) s t h = (h, refl)

  built-twin : (b : Bool) (name : List ℕ) (params : List Param) (s t : State) → Same s t →
      Answers (not_built_in b run s name params) (not_built_in b run t name params)
  built-twin true name params s t h = msbuild-twin params s t h
  built-twin false name params s t h =
      subst (λ x. Answers (tool name s (foreign_input (folder_of run.instance.path)
      (view_of run s) params)) (tool name t x))
      (looks.inputs s.journal t.journal h.alike (folder_of run.instance.path) params)
      (tool-twin name (foreign_input (folder_of run.instance.path) (view_of run s) params) s t h)

  by-answer : (x : ToolAnswer) (name : List ℕ) (params : List Param) (s t : State) → Same s t →
      Answers (answered_by x run s name params) (answered_by x run t name params)
  by-answer (MadeBy output) name params s t h = given-twin output s t h
  by-answer Unknown name params s t h = built-twin
      (bytes_eq name (codes "msbuild")) name params s t h

  answered-twin : (name : List ℕ) (params : List Param) (s t : State) → Same s t →
      Answers (answered run s name params) (answered run t name params)
  answered-twin name params s t h =
      subst (λ x. Answers (answered run s name params) (answered_by x run t name params))
      (looks.answers s.journal t.journal h.alike name (folder_of run.instance.path) params s.written
      ∙ ap (λ n. answer name (folder_of run.instance.path) (view_of run t) params n)
      (acted-same s t h))
      (by-answer (answer name (folder_of run.instance.path)
      (view_of run s) params s.written) name params s t h)

  answered-if : (name : Option (List ℕ)) (e : At) (params : List Param) (s t : State) → Same s t →
      Answers (answered_if name run s e params) (answered_if name run t e params)
  answered-if (Some name) e params s t h = answered-twin name params s t h
  answered-if None e params s t h = (h, refl)

  -- ---- tasks

  failed-twin : (on_error : OnError) (s t : State) → Same s t →
      Ends (failed_by on_error s) (failed_by on_error t)
  failed-twin Stop s t h = h
  failed-twin Warn s t h = h
  failed-twin Continue s t h = h

  ended-twin : (on_error : OnError) (ok : Bool) (s t : State) → Same s t →
      Ends (ended_by on_error ok s) (ended_by on_error ok t)
  ended-twin on_error true s t h = h
  ended-twin on_error false s t h = failed-twin on_error s t h

  and-twin : (x y : Result State Stopped) (f g : State → Result State Stopped) → Ends x y →
      ((s t : State) → Same s t → Ends (f s) (g t)) →
      Ends (results.and_then x f) (results.and_then y g)
  and-twin (Ok s) (Ok t) f g h next = next s t h
  and-twin (Ok s) (Err e) f g h next = absurd h
  and-twin (Err d) (Ok t) f g h next = absurd h
  and-twin (Err d) (Err e) f g h next = h

  call-place : (s t : State) (bucket : Bucket) → Same s t →
      call_context run s bucket ≡ call_context run t bucket
  call-place s t bucket h = ap (λ p. in_bucket p bucket) (at-tasks s t h)

  answered-to : (e : At) (gives : Bool) (bucket : Bucket) (on_error : OnError)
      (x y : State × TaskOutput) → TwinOutput x y →
      Ends (answered_to run e gives bucket on_error x) (answered_to run e gives bucket on_error y)
  answered-to e gives bucket on_error x y h =
      subst (λ o. Ends (answered_to run e gives bucket on_error x)
      (answered_to run e gives bucket on_error (y.0, o))) h.1
      (and-twin (taken (outputs_if gives (call_context run x.0 bucket) x.1.outputs e)
      (with_notes (notes_by on_error x.1.notes) x.0))
      (taken (outputs_if gives (call_context run y.0 bucket) x.1.outputs e)
      (with_notes (notes_by on_error x.1.notes) y.0))
      (ended_by on_error x.1.ok) (ended_by on_error x.1.ok)
      (taken-same (outputs_if gives (call_context run x.0 bucket) x.1.outputs e)
      (outputs_if gives (call_context run y.0 bucket) x.1.outputs e)
      (with_notes (notes_by on_error x.1.notes) x.0)
      (with_notes (notes_by on_error x.1.notes) y.0)
      (ap (λ p. outputs_if gives p x.1.outputs e) (call-place x.0 y.0 bucket h.0))
      (notes-twin (notes_by on_error x.1.notes) x.0 y.0 h.0))
      (ended-twin on_error x.1.ok))

  called-with : (e : At) (gives : Bool) (bucket : Bucket) (s t : State) → Same s t →
      (ready : Option (OnError × List Param)) → Goes (called_with run e gives bucket s ready)
      (called_with run e gives bucket t ready)
  called-with e gives bucket s t h None = h
  called-with e gives bucket s t h (Some ready) =
      bound T W TwinOutput Ends (answered_if (key_of (name_of e.node)) run s e ready.1)
      (answered_if (key_of (name_of e.node)) run t e ready.1)
      (λ x. done (answered_to run e gives bucket ready.0 x))
      (λ x. done (answered_to run e gives bucket ready.0 x))
      (answered-if (key_of (name_of e.node)) e ready.1 s t h)
      (answered-to e gives bucket ready.0)

  -- a text is read, and then what follows
  read-twin : {X : Type 0} (x y : Result X EvalFault) (s t : State) (next then : X →
      Work (Result State Stopped)) → x ≡ y → Same s t → ((a : X) → Goes (next a) (then a)) →
      Goes (unless_stopped (or_stop s x) next) (unless_stopped (or_stop t y) then)
  read-twin x y s t next then e h f =
      subst (λ z. Goes (unless_stopped (or_stop s x) next) (unless_stopped (or_stop t z) then)) e
      (unless-twin T W (λ a b. a ≡ b) (or_stop s x)
      (or_stop t x) next then (or-stop-twin T W x s t h)
      (λ a b q. subst (λ z. Goes (next a) (then z)) q (f a)))

  call-twin : (e : At) (gives : Bool) (bucket : Bucket) (s t : State) → Same s t →
      Goes (call run e gives bucket s) (call run e gives bucket t)
  call-twin e gives bucket s t h =
      read-twin (readied (call_context run s bucket) e)
      (readied (call_context run t bucket) e) s t (called_with run e gives bucket s)
      (called_with run e gives bucket t)
      (ap (λ p. readied p e) (call-place s t bucket h)) h (called-with e gives bucket s t h)

  called-twin : (e : At) (gives : Bool) (s t : State) → Same s t →
      Goes (called run e gives s) (called run e gives t)
  called-twin e gives s t h =
      read-twin (task_buckets (context_in run s s.task_scope) e)
      (task_buckets (context_in run t t.task_scope) e) s t
      (λ buckets. each_in_turn (call run e gives) buckets s)
      (λ buckets. each_in_turn (call run e gives) buckets t)
      (ap (λ p. task_buckets p e) (at-tasks s t h)) h (λ buckets. each-twin T W (call run e gives)
      (call run e gives) (call-twin e gives) buckets s t h)

  inferred-twin : (e : At) (s t : State) → Same s t → Ends (inferred run e s) (inferred run e t)
  inferred-twin e s t h = taken-same (inferred_at (context_in run s s.scope) e)
      (inferred_at (context_in run t t.scope) e) s t (ap (λ p. inferred_at p e) (at-place s t h)) h

  still-twin : (x y : Result State Stopped) → Ends x y → Ends (still_failed x) (still_failed y)
  still-twin (Ok s) (Ok t) h = h
  still-twin (Ok s) (Err e) h = absurd h
  still-twin (Err d) (Ok t) h = absurd h
  still-twin (Err d) (Err e) h = h

  then-inferred : (e : At) (x y : Result State Stopped) → Ends x y →
      Ends (then_inferred run e x) (then_inferred run e y)
  then-inferred e (Ok s) (Ok t) h = inferred-twin e s t h
  then-inferred e (Ok s) (Err d) h = absurd h
  then-inferred e (Err d) (Ok t) h = absurd h
  then-inferred e (Err (failed s)) (Err (failed t)) h =
      still-twin (inferred run e s) (inferred run e t) (inferred-twin e s t h)
  then-inferred e (Err (faulted p)) (Err (faulted q)) h = h
  then-inferred e (Err (faulted s)) (Err (failed t)) h = absurd h
  then-inferred e (Err (failed s)) (Err (faulted t)) h = absurd h

  pub task-twin : (choice : Choice) (e : At) (s t : State) → Same s t →
      Goes (task run choice e s) (task run choice e t)
  task-twin RunAll e s t h = called-twin e true s t h
  task-twin Skip e s t h = inferred-twin e s t h
  task-twin Nothing e s t h = h
  task-twin (Part old) e s t h =
      bound T W Ends Ends (called run e false s) (called run e false t)
      (λ end. done (then_inferred run e end)) (λ end. done (then_inferred run e end))
      (called-twin e false s t h) (then-inferred e)

  -- ---- children

  group-twin : (e : At) (s t : State) → Same s t → Ends (group run e s) (group run e t)
  group-twin e s t h =
      subst (λ x. Ends (group run e s) (map_ok (λ changes. after_group changes t) (or_stop t x)))
      (ap (λ p. group_changes p e) (at-place s t h))
      (go (group_changes (context_in run s s.scope) e))
    where
      go : (x : Result (List Change) EvalFault) →
          Ends (map_ok (λ changes. after_group changes s) (or_stop s x))
          (map_ok (λ changes. after_group changes t) (or_stop t x))
      go (Ok changes) = by-twin T W (λ z. Same (after_group changes s) (after_group changes z)) s t
          h (λ k a. record { alike = a; same = refl })
      go (Err fault) = by-twin T W (λ z. TwinStop T W (stop_at fault s) (stop_at fault z)) s t h
          (λ k a. record { alike = a; same = refl })

  child-by : (kind : Kind) (choice : Choice) (e : At) (s t : State) → Same s t →
      Goes (child_by kind run choice e s) (child_by kind run choice e t)
  child-by group_element choice e s t h = group-twin e s t h
  child-by on_error_element choice e s t h = h
  child-by task_element choice e s t h = task-twin choice e s t h

  map-twin : (f g : State → State) (x y : Result State Stopped) → Ends x y →
      ((s t : State) → Same s t → Same (f s) (g t)) → Ends (map_ok f x) (map_ok g y)
  map-twin f g (Ok s) (Ok t) h n = n s t h
  map-twin f g (Ok s) (Err e) h n = absurd h
  map-twin f g (Err d) (Ok t) h n = absurd h
  map-twin f g (Err d) (Err e) h n = h

  pub child-twin : (choice : Choice) (e : At) (s t : State) → Same s t →
      Goes (child run choice e s) (child run choice e t)
  child-twin choice e s t h =
      bound T W Ends Ends (child_by (kind_of (name_of e.node)) run choice e s)
      (child_by (kind_of (name_of e.node)) run choice e t) (λ end. done (map_ok settled end))
      (λ end. done (map_ok settled end))
      (child-by (kind_of (name_of e.node)) choice e s t h)
      (λ x y q. map-twin settled settled x y q (settled-twin T W))

  pub children-twin : (choice : Choice) (s t : State) → Same s t →
      Goes (children run choice s) (children run choice t)
  children-twin choice s t h = each-twin T W (child run choice) (child run choice)
      (child-twin choice) (children_of run.target.element) s t h

  -- ---- buckets

  on-old : (items : Option (List ℕ × List Item)) (old : List Item) (s t : State) → Same s t →
      Same (on_old items old s) (on_old items old t)
  on-old None old s t h = h
  on-old (Some typed) old s t h = by-twin T W (λ z. Same (on_old (Some typed) old s)
      (on_old (Some typed) old z)) s t h (λ k a. record { alike = a; same = refl })

  treated-twin : (choice : Choice) (items : Option (List ℕ × List Item)) (s t : State) → Same s t →
      Goes (treated run choice items s) (treated run choice items t)
  treated-twin RunAll items s t h = children-twin RunAll s t h
  treated-twin Skip items s t h = children-twin Skip s t h
  treated-twin Nothing items s t h = h
  treated-twin (Part old) items s t h = children-twin (Part old) (on_old items old s)
      (on_old items old t) (on-old items old s t h)

  returned-twin : (bucket : Bucket) (s t : State) → Same s t →
      Ends (returned run bucket s) (returned run bucket t)
  returned-twin bucket s t h = subst (λ x. Ends (returned run bucket s)
      (map_ok (λ items. with_items items t) (or_stop t x))) (same (returns_of run.target))
      (go (items_if run bucket s (returns_of run.target)))
    where
      same : (written : Option (List ℕ)) → items_if run bucket s written
          ≡ items_if run bucket t written
      same None = refl
      same (Some written) =
          ap (λ p. returned_items p bucket run.target.element s.items written) (at-place s t h)
          ∙ ap (λ l. returned_items (context_in run t t.scope) bucket run.target.element l written)
          (ap (λ (z : State). z.items) h.same)

      go : (x : Result (List Item) EvalFault) → Ends (map_ok (λ items. with_items items s)
          (or_stop s x)) (map_ok (λ items. with_items items t) (or_stop t x))
      go (Ok items) = by-twin T W (λ z. Same (with_items items s)
          (with_items items z)) s t h (λ k a. record { alike = a; same = refl })
      go (Err fault) = by-twin T W (λ z. Ends (map_ok (λ items. with_items items s)
          (or_stop s (Err fault))) (map_ok (λ items. with_items items z) (or_stop z (Err fault)))) s
          t h (λ k a. record { alike = a; same = refl })

  pub decided-twin : (bucket : Bucket) (choice : Choice) (items : Option (List ℕ × List Item))
      (s t : State) → Same s t → Goes (decided run bucket choice items s)
      (decided run bucket choice items t)
  decided-twin bucket choice items s t h =
      then-twin T W (treated run choice items s) (treated run choice items t)
      (λ end. done (map_ok (with_decision (word_of choice items)) (returned run bucket end)))
      (λ end. done (map_ok (with_decision (word_of choice items)) (returned run bucket end)))
      (treated-twin choice items s t h)
      (λ x y q. map-twin (with_decision (word_of choice items))
      (with_decision (word_of choice items)) (returned run bucket x) (returned run bucket y)
      (returned-twin bucket x y q)
      (λ a b r. by-twin T W (λ z. Same (with_decision (word_of choice items) a)
      (with_decision (word_of choice items) z)) a b r (λ k u. record {
        alike = u;
        same =
            refl;
      })))

  lists-same : (bucket : Bucket) (s t : State) → Same s t →
      lists_at run bucket s ≡ lists_at run bucket t
  lists-same bucket s t h = ap (λ p. lists_by (in_target p bucket) run.target.element
      (attribute_of (codes "Inputs") run.target.element)
      (attribute_of (codes "Outputs") run.target.element)) (at-place s t h)

  failed-so : (x y : Result State Stopped) → Ends x y → Ends (or_failed x) (or_failed y)
  failed-so (Ok s) (Ok t) h = h
  failed-so (Ok s) (Err e) h = absurd h
  failed-so (Err d) (Ok t) h = absurd h
  failed-so (Err (faulted p)) (Err (faulted q)) h = record {
    alike = h.alike;
    same = ap (λ (z : Progress). record z { decisions = z.decisions ++ FailedWord ∷ [] }) h.same;
  }
  failed-so (Err (failed s)) (Err (failed t)) h =
      by-twin T W (λ z. Same (with_decision FailedWord s)
      (with_decision FailedWord z)) s t h (λ k a. record { alike = a; same = refl })
  failed-so (Err (faulted s)) (Err (failed t)) h = absurd h
  failed-so (Err (failed s)) (Err (faulted t)) h = absurd h

  -- in both the same is chosen for each bucket with lists
  abbrev pub ChooseSame : Chooser → Chooser → Type 0
  ChooseSame choose choose' = (bucket : Bucket) (lists : Lists) (s t : State) → Same s t →
      lists_at run bucket s ≡ Ok (Some lists) → choose lists s ≡ choose' lists t

  module _ (choose choose' : Chooser) (agree : ChooseSame choose choose') (scope : Scope) where
    entered-twin : (bucket : Bucket) (s t : State) → Same s t →
        Same (entered scope bucket s) (entered scope bucket t)
    entered-twin bucket s t h = by-twin T W (λ z. Same (entered scope bucket s)
        (entered scope bucket z)) s t h (λ k a. record { alike = a; same = refl })

    pub bucket-twin : (bucket : Bucket) (s t : State) → Same s t →
        Goes (bucket_by choose run scope bucket s) (bucket_by choose' run scope bucket t)
    bucket-twin bucket s t h =
        let x : State = entered scope bucket s in
        let y : State = entered scope bucket t in
        let q = entered-twin bucket s t h in
        bound T W Ends Ends (unless_stopped (or_stop x (lists_at run bucket x))
        (chosen_or_run choose run bucket x)) (unless_stopped
        (or_stop y (lists_at run bucket y)) (chosen_or_run choose' run bucket y))
        (λ end. done (or_failed end)) (λ end. done (or_failed end))
        (subst (λ z. Goes (unless_stopped (or_stop x (lists_at run bucket x))
        (chosen_or_run choose run bucket x)) (unless_stopped (or_stop y z)
        (chosen_or_run choose' run bucket y))) (lists-same bucket x y q)
        (go (lists_at run bucket x) refl)) failed-so
      where
        go : (l : Result (Option Lists) EvalFault) →
            lists_at run bucket (entered scope bucket s) ≡ l →
            Goes (unless_stopped (or_stop (entered scope bucket s) l)
            (chosen_or_run choose run bucket (entered scope bucket s)))
            (unless_stopped (or_stop (entered scope bucket t) l)
            (chosen_or_run choose' run bucket (entered scope bucket t)))
        go (Ok None) e = decided-twin bucket RunAll None (entered scope bucket s)
            (entered scope bucket t) (entered-twin bucket s t h)
        go (Ok (Some lists)) e =
            subst (λ c. Goes (decided run bucket (choose lists (entered scope bucket s)) lists.items
            (entered scope bucket s)) (decided run bucket c lists.items
            (entered scope bucket t)))
            (agree bucket lists (entered scope bucket s) (entered scope bucket t)
            (entered-twin bucket s t h) e)
            (decided-twin bucket (choose lists (entered scope bucket s)) lists.items
            (entered scope bucket s) (entered scope bucket t) (entered-twin bucket s t h))
        go (Err fault) e =
            let none : Result (Option Lists) EvalFault = Err fault in
            or-stop-twin T W none (entered scope bucket s) (entered scope bucket t)
            (entered-twin bucket s t h)

    pub buckets-twin : (s t : State) → Same s t →
        Goes (buckets_by choose run scope s) (buckets_by choose' run scope t)
    buckets-twin s t h =
        subst (λ z. Goes (buckets_by choose run scope s)
        (unless_stopped (or_failed (or_stop t z))
        (λ found. each_in_turn (bucket_by choose' run scope) found t)))
        (ap (λ p. target_buckets p run.target.element) (at-place s t h))
        (go (target_buckets (context_in run s s.scope) run.target.element))
      where
        go : (x : Result (List Bucket) EvalFault) →
            Goes (unless_stopped (or_failed (or_stop s x))
            (λ found. each_in_turn (bucket_by choose run scope) found s))
            (unless_stopped (or_failed (or_stop t x))
            (λ found. each_in_turn (bucket_by choose' run scope) found t))
        go (Ok found) = each-twin T W (bucket_by choose run scope)
            (bucket_by choose' run scope) bucket-twin found s t h
        go (Err fault) =
            by-twin T W (λ z. TwinStop T W (as_failed
            (stop_at fault s))
            (as_failed (stop_at fault z))) s t h
            (λ k a. record { alike = a; same = refl })

    pub work-twin : (j k : Journal) → AlikeJournals T W j k →
        AlikeWork T W (λ (o p : Outcome). o ≡ p) (work_by choose run scope j)
        (work_by choose' run scope k)
    work-twin j k a =
        bound T W Ends (λ o p. o ≡ p) (buckets_by choose run scope (begun scope j))
        (buckets_by choose' run scope (begun scope k)) (λ end. done (outcome_of end))
        (λ end. done (outcome_of end))
        (buckets-twin (begun scope j) (begun scope k) (record { alike = a; same = refl }))
        (outcome-twin T W)

    pub body-twin : (j k : Journal) → AlikeJournals T W j k →
        AlikeBodies T W (body_by choose run scope j) (body_by choose' run scope k)
    body-twin j k a = bodies T W (work_by choose run scope j) (work_by choose' run scope k)
        (work-twin j k a)
