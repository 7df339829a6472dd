-- A piece that is skipped, where all its outputs are there: it writes nothing, and changes and
-- returns what the whole does.
use Rattle.std.proofs.Common.{
  inl,
  inr,
  ◌≡◌,
  ℕ,
  Bool,
  true,
  false,
  List,
  [],
  ◌∷◌,
  ◌++◌,
  Option,
  None,
  Some,
  append_assoc,
  refl,
  ap,
  sym,
  ◌∙◌,
  subst,
}
use Rattle.std.specs.Prelude.{Result, Ok, Err, unwrap_or}
use Rattle.msb_laws.specs.Results as results
use Rattle.msb_laws.specs.Results.{map_ok}
use Rattle.msb_values.specs.Keys.{key_of}
use Rattle.msb_values.specs.declared.change.Change.{Change}
use Rattle.msb_values.specs.declared.item.Item.{Item}
use Rattle.msb_values.specs.Acts.{act_path, act_bytes}
use Rattle.msb_values.specs.declared.act.Act.{Act}
use Rattle.msb_values.specs.declared.scope.Scope.{Scope}
use Rattle.msb_elements.specs.Nodes.{name_of}
use Rattle.msb_expand.specs.declared.lens.Bucket.{Bucket}
use Rattle.result_cache.specs.declared.record.Decision.{Decision}
use Rattle.result_cache.specs.Journal.{Journal}
use Rattle.build_world.specs.Elements.{At, children_of}
use Rattle.build_world.specs.declared.fault.EvalFault.{EvalFault}
use Rattle.build_incremental.specs.Alike.{AlikeJournals}
use Rattle.element_texts.specs.Contexts.{ElementContext, in_bucket, item_context}
use Rattle.msb_items.specs.TargetGroups.{group_changes}
use Rattle.msb_values.specs.Changes.{all_applied}
use Rattle.msb_files.specs.Views as views
use Rattle.msb_files.specs.Views.{View}
use Rattle.task_trait.specs.declared.tools.Param.{Param}
use Rattle.task_trait.specs.declared.tools.TaskOutput.{TaskOutput}
use Rattle.task_trait.specs.declared.tools.ToolAnswer.{ToolAnswer}
use Rattle.task_trait.specs.declared.tools.ToolInput.{ToolInput}
use Rattle.target_incremental.specs.declared.decision.Choice.TheVariants.{Run as RunAll, Skip}
use Rattle.target_texts.specs.declared.on_error.OnError.{OnError}
use Rattle.target_texts.specs.declared.on_error.OnError.TheVariants.{Stop, Warn, Continue}
use Rattle.target_texts.specs.Made.{Made}
use Rattle.target_texts.specs.Inferred.{task_of, inferred_at}
use Rattle.target_texts.specs.Parameters.{task_buckets}
use Rattle.target_texts.specs.Returned.{returns_of, returned_items}
use Rattle.target_texts.specs.OnErrors.{notes_by}
use Rattle.target_body.specs.Work.{Work, done, followed_by, unless_stopped, each_in_turn}
use Rattle.target_body.specs.States.{
  Run,
  State,
  Stopped,
  failed,
  entered,
  with_notes,
  with_items,
  with_decision,
  with_changes,
  after_group,
  stop_at,
  settled,
  or_stop,
  stopped_by,
  taken,
  context_in,
  stop_at,
}
use Rattle.target_body.specs.Answers.{given}
use Rattle.target_body.specs.Tasks.{
  call_context,
  ended_by,
  answered_to,
  readied,
  answered_if,
  called_with,
  call,
  called,
  inferred,
}
use Rattle.target_body.specs.Children.{
  group,
  Kind,
  group_element,
  on_error_element,
  task_element,
  kind_of,
  child_by,
  child,
  children,
}
use Rattle.target_body.specs.Returned.{items_if, returned}
use Rattle.target_body.specs.Pieces.{word_of, decided}
use Rattle.build_declared.proofs.PartEnds.{progress_in}
use Rattle.build_declared.specs.Written.{bytes_in, AnyPath}
use Rattle.build_declared.specs.Ends.{End, end_of}
use Rattle.build_declared.proofs.Alones.{some-same, end-bound, end-mapped}
use Rattle.build_incremental.proofs.Numbered.{numbered}
use Rattle.build_incremental.specs.SideBySide.{HasNotActed}
use Rattle.build_incremental.specs.Alike.{seen}
use Rattle.build_meaning.proofs.MeaningDerived.{in-left, in-right}
use Rattle.result_cache.specs.Lists.{In}
use Rattle.result_cache.specs.declared.run.RunId.{RunId}
use Rattle.msb_values.specs.declared.note.Note.{Note}
use Rattle.std.specs.Option.{option_or}
use Rattle.element_texts.specs.Contexts.{element_holds}
use Rattle.std.proofs.Common.{append-nil, is_some}
use Rattle.std.proofs.lemmas.Slice.Eq.{bytes_eq-Decides}
use Rattle.target_texts.specs.Inferred.{inference, inference_if}
use Rattle.target_texts.specs.Made.{all_made, or_fault_made, made_before, up_to_fault}
use Rattle.target_texts.specs.Outputs.{
  output_items,
  output_if,
  output,
  outputs,
  destination_of,
  changes_to,
}
use Rattle.target_texts.specs.OnErrors.{on_error_at}
use Rattle.target_texts.specs.Parameters.{params_at}
use Rattle.target_body.specs.Tasks.{readied_if}
use Rattle.msb_files.proofs.PathLaws.{paths_rise, paths_there}
use Rattle.build_incremental.specs.Alone.{last_bytes}
use Rattle.build_incremental.proofs.Moves.{seen-append}
use Rattle.build_incremental.proofs.Numbered.{content-numbered}
use Rattle.build_declared.specs.CalledTasks.{
  Called,
  answered_in,
  called_if,
  called_by,
  then_called,
  calls_among,
  calls_of_task,
  calls_of_child,
  calls_of,
  ReturnsGiven,
}
use Rattle.build_declared.specs.Written.{since}
use Rattle.build_declared.proofs.LastWrites.{last-in, has-last, write-leaves}
use Rattle.build_declared.proofs.Looks.{rising-same}
use Rattle.build_declared.proofs.PieceRuns.{last-append}
use Rattle.build_declared.proofs.PieceSkips.{SkipsSame, no-front, since-front, one-in}
use Rattle.build_declared.proofs.Held.{bare, if-leaves}
use Rattle.build_declared.proofs.Steps.{
  Stepped,
  call-steps,
  child-steps,
  each-steps,
  if-steps,
  children-steps,
  decided-steps,
}

-- ---- results

pub err-ok : {X E : Type 0} (e : E) (x : X) → Err e ≡ Ok x → ⊥
err-ok e x h = cc

pub ok-same : {X E : Type 0} (x y : X) → (let r : Result X E = Ok x in r ≡ Ok y) → x ≡ y
ok-same x y h = cc

none-true : false ≡ true → ⊥
none-true h = cc

-- ---- what is made of given lists

output-by : (q : ElementContext) (a b : List Param) (o : At) → output_items a o ≡ output_items b o →
    output q a o ≡ output q b o
output-by q a b o h = go (element_holds q o)
  where
    go : (x : Result Bool EvalFault) → or_fault_made x (λ holds. output_if holds a o)
        ≡ or_fault_made x (λ holds. output_if holds b o)
    go (Err fault) = refl
    go (Ok false) = refl
    go (Ok true) = ap (λ items. or_fault_made (destination_of o)
        (λ destination. all_made (changes_to destination items))) h

outputs-by : (q : ElementContext) (a b : List Param) (os : List At) →
    ((o : At) → In o os → output_items a o ≡ output_items b o) →
    up_to_fault (output q a) os ≡ up_to_fault (output q b) os
outputs-by q a b [] h = refl
outputs-by q a b (o ∷ os) h =
    ap (λ (m : Made). made_before m.changes m.fault (up_to_fault (output q a) os))
    (output-by q a b o (h o (inl refl)))
    ∙ ap (made_before (output q b o).changes (output q b o).fault)
    (outputs-by q a b os (λ x i. h x (inr i)))

-- what a task is called with also says what is inferred
abbrev made_if : ElementContext → At → Option (OnError × List Param) → Made
made_if q e None = all_made []
made_if q e (Some ready) = outputs q ready.1 e

params-so : (q : ElementContext) (e : At) (on_error : OnError) (x : Result (List Param) EvalFault) →
    or_fault_made x (λ params. outputs q params e)
    ≡ or_fault_made (map_ok (λ params. Some (on_error, params)) x) (made_if q e)
params-so q e on_error (Ok params) = refl
params-so q e on_error (Err fault) = refl

error-so : (q : ElementContext) (e : At) (x : Result OnError EvalFault) →
    or_fault_made x (λ on_error. or_fault_made (params_at q e (task_of e))
    (λ params. outputs q params e)) ≡
    or_fault_made (results.and_then x (λ on_error. map_ok (λ params. Some (on_error, params))
    (params_at q e (task_of e)))) (made_if q e)
error-so q e (Ok on_error) = params-so q e on_error (params_at q e (task_of e))
error-so q e (Err fault) = refl

inference-so : (q : ElementContext) (e : At)
    → inference q e (task_of e) ≡ or_fault_made (readied q e)
    (made_if q e)
inference-so q e = go (element_holds q e)
  where
    go : (x : Result Bool EvalFault) → or_fault_made x (λ holds. inference_if holds q e (task_of e))
        ≡ or_fault_made (results.and_then x (λ holds. readied_if holds q e)) (made_if q e)
    go (Err fault) = refl
    go (Ok false) = refl
    go (Ok true) = error-so q e (on_error_at q e)

-- ---- what a state has got

record Gave (t after : State) (changes : List Change) : Type 0 where
  scope : after.scope ≡ t.scope
  task_scope : after.task_scope ≡ t.task_scope
  items : after.items ≡ t.items
  unseen : after.unseen ≡ t.unseen ++ changes
  changed : after.changes ≡ t.changes ++ changes
  notes : (note : Note) → In note t.notes → In note after.notes

abbrev GaveAll : State → State → Made → Type 0
GaveAll t after m = (m.fault ≡ None) × Gave t after m.changes

gave-none : (t : State) → Gave t t []
gave-none t = record {
  scope = refl;
  task_scope = refl;
  items = refl;
  unseen = sym (append-nil t.unseen);
  changed = sym (append-nil t.changes);
  notes = λ note i. i;
}

gave-more : (t u v : State) (a b : List Change) → Gave t u a → Gave u v b → Gave t v (a ++ b)
gave-more t u v a b g h = record {
  scope = h.scope ∙ g.scope;
  task_scope = h.task_scope ∙ g.task_scope;
  items = h.items ∙ g.items;
  unseen = h.unseen ∙ (ap (λ l. l ++ b) g.unseen ∙ append_assoc t.unseen a b);
  changed = h.changed ∙ (ap (λ l. l ++ b) g.changed ∙ append_assoc t.changes a b);
  notes = λ note i. h.notes note (g.notes note i);
}

gave-join : (t u v : State) (a b : Made) → GaveAll t u a → GaveAll u v b →
    GaveAll t v (made_before a.changes a.fault b)
gave-join t u v a b g h = subst (λ f. GaveAll t v (made_before a.changes f b)) (sym g.0)
    (h.0, gave-more t u v a.changes b.changes g.1 h.1)

ended-ok : (on_error : OnError) (ok : Bool) (s after : State) → ended_by on_error ok s ≡ Ok after →
    s ≡ after
ended-ok on_error true s after h = ok-same s after h
ended-ok Stop false s after h = absurd (err-ok (failed s) after h)
ended-ok Warn false s after h = ok-same s after h
ended-ok Continue false s after h = ok-same s after h

answered-gave : (t : State) (x : State × TaskOutput) (on_error : OnError) (m : Made)
    (after : State) → bare x.0 ≡ bare t →
    results.and_then (taken m (with_notes (notes_by on_error x.1.notes) x.0))
    (ended_by on_error x.1.ok) ≡ Ok after → GaveAll t after m
answered-gave t x on_error m after held h = go m.fault refl h
  where
    go : (fault : Option EvalFault) → m.fault ≡ fault →
        results.and_then (stopped_by fault (with_changes m.changes
        (with_notes (notes_by on_error x.1.notes) x.0))) (ended_by on_error x.1.ok) ≡ Ok after →
        GaveAll t after m
    go (Some fault) f e = absurd (err-ok (stop_at fault (with_changes m.changes
        (with_notes (notes_by on_error x.1.notes) x.0))) after e)
    go None f e = (
      f,
      subst (λ z. Gave t z m.changes)
          (ended-ok on_error x.1.ok (with_changes m.changes
          (with_notes (notes_by on_error x.1.notes) x.0)) after e) (record {
            scope = ap (λ (z : State). z.scope) held;
            task_scope = ap (λ (z : State). z.task_scope) held;
            items = ap (λ (z : State). z.items) held;
            unseen = ap (λ (z : State). z.unseen ++ m.changes) held;
            changed = ap (λ (z : State). z.changes ++ m.changes) held;
            notes = λ note i. in-left note x.0.notes (notes_by on_error x.1.notes)
                (subst (λ (z : State). In note z.notes) (sym held) i);
          }),
    )

-- ---- the skipped beside the whole

module _ (tools : List ℕ → ToolInput → ToolAnswer) (id : RunId) (r : Run) (k : Journal)
    (fc : HasNotActed id k) (pt : List Act) where
  abbrev T : List ℕ → Option (List ℕ)
  T = bytes_in r.files

  abbrev first : Journal
  first = numbered id pt ++ k

  abbrev P : List (List ℕ)
  P = views.paths (record { files = r.files; journal = first })

  -- each act of the piece is a write of a path that was there when it began
  abbrev InTree : List Act → Type 0
  InTree ps = (own : List Act) → ps ≡ own ++ pt → (act : Act) → In act own →
      (is_some (act_bytes act) ≡ true) × (is_some (seen T first (act_path act)) ≡ true)

  in-tree-less : (more ps : List Act) → InTree (more ++ ps) → InTree ps
  in-tree-less more ps h own g act i = h (more ++ own)
      (ap (λ l. more ++ l) g ∙ sym (append_assoc more own pt)) act (in-right act more own i)

  record Stands (l : Journal) (ps : List Act) : Type 0 where
    is : l ≡ numbered id ps ++ k
    own : List Act
    grown : ps ≡ own ++ pt

  stands-on : {l m last : Journal} {ps qs : List Act} → Stands l ps →
      Stepped tools id r k fc m ps last qs → Stands m qs
  stands-on s d = record {
    is = d.in_step ∙ d.numbered_so;
    own = d.more ++ s.own;
    grown =
        d.grown ∙ (ap (λ z. d.more ++ z) s.grown ∙ sym (append_assoc d.more s.own pt));
  }

  both-there : (own q : Option (Option (List ℕ))) (o : Option (List ℕ)) →
      ((left : Option (List ℕ)) → own ≡ Some left →
      (is_some left ≡ true) × (is_some (unwrap_or q o) ≡ true)) →
      is_some (unwrap_or (option_or own q) o) ≡ is_some (unwrap_or q o)
  both-there None q o h = refl
  both-there (Some left) q o h = let x = h left refl in x.0 ∙ sym x.1

  seen-so : (ps : List Act) (p : List ℕ) → seen T (numbered id ps ++ k) p
      ≡ unwrap_or (last_bytes ps p) (seen T k p)
  seen-so ps p = seen-append T AnyPath (numbered id ps) k p
      ∙ ap (λ o. unwrap_or o (seen T k p)) (content-numbered id ps p)

  same-there : (l : Journal) (ps : List Act) → Stands l ps → InTree ps → (p : List ℕ) →
      is_some (seen T l p) ≡ is_some (seen T first p)
  same-there l ps s i p =
      let own : last_bytes ps p ≡ option_or (last_bytes s.own p) (last_bytes pt p) =
      ap (λ z. last_bytes z p) s.grown ∙ last-append s.own pt p in
      ap (λ z. is_some (seen T z p)) s.is
      ∙ (ap is_some (seen-so ps p)
      ∙ (ap (λ o. is_some (unwrap_or o (seen T k p))) own
      ∙ (both-there (last_bytes s.own p) (last_bytes pt p) (seen T k p)
      (λ left h. let x = last-in s.own p left h in
      let y = i s.own s.grown x.0 x.1 in (
        ap is_some (sym x.3) ∙ y.0,
        ap is_some (sym (seen-so pt p)) ∙ subst (λ z. is_some (seen T first z) ≡ true)
            ((bytes_eq-Decides (act_path x.0) p).0 x.2) y.1,
      ))
      ∙ sym (ap is_some (seen-so pt p)))))

  paths-so : (l : Journal) (ps : List Act) → Stands l ps → InTree ps →
      views.paths (record { files = r.files; journal = l }) ≡ P
  paths-so l ps s i =
      let v : View = record { files = r.files; journal = l } in
      let u : View = record { files = r.files; journal = first } in
      rising-same (views.paths v) (views.paths u) (paths_rise v) (paths_rise u)
      (λ p. paths_there v p ∙ (same-there l ps s i p ∙ sym (paths_there u p)))

  abbrev place : Scope → ElementContext
  place sc = item_context P r.instance.path sc

  place-so : (t : State) (ps : List Act) → Stands t.journal ps → InTree ps → (sc : Scope) →
      t.scope ≡ sc → context_in r t t.scope ≡ place sc
  place-so t ps s i sc e = ap (λ l. item_context l r.instance.path t.scope)
      (paths-so t.journal ps s i) ∙ ap place e

  tasks-so : (t : State) (ps : List Act) → Stands t.journal ps → InTree ps → (sc : Scope) →
      t.task_scope ≡ sc → context_in r t t.task_scope ≡ place sc
  tasks-so t ps s i sc e = ap (λ l. item_context l r.instance.path t.task_scope)
      (paths-so t.journal ps s i) ∙ ap place e

  -- ---- calls

  over-is : {R : Type 0} (x : R) (l : Journal) (ps : List Act) (E : End R) →
      end_of tools id (done x) l ps ≡ Some E → E.value ≡ x
  over-is x l ps E h = ap (λ (z : End _). z.value)
      (sym (some-same (record { value = x; journal = l; acts = ps }) E h))

  call-gave : (e : At) (sc : Scope) (bucket : Bucket) (t : State) (ps : List Act) →
      Stands t.journal ps → t.task_scope ≡ sc → (E : End (Result State Stopped)) →
      end_of tools id (call r e true bucket t) t.journal ps ≡ Some E →
      (after : State) → E.value ≡ Ok after → InTree E.acts →
      ((c : Called) → In c (called_if tools id r e t ps (readied (call_context r t bucket) e)) →
      ReturnsGiven tools id r c) →
      GaveAll t after (inference (in_bucket (place sc) bucket) e (task_of e))
  call-gave e sc bucket t ps s hs E he after ev tree given =
      let st = call-steps tools id r k fc e true bucket t ps s.is E he in
      let start : InTree ps = in-tree-less st.more ps (subst InTree st.grown tree) in
      subst (GaveAll t after) (sym (inference-so q e))
      (subst (λ p. GaveAll t after (or_fault_made (readied p e) (made_if q e)))
      (ap (λ p. in_bucket p bucket) (tasks-so t ps s start sc hs))
      (go (readied (call_context r t bucket) e) he given))
    where
      q : ElementContext
      q = in_bucket (place sc) bucket

      go : (x : Result (Option (OnError × List Param)) EvalFault) →
          end_of tools id (unless_stopped (or_stop t x)
          (called_with r e true bucket t)) t.journal ps ≡ Some E →
          ((c : Called) → In c (called_if tools id r e t ps x) → ReturnsGiven tools id r c) →
          GaveAll t after (or_fault_made x (made_if (in_bucket (place sc) bucket) e))
      go (Err fault) h c =
          let stop : Stopped = stop_at fault t in
          absurd (err-ok stop after (sym (over-is (Err stop) t.journal ps E h) ∙ ev))
      go (Ok None) h c = (
        refl,
        subst (λ z. Gave t z [])
            (ok-same t after (sym (over-is (Ok t) t.journal ps E h) ∙ ev)) (gave-none t),
      )
      go (Ok (Some ready)) h c =
          let name = key_of (name_of e.node) in
          let x = end-mapped tools id (answered_if name r t e ready.1)
          (answered_to r e true bucket ready.0) t.journal ps E h in
          let held : bare x.0.value.0 ≡ bare t = if-leaves tools id r name e ready.1 t t.journal ps
          x.0 x.1 in
          let sx = if-steps tools id r k fc name e ready.1 t ps s.is x.0 x.1 in
          let tx : InTree x.0.acts = subst (λ (z : End (Result State Stopped)). InTree z.acts)
          (sym x.2) tree in
          let there = tasks-so x.0.value.0 x.0.acts (stands-on s sx) tx sc
          (ap (λ (z : State). z.task_scope) held ∙ hs) in
          let called : Called = record { element = e; params = ready.1; answer = x.0.value.1 } in
          let rg = c called (subst (λ o. In called (answered_in tools id r e ready.1 o)) (sym x.1)
          (inl refl)) in
          let same : outputs (call_context r x.0.value.0 bucket) x.0.value.1.outputs e
          ≡ outputs (in_bucket (place sc) bucket) ready.1 e =
          ap (λ p. outputs (in_bucket p bucket) x.0.value.1.outputs e) there
          ∙ outputs-by (in_bucket (place sc) bucket) x.0.value.1.outputs ready.1
          (children_of e) (λ o i. (rg o i).1) in
          let value : answered_to r e true bucket ready.0 x.0.value ≡ Ok after =
          ap (λ (z : End (Result State Stopped)). z.value) x.2 ∙ ev in
          subst (GaveAll t after) same (answered-gave t x.0.value ready.0
          (outputs (call_context r x.0.value.0 bucket) x.0.value.1.outputs e) after held value)

  abbrev inferred_over : At → Scope → List Bucket → Made
  inferred_over e sc buckets = up_to_fault (λ bucket.
      inference (in_bucket (place sc) bucket) e (task_of e)) buckets

  abbrev BucketsGive : At → Scope → List Bucket → Type 0
  BucketsGive e sc buckets = (t : State) (ps : List Act) → Stands t.journal ps →
      t.task_scope ≡ sc → (E : End (Result State Stopped)) →
      end_of tools id (each_in_turn (call r e true) buckets t) t.journal ps ≡ Some E →
      (after : State) → E.value ≡ Ok after → InTree E.acts →
      ((c : Called) → In c (calls_among tools id r e buckets t ps) →
      ReturnsGiven tools id r c) → GaveAll t after (inferred_over e sc buckets)

  next-give : (e : At) (sc : Scope) (bucket : Bucket) (buckets : List Bucket) →
      BucketsGive e sc buckets → BucketsGive e sc (bucket ∷ buckets)
  next-give e sc bucket buckets ih t ps s hs E he after ev tree given =
      let next = each_in_turn (call r e true) buckets in
      let x = end-bound tools id (call r e true bucket t)
      (λ end. unless_stopped end next) t.journal ps E he in
      go x.0 x.1 x.0.value refl x.2
    where
      go : (X : End (Result State Stopped)) → end_of tools id (call r e true bucket t) t.journal ps
          ≡ Some X → (v : Result State Stopped) → X.value ≡ v →
          end_of tools id (unless_stopped v (each_in_turn (call r e true) buckets)) X.journal X.acts
          ≡ Some E →
          GaveAll t after (inferred_over e sc (bucket ∷ buckets))
      go X hx (Err stop) hv h = absurd (err-ok stop after
          (sym (over-is (Err stop) X.journal X.acts E h) ∙ ev))
      go X hx (Ok u) hv h =
          let st = call-steps tools id r k fc e true bucket t ps s.is X hx in
          let ju : u.journal ≡ X.journal = ap (λ v. (progress_in v).journal) (sym hv)
          ∙ st.in_step in
          let su : Stands u.journal X.acts = subst (λ v. Stands (progress_in v).journal X.acts) hv
          (stands-on s st) in
          let h2 : end_of tools id (each_in_turn (call r e true) buckets u) u.journal X.acts
          ≡ Some E = subst (λ l. end_of tools id (each_in_turn (call r e true) buckets u) l
          X.acts ≡ Some E) (sym ju) h in
          let rest = each-steps tools id r k fc (call r e true)
          (call-steps tools id r k fc e true) buckets u X.acts su.is E h2 in
          let tx : InTree X.acts = in-tree-less rest.more X.acts (subst InTree rest.grown tree) in
          let one = called_if tools id r e t ps (readied (call_context r t bucket) e) in
          let two = then_called tools id r (end_of tools id (call r e true bucket t) t.journal ps)
          (calls_among tools id r e buckets) in
          let g = call-gave e sc bucket t ps s hs X hx u hv tx
          (λ c i. given c (in-left c one two i)) in
          let f = ih u X.acts su (g.1.task_scope ∙ hs) E h2 after ev tree
          (λ c i. given c (in-right c one two
          (subst (λ o. In c (then_called tools id r o (calls_among tools id r e buckets)))
          (sym hx) (subst (λ v. In c (called_by tools id r v X.acts
          (calls_among tools id r e buckets))) (sym hv) i)))) in
          gave-join t u after (inference (in_bucket (place sc) bucket) e (task_of e))
          (inferred_over e sc buckets) g f

  buckets-give : (e : At) (sc : Scope) (buckets : List Bucket) → BucketsGive e sc buckets
  buckets-give e sc [] = λ t ps s hs E he after ev tree given. (
    refl,
    subst (λ z. Gave t z []) (ok-same t after (sym (over-is (Ok t) t.journal ps E he) ∙ ev))
        (gave-none t),
  )
  buckets-give e sc (bucket ∷ buckets) = next-give e sc bucket buckets (buckets-give e sc buckets)

  -- ---- the skipped beside the whole: the same, but for the journal, what was written, noted and
  -- decided

  record Aside (z t : State) : Type 0 where
    scope : z.scope ≡ t.scope
    tasks : z.scope ≡ t.task_scope
    unseen : z.unseen ≡ t.unseen
    items : z.items ≡ t.items
    changes : z.changes ≡ t.changes
    notes : (note : Note) → In note z.notes → In note t.notes
    z_is : z.journal ≡ first

  z-stands : (z : State) → z.journal ≡ first → Stands z.journal pt
  z-stands z e = record { is = e; own = []; grown = refl }

  z-tree : InTree pt
  z-tree own g act i = absurd (subst (In act) (no-front own pt g) i)

  abbrev Skipped : Result State Stopped → State → Type 0
  Skipped x after = (y : State) × (x ≡ Ok y) × Aside y after

  task-aside : (e : At) (z t : State) (ps : List Act) → Aside z t → Stands t.journal ps →
      (E : End (Result State Stopped)) → end_of tools id (called r e true t) t.journal ps ≡ Some E →
      (after : State) → E.value ≡ Ok after → InTree ps → InTree E.acts →
      ((c : Called) → In c (calls_of_task tools id r e t ps
      (task_buckets (context_in r t t.task_scope) e)) → ReturnsGiven tools id r c) →
      Skipped (inferred r e z) after
  task-aside e z t ps a s E he after ev start tree given =
      subst (λ p. Skipped (taken (inferred_at p e) z) after)
      (sym (place-so z pt (z-stands z a.z_is) z-tree z.scope refl))
      (subst (λ p. Skipped (taken (or_fault_made (task_buckets p e) (inferred_over e z.scope)) z)
      after) (tasks-so t ps s start z.scope (sym a.tasks))
      (go (task_buckets (context_in r t t.task_scope) e) he given))
    where
      go : (x : Result (List Bucket) EvalFault) →
          end_of tools id (unless_stopped (or_stop t x)
          (λ buckets. each_in_turn (call r e true) buckets t)) t.journal ps ≡ Some E →
          ((c : Called) → In c (calls_of_task tools id r e t ps x) → ReturnsGiven tools id r c) →
          Skipped (taken (or_fault_made x (inferred_over e z.scope)) z) after
      go (Err fault) h c =
          let stop : Stopped = stop_at fault t in
          absurd (err-ok stop after (sym (over-is (Err stop) t.journal ps E h) ∙ ev))
      go (Ok buckets) h c =
          let g = buckets-give e z.scope buckets t ps s (sym a.tasks) E h after ev tree c in
          let m : Made = inferred_over e z.scope buckets in (
            with_changes m.changes z,
            ap (λ f. stopped_by f (with_changes m.changes z)) g.0,
            record {
              scope = a.scope ∙ sym g.1.scope;
              tasks = a.tasks ∙ sym g.1.task_scope;
              unseen = ap (λ l. l ++ m.changes) a.unseen ∙ sym g.1.unseen;
              items = a.items ∙ sym g.1.items;
              changes = ap (λ l. l ++ m.changes) a.changes ∙ sym g.1.changed;
              notes = λ note i. g.1.notes note (a.notes note i);
              z_is = a.z_is;
            },
          )

  group-aside : (e : At) (z t : State) (ps : List Act) → Aside z t → Stands t.journal ps →
      InTree ps → (after : State) → group r e t ≡ Ok after → Skipped (group r e z) after
  group-aside e z t ps a s start after ev =
      subst (λ p. Skipped (map_ok (λ changes. after_group changes z)
      (or_stop z (group_changes p e))) after)
      (place-so t ps s start z.scope (sym a.scope)
      ∙ sym (place-so z pt (z-stands z a.z_is) z-tree z.scope refl))
      (go (group_changes (context_in r t t.scope) e) ev)
    where
      go : (x : Result (List Change) EvalFault) →
          map_ok (λ changes. after_group changes t) (or_stop t x) ≡ Ok after →
          Skipped (map_ok (λ changes. after_group changes z) (or_stop z x)) after
      go (Err fault) h = absurd (err-ok (stop_at fault t) after h)
      go (Ok changes) h = (
        after_group changes z,
        refl,
        subst (Aside (after_group changes z))
            (ok-same (after_group changes t) after h) (record {
              scope = ap (all_applied changes) a.scope;
              tasks = ap (all_applied changes) a.tasks;
              unseen = a.unseen;
              items = a.items;
              changes = ap (λ l. l ++ changes) a.changes;
              notes = a.notes;
              z_is = a.z_is;
            }),
      )

  settled-aside : (z t : State) → Aside z t → Aside (settled z) (settled t)
  settled-aside z t a = record {
    scope = ap (all_applied z.unseen) a.scope ∙ ap (λ l. all_applied l t.scope) a.unseen;
    tasks = ap (all_applied z.unseen) a.tasks ∙ ap (λ l. all_applied l t.task_scope) a.unseen;
    unseen = refl;
    items = a.items;
    changes = a.changes;
    notes = a.notes;
    z_is = a.z_is;
  }

  -- ---- children

  abbrev SkippedWork : Work (Result State Stopped) → State → Type 0
  SkippedWork v after = (y : State) × (v ≡ done (Ok y)) × Aside y after

  settled-ok : (v : Result State Stopped) (after : State) → map_ok settled v ≡ Ok after →
      (u : State) × (v ≡ Ok u) × (settled u ≡ after)
  settled-ok (Ok u) after h = (u, refl, ok-same (settled u) after h)
  settled-ok (Err stop) after h = absurd (err-ok stop after h)

  child-aside : (e : At) (z t : State) (ps : List Act) → Aside z t → Stands t.journal ps →
      (E : End (Result State Stopped)) → end_of tools id (child r RunAll e t) t.journal ps
      ≡ Some E → (after : State) → E.value ≡ Ok after → InTree E.acts →
      ((c : Called) → In c (calls_of_child tools id r (kind_of (name_of e.node)) e t ps) →
      ReturnsGiven tools id r c) → SkippedWork (child r Skip e z) after
  child-aside e z t ps a s E he after ev tree given =
      let kind = kind_of (name_of e.node) in
      let x = end-mapped tools id (child_by kind r RunAll e t) (map_ok settled) t.journal ps E he in
      let u = settled-ok x.0.value after (ap (λ (w : End (Result State Stopped)). w.value) x.2
      ∙ ev) in
      let st = child-steps tools id r k fc RunAll e t ps s.is E he in
      let start : InTree ps = in-tree-less st.more ps (subst InTree st.grown tree) in
      let tx : InTree x.0.acts = subst (λ (w : End (Result State Stopped)). InTree w.acts)
      (sym x.2) tree in
      let g = go kind x.0 x.1 u.0 u.1 start tx given in (
        settled g.0,
        ap (λ v. followed_by v (λ end. done (map_ok settled end))) g.1,
        subst (Aside (settled g.0)) u.2 (settled-aside g.0 u.0 g.2),
      )
    where
      go : (kind : Kind) (X : End (Result State Stopped)) →
          end_of tools id (child_by kind r RunAll e t) t.journal ps ≡ Some X → (u : State) →
          X.value ≡ Ok u → InTree ps → InTree X.acts →
          ((c : Called) → In c (calls_of_child tools id r kind e t ps) →
          ReturnsGiven tools id r c) → SkippedWork (child_by kind r Skip e z) u
      go group_element X hx u hu start tx c =
          let g = group-aside e z t ps a s start u (sym (over-is (group r e t) t.journal ps X hx)
          ∙ hu) in
          (g.0, ap (λ v. done v) g.1, g.2)
      go on_error_element X hx u hu start tx c = (
        z,
        refl,
        subst (Aside z) (ok-same t u (sym (over-is (Ok t) t.journal ps X hx) ∙ hu)) a,
      )
      go task_element X hx u hu start tx c =
          let g = task-aside e z t ps a s X hx u hu start tx c in
          (g.0, ap (λ v. done v) g.1, g.2)

  abbrev ChildrenAside : List At → Type 0
  ChildrenAside es = (z t : State) (ps : List Act) → Aside z t → Stands t.journal ps →
      (E : End (Result State Stopped)) → end_of tools id
      (each_in_turn (child r RunAll) es t) t.journal ps ≡ Some E → (after : State) →
      E.value ≡ Ok after → InTree E.acts →
      ((c : Called) → In c (calls_of tools id r es t ps) → ReturnsGiven tools id r c) →
      SkippedWork (each_in_turn (child r Skip) es z) after

  next-aside : (e : At) (es : List At) → ChildrenAside es → ChildrenAside (e ∷ es)
  next-aside e es ih z t ps a s E he after ev tree given =
      let x = end-bound tools id (child r RunAll e t)
      (λ end. unless_stopped end (each_in_turn (child r RunAll) es)) t.journal ps E he in
      go x.0 x.1 x.0.value refl x.2
    where
      go : (X : End (Result State Stopped)) → end_of tools id (child r RunAll e t) t.journal ps
          ≡ Some X → (v : Result State Stopped) → X.value ≡ v →
          end_of tools id (unless_stopped v (each_in_turn (child r RunAll) es)) X.journal X.acts
          ≡ Some E →
          SkippedWork (each_in_turn (child r Skip) (e ∷ es) z) after
      go X hx (Err stop) hv h = absurd (err-ok stop after
          (sym (over-is (Err stop) X.journal X.acts E h) ∙ ev))
      go X hx (Ok u) hv h =
          let st = child-steps tools id r k fc RunAll e t ps s.is X hx in
          let ju : u.journal ≡ X.journal = ap (λ v. (progress_in v).journal) (sym hv)
          ∙ st.in_step in
          let su : Stands u.journal X.acts = subst (λ v. Stands (progress_in v).journal X.acts) hv
          (stands-on s st) in
          let h2 : end_of tools id (each_in_turn (child r RunAll) es u) u.journal X.acts ≡ Some E =
          subst (λ l. end_of tools id (each_in_turn (child r RunAll) es u) l X.acts ≡ Some E)
          (sym ju) h in
          let rest = each-steps tools id r k fc (child r RunAll)
          (child-steps tools id r k fc RunAll) es u X.acts su.is E h2 in
          let tx : InTree X.acts = in-tree-less rest.more X.acts (subst InTree rest.grown tree) in
          let one = calls_of_child tools id r (kind_of (name_of e.node)) e t ps in
          let two = then_called tools id r (end_of tools id (child r RunAll e t) t.journal ps)
          (calls_of tools id r es) in
          let g = child-aside e z t ps a s X hx u hv tx (λ c i. given c (in-left c one two i)) in
          let f = ih g.0 u X.acts g.2 su E h2 after ev tree (λ c i. given c (in-right c one two
          (subst (λ o. In c (then_called tools id r o (calls_of tools id r es))) (sym hx)
          (subst (λ v. In c (called_by tools id r v X.acts (calls_of tools id r es)))
          (sym hv) i)))) in (
            f.0,
            ap (λ v. followed_by v (λ end. unless_stopped end
                (λ next. each_in_turn (child r Skip) es next))) g.1 ∙ f.1,
            f.2,
          )

  children-aside : (es : List At) → ChildrenAside es
  children-aside [] = λ z t ps a s E he after ev tree given. (
    z,
    refl,
    subst (Aside z) (ok-same t after (sym (over-is (Ok t) t.journal ps E he) ∙ ev)) a,
  )
  children-aside (e ∷ es) = next-aside e es (children-aside es)

  -- ---- a piece

  items-so : (bucket : Bucket) (z t : State) → context_in r z z.scope ≡ context_in r t t.scope →
      z.items ≡ t.items → (written : Option (List ℕ)) →
      items_if r bucket z written ≡ items_if r bucket t written
  items-so bucket z t p i None = refl
  items-so bucket z t p i (Some written) = ap (λ q.
      returned_items q bucket r.target.element z.items written) p
      ∙ ap (λ l. returned_items (context_in r t t.scope) bucket r.target.element l written) i

  -- what is told of the skipped piece
  record Told (y after : State) : Type 0 where
    changes : y.changes ≡ after.changes
    items : y.items ≡ after.items
    notes : (note : Note) → In note y.notes → In note after.notes

  returned-aside : (bucket : Bucket) (a b : Decision) (z t : State) → Aside z t →
      context_in r z z.scope ≡ context_in r t t.scope → (after : State) →
      map_ok (with_decision a) (returned r bucket t) ≡ Ok after →
      (y : State) × (map_ok (with_decision b) (returned r bucket z) ≡ Ok y) × Told y after
  returned-aside bucket d b z t a p after h =
      subst (λ x. (y : State) × (map_ok (with_decision b)
      (map_ok (λ items. with_items items z) (or_stop z x)) ≡ Ok y) × Told y after)
      (sym (items-so bucket z t p a.items (returns_of r.target)))
      (go (items_if r bucket t (returns_of r.target)) h)
    where
      go : (x : Result (List Item) EvalFault) → map_ok (with_decision d)
          (map_ok (λ items. with_items items t) (or_stop t x)) ≡ Ok after →
          (y : State) × (map_ok (with_decision b) (map_ok (λ items. with_items items z)
          (or_stop z x)) ≡ Ok y) × Told y after
      go (Err fault) e = absurd (err-ok (stop_at fault t) after e)
      go (Ok items) e = (
        with_decision b (with_items items z),
        refl,
        subst (Told (with_decision b (with_items items z)))
            (ok-same (with_decision d (with_items items t)) after e)
            (record { changes = a.changes; items = ap (λ l. l ++ items) a.items; notes = a.notes }),
      )

  decided-aside : (bucket : Bucket) (items : Option (List ℕ × List Item)) (t : State) →
      t.task_scope ≡ t.scope → t.journal ≡ first → (E : End (Result State Stopped)) →
      end_of tools id (decided r bucket RunAll items t) t.journal pt ≡ Some E →
      (after : State) → E.value ≡ Ok after → InTree E.acts →
      ((c : Called) → In c (calls_of tools id r (children_of r.target.element) t pt) →
      ReturnsGiven tools id r c) →
      (y : State) × (decided r bucket Skip items t ≡ done (Ok y)) × Told y after
  decided-aside bucket items t tasks is E he after ev tree given =
      let x = end-bound tools id (children r RunAll t)
      (λ end. unless_stopped end (λ end. done (map_ok (with_decision (word_of RunAll items))
      (returned r bucket end)))) t.journal pt E he in
      go x.0 x.1 x.0.value refl x.2
    where
      go : (X : End (Result State Stopped)) → end_of tools id (children r RunAll t) t.journal pt
          ≡ Some X → (v : Result State Stopped) → X.value ≡ v →
          end_of tools id (unless_stopped v (λ end.
          done (map_ok (with_decision (word_of RunAll items)) (returned r bucket end))))
          X.journal X.acts ≡ Some E → (y : State)
          × (decided r bucket Skip items t ≡ done (Ok y)) × Told y after
      go X hx (Err stop) hv h = absurd (err-ok stop after
          (sym (over-is (Err stop) X.journal X.acts E h) ∙ ev))
      go X hx (Ok u) hv h =
          let ex : record {
            value = map_ok (with_decision (word_of RunAll items))
                (returned r bucket u);
            journal = X.journal;
            acts = X.acts;
          } ≡ E =
          some-same (record {
            value = map_ok (with_decision (word_of RunAll items))
                (returned r bucket u);
            journal = X.journal;
            acts = X.acts;
          }) E h in
          let tx : InTree X.acts = subst (λ (w : End (Result State Stopped)). InTree w.acts)
          (sym ex) tree in
          let start : Stands t.journal pt = z-stands t is in
          let self : Aside t t = record {
            scope = refl;
            tasks = sym tasks;
            unseen = refl;
            items = refl;
            changes = refl;
            notes = λ note i. i;
            z_is = is;
          } in
          let st = children-steps tools id r k fc RunAll t pt start.is X hx in
          let su : Stands u.journal X.acts = subst (λ v. Stands (progress_in v).journal X.acts) hv
          (stands-on start st) in
          let g = children-aside (children_of r.target.element) t t pt self start X hx u hv tx given
          in
          let places : context_in r g.0 g.0.scope ≡ context_in r u u.scope =
          place-so g.0 pt (z-stands g.0 g.2.z_is) z-tree g.0.scope refl
          ∙ sym (place-so u X.acts su tx g.0.scope (sym g.2.scope)) in
          let f = returned-aside bucket (word_of RunAll items)
          (word_of Skip items) g.0 u g.2 places after
          (ap (λ (w : End (Result State Stopped)). w.value) ex ∙ ev) in (
            f.0,
            ap (λ v. followed_by v (λ end. unless_stopped end
                (λ end. done (map_ok (with_decision (word_of Skip items))
                (returned r bucket end)))))
                g.1 ∙ ap (λ v. done v) f.1,
            f.2,
          )

-- a piece that is skipped changes and returns what the whole does, and writes nothing
pub skips-same : (tools : List ℕ → ToolInput → ToolAnswer) (id : RunId) (run : Run)
    (scope : Scope) (j k : Journal) (a : AlikeJournals (bytes_in run.files) AnyPath j k)
    (fw : HasNotActed id j) (fc : HasNotActed id k) → SkipsSame tools id run scope j k a fw fc
skips-same tools id run scope j k a fw fc bucket lists t pt after acts declared is he there =
    let E : End (Result State Stopped) = record {
      value = Ok after;
      journal = after.journal;
      acts =
          acts;
    } in
    let st = decided-steps tools id run k fc bucket RunAll lists.items
    (entered scope bucket t) pt is E he in
    let tree : InTree tools id run k fc pt acts = λ own g act i.
    let mine : In act (since pt acts) =
    subst (In act) (sym (ap (since pt) g ∙ since-front own pt)) i in
    let done_so : is_some (last_bytes (since pt acts) (act_path act)) ≡ true =
    has-last (since pt acts) act mine in (
      ap is_some (write-leaves act (λ path e. declared.removes_none after acts he path
          (subst (λ z. In z (since pt acts)) e mine))).1,
      subst (λ l. is_some (seen (bytes_in run.files) l (act_path act)) ≡ true) is
          (there (act_path act) (one-in (act_path act) lists.outputs
          (sym (declared.writes_outputs after acts he (act_path act)) ∙ done_so))),
    ) in
    let g = decided-aside tools id run k fc pt bucket lists.items
    (entered scope bucket t) refl is E he after refl tree declared.returns_given in
    (g.0, ap (λ v. end_of tools id v t.journal pt) g.1, g.2.changes, g.2.items, g.2.notes)
