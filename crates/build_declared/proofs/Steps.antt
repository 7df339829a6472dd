-- The state of a run has the journal then: the acts that it has done, over the journal with which
-- it began.
use Rattle.std.proofs.Common.{
  ◌≡◌,
  ℕ,
  Bool,
  true,
  false,
  List,
  [],
  ◌∷◌,
  ◌++◌,
  length,
  ◌≤◌,
  ◌||◌,
  arith,
  append_assoc,
  Option,
  None,
  Some,
  refl,
  ap,
  sym,
  ◌∙◌,
  subst,
}
use Rattle.std.specs.Prelude.{Result, Ok, Err, codes}
use Rattle.std.specs.Str.{bytes_eq}
use Rattle.msb_laws.specs.Results as results
use Rattle.msb_laws.specs.Results.{map_ok}
use Rattle.msb_values.specs.Keys.{key_of}
use Rattle.msb_values.specs.declared.change.Change.{Change}
use Rattle.msb_values.specs.declared.item.Item.{Item}
use Rattle.msb_values.specs.declared.act.Act.{Act}
use Rattle.msb_elements.specs.Nodes.{name_of}
use Rattle.msb_expand.specs.Reserved.{folder_of}
use Rattle.msb_expand.specs.declared.lens.Bucket.{Bucket}
use Rattle.result_cache.specs.declared.run.RunId.{RunId}
use Rattle.result_cache.specs.declared.record.Decision.{Decision}
use Rattle.result_cache.specs.Journal.{Journal, add, acted, act_of, has}
use Rattle.build_world.specs.Elements.{At, children_of}
use Rattle.build_world.specs.declared.fault.EvalFault.{EvalFault}
use Rattle.build_incremental.proofs.Numbered.{numbered, has-above}
use Rattle.build_incremental.proofs.Entries.{has-append}
use Rattle.build_incremental.specs.SideBySide.{HasNotActed}
use Rattle.result_cache.proofs.JournalEntries.{add_new}
use Rattle.msb_items.specs.TargetGroups.{group_changes}
use Rattle.task_trait.specs.Failures.{failed as failed_output}
use Rattle.task_trait.specs.declared.failures.Failure.{Failure}
use Rattle.task_trait.specs.declared.failures.Failure.TheVariants.{UnknownTask}
use Rattle.task_trait.specs.declared.tools.Param.{Param}
use Rattle.task_trait.specs.declared.tools.TaskOutput.{TaskOutput}
use Rattle.task_trait.specs.declared.tools.ToolAnswer.{ToolAnswer}
use Rattle.task_trait.specs.declared.tools.ToolAnswer.TheVariants.{Unknown, Made as MadeBy}
use Rattle.task_trait.specs.declared.tools.ToolInput.{ToolInput}
use Rattle.task_kit.specs.Foreign.{foreign_input, foreign_output}
use Rattle.task_kit.specs.Tasks.{answer}
use Rattle.target_incremental.specs.declared.decision.Choice.{Choice}
use Rattle.target_incremental.specs.declared.decision.Choice.TheVariants.{
  Run as RunAll,
  Skip,
  Nothing,
  Part,
}
use Rattle.target_texts.specs.declared.on_error.OnError.{OnError}
use Rattle.target_texts.specs.declared.on_error.OnError.TheVariants.{Stop, Warn, Continue}
use Rattle.target_texts.specs.Made.{Made}
use Rattle.target_texts.specs.Inferred.{task_of, inferred_at}
use Rattle.target_texts.specs.Parameters.{task_buckets}
use Rattle.target_texts.specs.OnErrors.{notes_by}
use Rattle.target_texts.specs.Returned.{returns_of}
use Rattle.target_body.specs.Work.{Work, done, followed_by, unless_stopped, and_then, each_in_turn}
use Rattle.target_body.specs.States.{
  Run,
  State,
  Stopped,
  faulted,
  failed,
  with_act,
  with_notes,
  with_items,
  with_decision,
  with_changes,
  after_group,
  stop_at,
  settled,
  or_stop,
  stopped_by,
  taken,
  view_of,
  context_in,
}
use Rattle.target_body.specs.Answers.{all_acted, given, msbuild, tool, not_built_in, answered_by}
use Rattle.target_body.specs.Tasks.{
  call_context,
  ended_by,
  outputs_if,
  answered_to,
  readied,
  answered_if,
  called_with,
  call,
  called,
  inferred,
  then_inferred,
  task,
  still_failed,
}
use Rattle.target_body.specs.Children.{
  group,
  Kind,
  group_element,
  on_error_element,
  task_element,
  kind_of,
  child_by,
  child,
  children,
}
use Rattle.target_body.specs.Returned.{items_if, returned}
use Rattle.target_body.specs.Pieces.{treated, on_old, word_of, decided}
use Rattle.build_declared.proofs.PartEnds.{progress_in}
use Rattle.build_declared.specs.Ends.{End, end_of}
use Rattle.build_declared.proofs.Alones.{some-same, end-bound, end-mapped, msbuild-end, uncalled}

-- the journal of a result's state
abbrev pub journal_of : Result State Stopped → Journal
journal_of r = (progress_in r).journal

taken-journal : (m : Made) (s : State) → journal_of (taken m s) ≡ s.journal
taken-journal m s = go m.fault
  where
    go : (fault : Option EvalFault) → journal_of (stopped_by fault (with_changes m.changes s))
        ≡ s.journal
    go None = refl
    go (Some fault) = refl

ended-journal : (on_error : OnError) (ok : Bool) (s : State) →
    journal_of (ended_by on_error ok s) ≡ s.journal
ended-journal on_error true s = refl
ended-journal Stop false s = refl
ended-journal Warn false s = refl
ended-journal Continue false s = refl

and-journal : (r : Result State Stopped) (f : State → Result State Stopped) →
    ((t : State) → journal_of (f t) ≡ t.journal) → journal_of (results.and_then r f) ≡ journal_of r
and-journal (Ok t) f g = g t
and-journal (Err d) f g = refl

still-journal : (r : Result State Stopped) → journal_of (still_failed r) ≡ journal_of r
still-journal (Ok t) = refl
still-journal (Err d) = refl

settled-journal : (r : Result State Stopped) → journal_of (map_ok settled r) ≡ journal_of r
settled-journal (Ok t) = refl
settled-journal (Err d) = refl

module _ (tools : List ℕ → ToolInput → ToolAnswer) (id : RunId) (run : Run) (base : Journal)
    (free : HasNotActed id base) where
  -- the state has the journal then, which is the run's numbered files over the base; files are act
  -- in front
  pub record Stepped (l : Journal) (before : List Act) (journal : Journal)
      (acts : List Act) : Type 0 where
    pub in_step : l ≡ journal
    pub numbered_so : journal ≡ numbered id acts ++ base
    pub more : List Act
    pub grown : acts ≡ more ++ before

  abbrev pub StepsBy : {R : Type 0} → (R → Journal) → State → Work R → Type 0
  StepsBy {R} get s v = (ps : List Act) → s.journal ≡ numbered id ps ++ base → (E : End R) →
      end_of tools id v s.journal ps ≡ Some E → Stepped (get E.value) ps E.journal E.acts

  abbrev pub Steps : State → Work (Result State Stopped) → Type 0
  Steps = StepsBy journal_of

  -- a part that is over
  over-by : {R : Type 0} (get : R → Journal) (s : State) (r : R) → get r ≡ s.journal →
      StepsBy get s (done r)
  over-by get s r h ps n E e =
      let same : record { value = r; journal = s.journal; acts = ps } ≡ E =
      some-same (record { value = r; journal = s.journal; acts = ps }) E e in
      subst (λ (z : End _). Stepped (get z.value) ps z.journal z.acts) same (record {
        in_step =
            h;
        numbered_so = n;
        more = [];
        grown = refl;
      })

  over : (s : State) (r : Result State Stopped) → journal_of r ≡ s.journal → Steps s (done r)
  over s r h = over-by journal_of s r h

  -- a part whose end is looked at
  then-by : {R S : Type 0} (get : R → Journal) (act : S → Journal) (s : State) (v : Work R) (f : R →
      S) → StepsBy get s v → ((r : R) → act (f r) ≡ get r) →
      StepsBy act s (followed_by v (λ end. done (f end)))
  then-by get act s v f h g ps n E e =
      let x = end-mapped tools id v f s.journal ps E e in
      let y = h ps n x.0 x.1 in
      subst (λ (z : End _). Stepped (act z.value) ps z.journal z.acts) x.2 (record {
        in_step = g x.0.value ∙ y.in_step;
        numbered_so = y.numbered_so;
        more = y.more;
        grown = y.grown;
      })

  read : {X : Type 0} (s : State) (x : Result X EvalFault) (next : X →
      Work (Result State Stopped)) → ((y : X) → Steps s (next y)) →
      Steps s (unless_stopped (or_stop s x) next)
  read s (Ok y) next f = f y
  read s (Err fault) next f = over s (Err (stop_at fault s)) refl

  then-next : {l : Journal} {before : List Act} {journal : Journal} {acts : List Act}
      {m last : Journal} {qs : List Act} → Stepped l before journal acts → Stepped m acts last qs →
      Stepped m before last qs
  then-next {before = before} a b = record {
    in_step = b.in_step;
    numbered_so =
        b.numbered_so;
    more = b.more ++ a.more;
    grown =
        b.grown ∙ (ap (λ z. b.more ++ z) a.grown ∙ sym (append_assoc b.more a.more before));
  }

  and-steps : (s : State) (v : Work (Result State Stopped)) (next : State →
      Work (Result State Stopped)) → Steps s v → ((t : State) → Steps t (next t)) →
      Steps s (and_then v next)
  and-steps s v next f g ps n E e =
      let x = end-bound tools id v (λ end. unless_stopped end next) s.journal ps E e in
      go x.0.value x.0.journal x.0.acts (f ps n x.0 x.1) x.2
    where
      go : (r : Result State Stopped) (l : Journal) (qs : List Act) →
          Stepped (journal_of r) ps l qs → end_of tools id (unless_stopped r next) l qs ≡ Some E →
          Stepped (journal_of E.value) ps E.journal E.acts
      go (Ok t) l qs a h = then-next a (g t qs (a.in_step
          ∙ a.numbered_so) E (subst (λ z. end_of tools id (next t) z qs ≡ Some E)
          (sym a.in_step) h))
      go (Err d) l qs a h =
          let same : record { value = Err d; journal = l; acts = qs } ≡ E =
          some-same (record { value = Err d; journal = l; acts = qs }) E h in
          subst (λ (z : End (Result State Stopped)).
          Stepped (journal_of z.value) ps z.journal z.acts) same a

  pub each-steps : {X : Type 0} (part : X → State → Work (Result State Stopped)) →
      ((x : X) (s : State) → Steps s (part x s)) → (xs : List X) (s : State) →
      Steps s (each_in_turn part xs s)
  each-steps part f [] s = over s (Ok s) refl
  each-steps part f (x ∷ xs) s = and-steps s (part x s) (each_in_turn part xs) (f x s)
      (each-steps part f xs)

  -- ---- answers

  acted-steps : (acts : List Act) (s : State) →
      StepsBy (λ (t : State). t.journal) s (all_acted acts s)
  acted-steps [] s = over-by (λ (t : State). t.journal) s s refl
  acted-steps (act ∷ acts) s = λ ps n E e.
      let next : Journal = add s.journal (acted id (length ps) act) in
      let new : next ≡ numbered id (act ∷ ps) ++ base =
      ap (λ l. add l (acted id (length ps) act)) n
      ∙ add_new (numbered id ps ++ base) (acted id (length ps) act)
      (has-append (act_of id (length ps)) (numbered id ps) base
      ∙ neither (has (act_of id (length ps)) (numbered id ps))
      (has (act_of id (length ps)) base) (has-above id ps (length ps) (self (length ps)))
      (free (length ps))) in
      let x = acted-steps acts (with_act act next s) (act ∷ ps) new E e in
      record {
        in_step = x.in_step;
        numbered_so = x.numbered_so;
        more = x.more ++ act ∷ [];
        grown =
            x.grown ∙ sym (append_assoc x.more (act ∷ []) ps);
      }
    where
      self : (n : ℕ) → n ≤ n
      self n = omega arith

      neither : (a b : Bool) → a ≡ false → b ≡ false → (a || b) ≡ false
      neither a b p q = cc

  abbrev first-journal : State × TaskOutput → Journal
  first-journal x = x.0.journal

  pub given-steps : (output : TaskOutput) (s : State) → StepsBy first-journal s (given s output)
  given-steps output s = then-by (λ (t : State). t.journal) first-journal s
      (all_acted output.acts s) (λ after. (after, output)) (acted-steps output.acts s)
      (λ t. refl)

  msbuild-steps : (params : List Param) (s : State) → StepsBy first-journal s (msbuild run s params)
  msbuild-steps params s = λ ps n E e.
      over-by first-journal s (s, uncalled run params) refl ps n E
      (msbuild-end tools id run s params s.journal ps E e)

  tool-steps : (name : List ℕ) (s : State) (x : Result ToolInput Failure) →
      StepsBy first-journal s (tool name s x)
  tool-steps name s (Ok input) = λ ps n E e. given-steps
      (foreign_output name s.written (tools name input)) s ps n E e
  tool-steps name s (Err failure) = over-by first-journal s (s, failed_output name failure) refl

  built-steps : (b : Bool) (name : List ℕ) (params : List Param) (s : State) →
      StepsBy first-journal s (not_built_in b run s name params)
  built-steps true name params s = msbuild-steps params s
  built-steps false name params s = tool-steps name s (foreign_input (folder_of run.instance.path)
      (view_of run s) params)

  by-answer : (x : ToolAnswer) (name : List ℕ) (params : List Param) (s : State) →
      StepsBy first-journal s (answered_by x run s name params)
  by-answer (MadeBy output) name params s = given-steps output s
  by-answer Unknown name params s = built-steps (bytes_eq name (codes "msbuild")) name params s

  pub if-steps : (name : Option (List ℕ)) (e : At) (params : List Param) (s : State) →
      StepsBy first-journal s (answered_if name run s e params)
  if-steps (Some name) e params s = by-answer (answer name (folder_of run.instance.path)
      (view_of run s) params s.written) name params s
  if-steps None e params s = over-by first-journal s (s, failed_output (task_of e) UnknownTask) refl

  -- ---- tasks and children

  answered-journal : (e : At) (gives : Bool) (bucket : Bucket) (on_error : OnError)
      (x : State × TaskOutput) → journal_of (answered_to run e gives bucket on_error x)
      ≡ x.0.journal
  answered-journal e gives bucket on_error x =
      and-journal (taken (outputs_if gives (call_context run x.0 bucket) x.1.outputs e)
      (with_notes (notes_by on_error x.1.notes) x.0)) (ended_by on_error x.1.ok)
      (ended-journal on_error x.1.ok)
      ∙ taken-journal (outputs_if gives (call_context run x.0 bucket) x.1.outputs e)
      (with_notes (notes_by on_error x.1.notes) x.0)

  with-steps : (e : At) (gives : Bool) (bucket : Bucket) (s : State)
      (ready : Option (OnError × List Param)) → Steps s (called_with run e gives bucket s ready)
  with-steps e gives bucket s None = over s (Ok s) refl
  with-steps e gives bucket s (Some ready) =
      then-by first-journal journal_of s (answered_if (key_of (name_of e.node)) run s e ready.1)
      (answered_to run e gives bucket ready.0) (if-steps (key_of (name_of e.node)) e ready.1 s)
      (answered-journal e gives bucket ready.0)

  pub call-steps : (e : At) (gives : Bool) (bucket : Bucket) (s : State) →
      Steps s (call run e gives bucket s)
  call-steps e gives bucket s = read s (readied (call_context run s bucket) e)
      (called_with run e gives bucket s) (with-steps e gives bucket s)

  pub called-steps : (e : At) (gives : Bool) (s : State) → Steps s (called run e gives s)
  called-steps e gives s =
      read s (task_buckets (context_in run s s.task_scope) e)
      (λ buckets. each_in_turn (call run e gives) buckets s)
      (λ buckets. each-steps (call run e gives) (call-steps e gives) buckets s)

  inferred-journal : (e : At) (s : State) → journal_of (inferred run e s) ≡ s.journal
  inferred-journal e s = taken-journal (inferred_at (context_in run s s.scope) e) s

  then-journal : (e : At) (r : Result State Stopped) →
      journal_of (then_inferred run e r) ≡ journal_of r
  then-journal e (Ok t) = inferred-journal e t
  then-journal e (Err (failed t)) = still-journal (inferred run e t) ∙ inferred-journal e t
  then-journal e (Err (faulted p)) = refl

  task-steps : (choice : Choice) (e : At) (s : State) → Steps s (task run choice e s)
  task-steps RunAll e s = called-steps e true s
  task-steps Skip e s = over s (inferred run e s) (inferred-journal e s)
  task-steps Nothing e s = over s (Ok s) refl
  task-steps (Part old) e s = then-by journal_of journal_of s (called run e false s)
      (then_inferred run e) (called-steps e false s) (then-journal e)

  group-journal : (e : At) (s : State) → journal_of (group run e s) ≡ s.journal
  group-journal e s = go (group_changes (context_in run s s.scope) e)
    where
      go : (x : Result (List Change) EvalFault) →
          journal_of (map_ok (λ changes. after_group changes s) (or_stop s x)) ≡ s.journal
      go (Ok changes) = refl
      go (Err fault) = refl

  pub child-steps : (choice : Choice) (e : At) (s : State) → Steps s (child run choice e s)
  child-steps choice e s = then-by journal_of journal_of s
      (child_by (kind_of (name_of e.node)) run choice e s) (map_ok settled)
      (go (kind_of (name_of e.node))) settled-journal
    where
      go : (kind : Kind) → Steps s (child_by kind run choice e s)
      go group_element = over s (group run e s) (group-journal e s)
      go on_error_element = over s (Ok s) refl
      go task_element = task-steps choice e s

  pub children-steps : (choice : Choice) (s : State) → Steps s (children run choice s)
  children-steps choice s = each-steps (child run choice) (child-steps choice)
      (children_of run.target.element) s

  treated-steps : (choice : Choice) (items : Option (List ℕ × List Item)) (s : State) →
      Steps s (treated run choice items s)
  treated-steps RunAll items s = children-steps RunAll s
  treated-steps Skip items s = children-steps Skip s
  treated-steps Nothing items s = over s (Ok s) refl
  treated-steps (Part old) None s = children-steps (Part old) s
  treated-steps (Part old) (Some typed) s = children-steps (Part old) (on_old (Some typed) old s)

  returned-journal : (bucket : Bucket) (s : State) → journal_of (returned run bucket s) ≡ s.journal
  returned-journal bucket s = go (items_if run bucket s (returns_of run.target))
    where
      go : (x : Result (List Item) EvalFault) → journal_of (map_ok (λ items. with_items items s)
          (or_stop s x)) ≡ s.journal
      go (Ok items) = refl
      go (Err fault) = refl

  word-journal : (word : Decision) (r : Result State Stopped) →
      journal_of (map_ok (with_decision word) r) ≡ journal_of r
  word-journal word (Ok t) = refl
  word-journal word (Err d) = refl

  pub decided-steps : (bucket : Bucket) (choice : Choice) (items : Option (List ℕ × List Item))
      (s : State) → Steps s (decided run bucket choice items s)
  decided-steps bucket choice items s =
      and-steps s (treated run choice items s) (λ end.
      done (map_ok (with_decision (word_of choice items)) (returned run bucket end)))
      (treated-steps choice items s)
      (λ t. over t (map_ok (with_decision (word_of choice items)) (returned run bucket t))
      (word-journal (word_of choice items) (returned run bucket t) ∙ returned-journal bucket t))
