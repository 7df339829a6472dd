-- A run from two states that differ in what was written, noted and decided before, where no file is
-- too large.
use Rattle.std.proofs.Common.{
  inl,
  inr,
  ◌≡◌,
  ℕ,
  Bool,
  true,
  false,
  List,
  [],
  ◌∷◌,
  ◌++◌,
  length,
  Option,
  None,
  Some,
  map,
  ◌≤◌,
  ◌||◌,
  arith,
  append_assoc,
  refl,
  ap,
  sym,
  ◌∙◌,
  subst,
}
use Rattle.std.specs.Prelude.{Result, Ok, Err, codes, unwrap_or}
use Rattle.std.specs.Str.{bytes_eq}
use Rattle.msb_laws.specs.Results as results
use Rattle.msb_laws.specs.Results.{map_ok}
use Rattle.msb_values.specs.Acts.{act_path, act_bytes}
use Rattle.msb_values.specs.Keys.{key_of}
use Rattle.msb_values.specs.declared.change.Change.{Change}
use Rattle.msb_values.specs.declared.item.Item.{Item}
use Rattle.msb_values.specs.declared.act.Act.{Act}
use Rattle.msb_elements.specs.Nodes.{name_of}
use Rattle.msb_expand.specs.declared.lens.Bucket.{Bucket}
use Rattle.msb_expand.specs.Reserved.{folder_of}
use Rattle.result_cache.specs.declared.record.Decision.{Decision}
use Rattle.result_cache.specs.Journal.{Journal, add, acted, act_of, has, content}
use Rattle.build_world.specs.Elements.{At, children_of}
use Rattle.build_world.specs.Faults.{fault_text}
use Rattle.msb_values.specs.declared.note.Note.TheVariants.{Low, Message, Warning, Fail}
use Rattle.build_world.specs.declared.fault.EvalFault.{EvalFault}
use Rattle.build_incremental.specs.Alike.{AlikeJournals}
use Rattle.element_texts.specs.Contexts.{in_bucket, item_context}
use Rattle.msb_items.specs.TargetGroups.{group_changes}
use Rattle.msb_values.specs.Changes.{all_applied}
use Rattle.task_trait.specs.Failures.{failed as failed_output}
use Rattle.task_trait.specs.declared.failures.Failure.{Failure}
use Rattle.task_trait.specs.declared.failures.Failure.TheVariants.{UnknownTask}
use Rattle.task_trait.specs.declared.tools.Param.{Param}
use Rattle.task_trait.specs.declared.tools.TaskOutput.{TaskOutput}
use Rattle.task_trait.specs.declared.tools.ToolAnswer.{ToolAnswer}
use Rattle.task_trait.specs.declared.tools.ToolAnswer.TheVariants.{Unknown, Made as MadeBy}
use Rattle.task_trait.specs.declared.tools.ToolInput.{ToolInput}
use Rattle.task_kit.specs.Foreign.{foreign_input, foreign_output}
use Rattle.task_kit.specs.Tasks.{answer}
use Rattle.target_incremental.specs.declared.decision.Choice.{Choice}
use Rattle.target_incremental.specs.declared.decision.Choice.TheVariants.{
  Run as RunAll,
  Skip,
  Nothing,
  Part,
}
use Rattle.target_texts.specs.declared.on_error.OnError.{OnError}
use Rattle.target_texts.specs.declared.on_error.OnError.TheVariants.{Stop, Warn, Continue}
use Rattle.target_texts.specs.Made.{Made}
use Rattle.target_texts.specs.Inferred.{task_of, inferred_at}
use Rattle.target_texts.specs.Parameters.{task_buckets}
use Rattle.target_texts.specs.Returned.{returns_of, returned_items}
use Rattle.target_texts.specs.OnErrors.{notes_by, as_warning}
use Rattle.msb_items.specs.Items.{with_list}
use Rattle.target_body.specs.Work.{Work, done, followed_by, unless_stopped, and_then, each_in_turn}
use Rattle.target_body.specs.States.{
  Run,
  State,
  Stopped,
  faulted,
  failed,
  with_act,
  with_notes,
  with_items,
  with_decision,
  with_changes,
  after_group,
  stop_at,
  settled,
  or_stop,
  stopped_by,
  taken,
  view_of,
  context_in,
  Progress,
  progress_of,
}
use Rattle.target_body.specs.Answers.{
  all_acted,
  given,
  msbuild,
  tool,
  not_built_in,
  answered_by,
  answered,
}
use Rattle.target_body.specs.Tasks.{
  call_context,
  ended_by,
  outputs_if,
  answered_to,
  readied,
  answered_if,
  called_with,
  call,
  called,
  inferred,
  then_inferred,
  task,
  still_failed,
}
use Rattle.target_body.specs.Children.{
  group,
  Kind,
  group_element,
  on_error_element,
  task_element,
  kind_of,
  child_by,
  child,
  children,
}
use Rattle.target_body.specs.Returned.{items_if, returned}
use Rattle.target_body.specs.Pieces.{treated, on_old, word_of, decided}
use Rattle.build_declared.proofs.PartEnds.{progress_in}
use Rattle.build_declared.specs.Declared.{IsNotTooLarge}
use Rattle.build_declared.specs.Written.{bytes_in, AnyPath}
use Rattle.build_declared.specs.Ends.{End, end_of}
use Rattle.build_declared.proofs.Alones.{
  with_value,
  some-same,
  end-bound,
  end-mapped,
  KeepsNotes,
  keeps-each,
  msbuild-end,
  uncalled,
}
use Rattle.build_declared.proofs.Looks.{looks-same}
use Rattle.build_declared.proofs.NotesStay.{
  taken-has,
  ended-has,
  and-has,
  over,
  word-has,
  returned-has,
  call-keeps,
  child-keeps,
  still-has,
  inferred-has,
}
use Rattle.build_incremental.proofs.Numbered.{numbered, has-above}
use Rattle.build_incremental.proofs.Entries.{has-append}
use Rattle.build_incremental.specs.SideBySide.{HasNotActed}
use Rattle.build_meaning.proofs.MeaningDerived.{in-right}
use Rattle.result_cache.specs.Lists.{In, this_or}
use Rattle.result_cache.specs.declared.run.RunId.{RunId}
use Rattle.result_cache.proofs.JournalEntries.{add_new}
use Rattle.task_kit.proofs.OtherWritten.{
  EqualOrLarge,
  equal,
  first_large,
  second_large,
  IsLarge,
  AnswersAlike,
  answers-alike,
  tools-alike,
}
use Rattle.msb_values.specs.declared.note.Note.{Note}
use Rattle.task_trait.specs.Failures.{failure_text}
use Rattle.task_trait.specs.declared.failures.Failure.TheVariants.{TooLarge}

module _ (tools : List ℕ → ToolInput → ToolAnswer) (id : RunId) (run : Run) (j k : Journal)
    (fw : HasNotActed id j) (fc : HasNotActed id k) where
  abbrev T : List ℕ → Option (List ℕ)
  T = bytes_in run.files

  -- the same, but for what was written, noted and decided before
  pub record Cousin (s t : State) (ps pt : List Act) : Type 0 where
    pub scope : s.scope ≡ t.scope
    pub task_scope : s.task_scope ≡ t.task_scope
    pub unseen : s.unseen ≡ t.unseen
    pub items : s.items ≡ t.items
    pub changes : s.changes ≡ t.changes
    pub w_is : s.journal ≡ numbered id ps ++ j
    pub c_is : t.journal ≡ numbered id pt ++ k
    pub alike : AlikeJournals T AnyPath s.journal t.journal

  -- and so where a fault has stopped both
  pub record CousinFault (p q : Progress) (ps pt : List Act) : Type 0 where
    pub changes : p.changes ≡ q.changes
    pub w_is : p.journal ≡ numbered id ps ++ j
    pub c_is : q.journal ≡ numbered id pt ++ k
    pub alike : AlikeJournals T AnyPath p.journal q.journal

  abbrev pub CousinEnd : Result State Stopped → Result State Stopped → List Act → List Act → Type 0
  CousinEnd (Ok s) (Ok t) ps pt = Cousin s t ps pt
  CousinEnd (Err (faulted p)) (Err (faulted q)) ps pt = CousinFault p q ps pt
  CousinEnd (Err (failed s)) (Err (failed t)) ps pt = Cousin s t ps pt
  CousinEnd r q ps pt = ⊥

  abbrev pub Fine : List Note → Type 0
  Fine notes = (note : Note) → In note notes → IsNotTooLarge tools id run note

  abbrev pub journal_of : Result State Stopped → Journal
  journal_of r = (progress_in r).journal

  -- both are at an end, and have done the same since
  pub record BothEnd (ps pt : List Act) (E F : End (Result State Stopped)) : Type 0 where
    pub cousins : CousinEnd E.value F.value E.acts F.acts
    pub w_step : journal_of E.value ≡ E.journal
    pub c_step : journal_of F.value ≡ F.journal
    pub new : List Act
    pub w_acts : E.acts ≡ new ++ ps
    pub c_acts : F.acts ≡ new ++ pt

  abbrev pub Both : State → State → Work (Result State Stopped) → Work (Result State Stopped) →
      Type 0
  Both s t v u = (ps pt : List Act) → Cousin s t ps pt → (E F : End (Result State Stopped)) →
      end_of tools id v s.journal ps ≡ Some E → end_of tools id u t.journal pt ≡ Some F →
      Fine (progress_in E.value).notes → Fine (progress_in F.value).notes → BothEnd ps pt E F

  -- ---- places

  place-same : (s t : State) (ps pt : List Act) → Cousin s t ps pt →
      context_in run s s.scope ≡ context_in run t t.scope
  place-same s t ps pt h = ap (λ l. item_context l run.instance.path s.scope)
      ((looks-same run.files AnyPath).paths s.journal t.journal h.alike)
      ∙ ap (context_in run t) h.scope

  tasks-same : (s t : State) (ps pt : List Act) → Cousin s t ps pt →
      context_in run s s.task_scope ≡ context_in run t t.task_scope
  tasks-same s t ps pt h = ap (λ l. item_context l run.instance.path s.task_scope)
      ((looks-same run.files AnyPath).paths s.journal t.journal h.alike)
      ∙ ap (context_in run t) h.task_scope

  -- ---- parts that are over, and parts in turn

  over-both : (s t : State) (r q : Result State Stopped) →
      ((ps pt : List Act) → Cousin s t ps pt → CousinEnd r q ps pt) → journal_of r ≡ s.journal →
      journal_of q ≡ t.journal → Both s t (done r) (done q)
  over-both s t r q f hw hc ps pt c E F he hf fe ff =
      let e : record { value = r; journal = s.journal; acts = ps } ≡ E =
      some-same (record { value = r; journal = s.journal; acts = ps }) E he in
      let g : record { value = q; journal = t.journal; acts = pt } ≡ F =
      some-same (record { value = q; journal = t.journal; acts = pt }) F hf in
      subst (λ z. BothEnd ps pt z F) e (subst (BothEnd ps pt (record {
        value = r;
        journal =
            s.journal;
        acts = ps;
      })) g
      (record {
        cousins = f ps pt c;
        w_step = hw;
        c_step = hc;
        new = [];
        w_acts = refl;
        c_acts =
            refl;
      }))

  and-both : (s t : State) (v u : Work (Result State Stopped)) (next then : State →
      Work (Result State Stopped)) → Both s t v u → ((x : State) → KeepsNotes tools id x (next x)) →
      ((x : State) → KeepsNotes tools id x (then x)) →
      ((x y : State) → Both x y (next x) (then y)) → Both s t (and_then v next) (and_then u then)
  and-both s t v u next then f kn kt g ps pt c E F he hf fe ff =
      let x = end-bound tools id v (λ end. unless_stopped end next) s.journal ps E he in
      let y = end-bound tools id u (λ end. unless_stopped end then) t.journal pt F hf in
      let b = f ps pt c x.0 y.0 x.1 y.1 (λ note i.
      fe note (rest next kn x.0.value x.0.journal x.0.acts E x.2 note i))
      (λ note i. ff note (rest then kt y.0.value y.0.journal y.0.acts F y.2 note i)) in
      go x.0.value y.0.value x.0.journal y.0.journal x.0.acts y.0.acts b.cousins b.w_step b.c_step
      b.new b.w_acts b.c_acts x.2 y.2
    where
      rest : (part : State → Work (Result State Stopped)) →
          ((x : State) → KeepsNotes tools id x (part x)) →
          (r : Result State Stopped) (l : Journal) (qs : List Act)
          (E : End (Result State Stopped)) →
          end_of tools id (unless_stopped r part) l qs ≡ Some E → (note : Note) →
          In note (progress_in r).notes → In note (progress_in E.value).notes
      rest part h (Ok x) l qs E e note i = h x l qs E e note i
      rest part h (Err d) l qs E e note i =
          let same : record { value = Err d; journal = l; acts = qs } ≡ E =
          some-same (record { value = Err d; journal = l; acts = qs }) E e in
          subst (λ (z : End (Result State Stopped)). In note (progress_in z.value).notes) same i

      stop : (d e : Stopped) (l m : Journal) (qs qt : List Act) → CousinEnd (Err d) (Err e) qs qt →
          journal_of (Err d) ≡ l → journal_of (Err e) ≡ m → (new : List Act) → qs ≡ new ++ ps →
          qt ≡ new ++ pt → Some (record { value = Err d; journal = l; acts = qs }) ≡ Some E →
          Some (record { value = Err e; journal = m; acts = qt }) ≡ Some F → BothEnd ps pt E F
      stop d e l m qs qt c a b new wp cp he hf =
          let x : record { value = Err d; journal = l; acts = qs } ≡ E =
          some-same (record { value = Err d; journal = l; acts = qs }) E he in
          let y : record { value = Err e; journal = m; acts = qt } ≡ F =
          some-same (record { value = Err e; journal = m; acts = qt }) F hf in
          subst (λ z. BothEnd ps pt z F) x (subst (BothEnd ps pt (record {
            value = Err d;
            journal =
                l;
            acts = qs;
          })) y (record {
            cousins = c;
            w_step = a;
            c_step = b;
            new = new;
            w_acts =
                wp;
            c_acts = cp;
          }))

      go : (r q : Result State Stopped) (l m : Journal) (qs qt : List Act) → CousinEnd r q qs qt →
          journal_of r ≡ l → journal_of q ≡ m → (new : List Act) → qs ≡ new ++ ps → qt ≡ new ++ pt →
          end_of tools id (unless_stopped r next) l qs ≡ Some E →
          end_of tools id (unless_stopped q then) m qt ≡ Some F → BothEnd ps pt E F
      go (Ok x) (Ok y) l m qs qt c a b new wp cp he hf =
          let z = g x y qs qt c E F (subst (λ o. end_of tools id (next x) o qs ≡ Some E) (sym a) he)
          (subst (λ o. end_of tools id (then y) o qt ≡ Some F) (sym b) hf) fe ff in
          record {
            cousins = z.cousins;
            w_step = z.w_step;
            c_step = z.c_step;
            new =
                z.new ++ new;
            w_acts = z.w_acts ∙ (ap (λ o. z.new ++ o) wp
                ∙ sym (append_assoc z.new new ps));
            c_acts =
                z.c_acts ∙ (ap (λ o. z.new ++ o) cp ∙ sym (append_assoc z.new new pt));
          }
      go (Ok x) (Err (faulted e)) l m qs qt c a b new wp cp he hf = absurd c
      go (Ok x) (Err (failed e)) l m qs qt c a b new wp cp he hf = absurd c
      go (Err (faulted d)) (Ok y) l m qs qt c a b new wp cp he hf = absurd c
      go (Err (failed d)) (Ok y) l m qs qt c a b new wp cp he hf = absurd c
      go (Err (faulted d)) (Err (faulted e)) l m qs qt c a b new wp cp he hf =
          stop (faulted d) (faulted e) l m qs qt c a b new wp cp he hf
      go (Err (failed d)) (Err (failed e)) l m qs qt c a b new wp cp he hf =
          stop (failed d) (failed e) l m qs qt c a b new wp cp he hf
      go (Err (faulted d)) (Err (failed e)) l m qs qt c a b new wp cp he hf = absurd c
      go (Err (failed d)) (Err (faulted e)) l m qs qt c a b new wp cp he hf = absurd c

  each-both : {X : Type 0} (part other : X → State → Work (Result State Stopped)) →
      ((x : X) (s : State) → KeepsNotes tools id s (part x s)) →
      ((x : X) (s : State) → KeepsNotes tools id s (other x s)) →
      ((x : X) (s t : State) → Both s t (part x s) (other x t)) → (xs : List X) (s t : State) →
      Both s t (each_in_turn part xs s) (each_in_turn other xs t)
  each-both part other kp ko f [] s t = over-both s t (Ok s) (Ok t) (λ ps pt c. c) refl refl
  each-both part other kp ko f (x ∷ xs) s t =
      and-both s t (part x s) (other x t) (each_in_turn part xs) (each_in_turn other xs) (f x s t)
      (keeps-each tools id part kp xs) (keeps-each tools id other ko xs)
      (each-both part other kp ko f xs)

  -- a text is read, and then what follows
  noted : (note : Note) (s t : State) (ps pt : List Act) → Cousin s t ps pt →
      CousinFault (progress_of (with_notes (note ∷ []) s)) (progress_of (with_notes (note ∷ []) t))
      ps pt
  noted note s t ps pt c = record {
    changes = c.changes;
    w_is = c.w_is;
    c_is = c.c_is;
    alike = c.alike;
  }

  read-both : {X : Type 0} (s t : State) (x y : Result X EvalFault) (next then : X →
      Work (Result State Stopped)) → ((ps pt : List Act) → Cousin s t ps pt → x ≡ y) →
      ((z : X) → Both s t (next z) (then z)) →
      Both s t (unless_stopped (or_stop s x) next) (unless_stopped (or_stop t y) then)
  read-both {X} s t x y next then same f ps pt c =
      subst (λ (z : Result X EvalFault). (E F : End (Result State Stopped)) →
      end_of tools id (unless_stopped (or_stop s x) next) s.journal ps ≡ Some E →
      end_of tools id (unless_stopped (or_stop t z) then) t.journal pt ≡ Some F →
      Fine (progress_in E.value).notes → Fine (progress_in F.value).notes → BothEnd ps pt E F)
      (same ps pt c) (go x)
    where
      go : (z : Result X EvalFault) → (E F : End (Result State Stopped)) →
          end_of tools id (unless_stopped (or_stop s z) next) s.journal ps ≡ Some E →
          end_of tools id (unless_stopped (or_stop t z) then) t.journal pt ≡ Some F →
          Fine (progress_in E.value).notes → Fine (progress_in F.value).notes → BothEnd ps pt E F
      go (Ok z) = f z ps pt c
      go (Err fault) =
          over-both s t (Err (stop_at fault s)) (Err (stop_at fault t))
          (noted (Fail (fault_text fault)) s t) refl refl ps pt c

  -- ---- what is made in a state

  taken-both : (m : Made) (s t : State) (ps pt : List Act) → Cousin s t ps pt →
      CousinEnd (taken m s) (taken m t) ps pt
  taken-both m s t ps pt c = go m.fault
    where
      changed : Cousin (with_changes m.changes s) (with_changes m.changes t) ps pt
      changed = record {
        scope = c.scope;
        task_scope = c.task_scope;
        unseen =
            ap (λ l. l ++ m.changes) c.unseen;
        items = c.items;
        changes =
            ap (λ l. l ++ m.changes) c.changes;
        w_is = c.w_is;
        c_is = c.c_is;
        alike = c.alike;
      }

      go : (fault : Option EvalFault) → CousinEnd (stopped_by fault (with_changes m.changes s))
          (stopped_by fault (with_changes m.changes t)) ps pt
      go None = changed
      go (Some fault) = noted (Fail (fault_text fault)) (with_changes m.changes s)
          (with_changes m.changes t) ps pt changed

  taken-journal : (m : Made) (s : State) → journal_of (taken m s) ≡ s.journal
  taken-journal m s = go m.fault
    where
      go : (fault : Option EvalFault) → journal_of (stopped_by fault (with_changes m.changes s))
          ≡ s.journal
      go None = refl
      go (Some fault) = refl

  notes-both : (ns ms : List Note) (s t : State) (ps pt : List Act) → Cousin s t ps pt →
      Cousin (with_notes ns s) (with_notes ms t) ps pt
  notes-both ns ms s t ps pt c = record {
    scope = c.scope;
    task_scope = c.task_scope;
    unseen = c.unseen;
    items =
        c.items;
    changes = c.changes;
    w_is = c.w_is;
    c_is = c.c_is;
    alike = c.alike;
  }

  -- ---- acts that are done

  self : (n : ℕ) → n ≤ n
  self n = omega arith

  neither : (a b : Bool) → a ≡ false → b ≡ false → (a || b) ≡ false
  neither a b p q = cc

  next-journal : (base l : Journal) (ps : List Act) (act : Act) → HasNotActed id base →
      l ≡ numbered id ps ++ base → add l (acted id (length ps) act) ≡ acted id (length ps) act ∷ l
  next-journal base l ps act free n =
      add_new l (acted id (length ps) act) (ap (has (act_of id (length ps))) n
      ∙ (has-append (act_of id (length ps)) (numbered id ps) base
      ∙ neither (has (act_of id (length ps)) (numbered id ps))
      (has (act_of id (length ps)) base) (has-above id ps (length ps) (self (length ps)))
      (free (length ps))))

  alike-next : (l m : Journal) (a b : ℕ) (act : Act) → AlikeJournals T AnyPath l m →
      AlikeJournals T AnyPath (acted id a act ∷ l) (acted id b act ∷ m)
  alike-next l m a b act h = record {
    same = λ p. go p (bytes_eq (act_path act) p);
    records =
        h.records;
    only = λ r n q i. tt;
  }
    where
      go : (p : List ℕ) (t : Bool) → unwrap_or (this_or t (content l p) (act_bytes act))
          (T p) ≡ unwrap_or (this_or t (content m p) (act_bytes act)) (T p)
      go p true = refl
      go p false = h.same p

  record ActedEnd (ps pt : List Act) (E F : End State) : Type 0 where
    cousins : Cousin E.value F.value E.acts F.acts
    w_step : E.value.journal ≡ E.journal
    c_step : F.value.journal ≡ F.journal
    new : List Act
    w_acts : E.acts ≡ new ++ ps
    c_acts : F.acts ≡ new ++ pt

  acted-both : (acts : List Act) (s t : State) (ps pt : List Act) → Cousin s t ps pt →
      (E F : End State) → end_of tools id (all_acted acts s) s.journal ps ≡ Some E →
      end_of tools id (all_acted acts t) t.journal pt ≡ Some F → ActedEnd ps pt E F
  acted-both [] s t ps pt c E F he hf =
      let e : record { value = s; journal = s.journal; acts = ps } ≡ E =
      some-same (record { value = s; journal = s.journal; acts = ps }) E he in
      let g : record { value = t; journal = t.journal; acts = pt } ≡ F =
      some-same (record { value = t; journal = t.journal; acts = pt }) F hf in
      subst (λ z. ActedEnd ps pt z F) e (subst (ActedEnd ps pt (record {
        value = s;
        journal =
            s.journal;
        acts = ps;
      })) g (record {
        cousins = c;
        w_step = refl;
        c_step = refl;
        new =
            [];
        w_acts = refl;
        c_acts = refl;
      }))
  acted-both (act ∷ acts) s t ps pt c E F he hf =
      let wn : add s.journal (acted id (length ps) act) ≡ acted id (length ps) act ∷ s.journal =
      next-journal j s.journal ps act fw c.w_is in
      let cn : add t.journal (acted id (length pt) act) ≡ acted id (length pt) act ∷ t.journal =
      next-journal k t.journal pt act fc c.c_is in
      let next : Cousin (with_act act (add s.journal (acted id (length ps) act)) s)
      (with_act act (add t.journal (acted id (length pt) act)) t) (act ∷ ps) (act ∷ pt) =
      record {
        scope = c.scope;
        task_scope = c.task_scope;
        unseen = c.unseen;
        items = c.items;
        changes = c.changes;
        w_is = wn ∙ ap (λ l. acted id (length ps) act ∷ l) c.w_is;
        c_is = cn ∙ ap (λ l. acted id (length pt) act ∷ l) c.c_is;
        alike = subst (λ l. AlikeJournals T AnyPath l (add t.journal (acted id (length pt) act)))
            (sym wn) (subst (AlikeJournals T AnyPath (acted id (length ps) act ∷ s.journal))
            (sym cn) (alike-next s.journal t.journal (length ps) (length pt) act c.alike));
      } in
      let x = acted-both acts (with_act act (add s.journal (acted id (length ps) act)) s)
      (with_act act (add t.journal (acted id (length pt) act)) t) (act ∷ ps)
      (act ∷ pt) next E F he hf in
      record {
        cousins = x.cousins;
        w_step = x.w_step;
        c_step = x.c_step;
        new =
            x.new ++ act ∷ [];
        w_acts = x.w_acts ∙ sym (append_assoc x.new (act ∷ []) ps);
        c_acts =
            x.c_acts ∙ sym (append_assoc x.new (act ∷ []) pt);
      }

  -- ---- answers

  pub record AnswerEnd (ps pt : List Act) (E F : End (State × TaskOutput)) : Type 0 where
    pub cousins : Cousin E.value.0 F.value.0 E.acts F.acts
    pub output : E.value.1 ≡ F.value.1
    pub w_step : E.value.0.journal ≡ E.journal
    pub c_step : F.value.0.journal ≡ F.journal
    pub new : List Act
    pub w_acts : E.acts ≡ new ++ ps
    pub c_acts : F.acts ≡ new ++ pt

  abbrev pub AnswerBoth : State → State → Work (State × TaskOutput) → Work (State × TaskOutput) →
      Type 0
  AnswerBoth s t v u = (ps pt : List Act) → Cousin s t ps pt → (E F : End (State × TaskOutput)) →
      end_of tools id v s.journal ps ≡ Some E → end_of tools id u t.journal pt ≡ Some F →
      Fine E.value.1.notes → Fine F.value.1.notes → AnswerEnd ps pt E F

  -- the output of acts that are given
  given-output : (output : TaskOutput) (s : State) (l : Journal) (ps : List Act)
      (E : End (State × TaskOutput)) → end_of tools id (given s output) l ps ≡ Some E →
      E.value.1 ≡ output
  given-output output s l ps E h =
      let x = end-mapped tools id (all_acted output.acts s)
      (λ after. (after, output)) l ps E h in
      ap (λ (z : End (State × TaskOutput)). z.value.1) (sym x.2)

  given-both : (output : TaskOutput) (s t : State) →
      AnswerBoth s t (given s output) (given t output)
  given-both output s t ps pt c E F he hf fe ff =
      let x = end-mapped tools id (all_acted output.acts s)
      (λ after. (after, output)) s.journal ps E he in
      let y = end-mapped tools id (all_acted output.acts t)
      (λ after. (after, output)) t.journal pt F hf in
      let b = acted-both output.acts s t ps pt c x.0 y.0 x.1 y.1 in
      subst (λ z. AnswerEnd ps pt z F) x.2
      (subst (AnswerEnd ps pt (with_value (λ after. (after, output)) x.0)) y.2
      (record {
        cousins = b.cousins;
        output = refl;
        w_step = b.w_step;
        c_step = b.c_step;
        new =
            b.new;
        w_acts = b.w_acts;
        c_acts = b.c_acts;
      }))

  -- a large output is not fine
  not-large : (o : TaskOutput) → IsLarge o → Fine o.notes → ⊥
  not-large o l f =
      f (Fail (failure_text l.task (TooLarge l.path)))
      (subst (In (Fail (failure_text l.task (TooLarge l.path)))) (sym l.there.1)
      (in-right (Fail (failure_text l.task (TooLarge l.path))) l.there.0
      (Fail (failure_text l.task (TooLarge l.path)) ∷ []) (inl refl))) l.task l.path refl

  outputs-both : (x y : TaskOutput) → EqualOrLarge x y → (s t : State) →
      AnswerBoth s t (given s x) (given t y)
  outputs-both x y (equal e) s t = subst (λ z. AnswerBoth s t (given s x)
      (given t z)) e (given-both x s t)
  outputs-both x y (first_large l) s t = λ ps pt c E F he hf fe ff.
      absurd (not-large x l (subst (λ (o : TaskOutput). Fine o.notes)
      (given-output x s s.journal ps E he) fe))
  outputs-both x y (second_large l) s t = λ ps pt c E F he hf fe ff.
      absurd (not-large y l (subst (λ (o : TaskOutput). Fine o.notes)
      (given-output y t t.journal pt F hf) ff))

  output-over : (s t : State) (x : TaskOutput) → AnswerBoth s t (done (s, x)) (done (t, x))
  output-over s t x ps pt c E F he hf fe ff =
      let e : record { value = (s, x); journal = s.journal; acts = ps } ≡ E =
      some-same (record { value = (s, x); journal = s.journal; acts = ps }) E he in
      let g : record { value = (t, x); journal = t.journal; acts = pt } ≡ F =
      some-same (record { value = (t, x); journal = t.journal; acts = pt }) F hf in
      subst (λ z. AnswerEnd ps pt z F) e (subst (AnswerEnd ps pt (record {
        value = (s, x);
        journal =
            s.journal;
        acts = ps;
      })) g (record {
        cousins = c;
        output = refl;
        w_step = refl;
        c_step =
            refl;
        new = [];
        w_acts = refl;
        c_acts = refl;
      }))

  tool-both : (name : List ℕ) (x : Result ToolInput Failure) (s t : State) →
      AnswerBoth s t (tool name s x) (tool name t x)
  tool-both name (Ok input) s t = λ ps pt c E F he hf.
      outputs-both (foreign_output name s.written (tools name input))
      (foreign_output name t.written (tools name input))
      (tools-alike name s.written t.written (tools name input)) s t ps pt c E F he hf
  tool-both name (Err failure) s t = output-over s t (failed_output name failure)

  msbuild-both : (params : List Param) (s t : State) →
      AnswerBoth s t (msbuild run s params) (msbuild run t params)
  msbuild-both params s t = λ ps pt c E F he hf.
      output-over s t (uncalled run params) ps pt c E F
      (msbuild-end tools id run s params s.journal ps E he)
      (msbuild-end tools id run t params t.journal pt F hf)

  built-both : (b : Bool) (name : List ℕ) (params : List Param) (s t : State) →
      AnswerBoth s t (not_built_in b run s name params) (not_built_in b run t name params)
  built-both true name params s t = msbuild-both params s t
  built-both false name params s t = λ ps pt c.
      subst (λ x. (E F : End (State × TaskOutput)) →
      end_of tools id (tool name s (foreign_input (folder_of run.instance.path)
      (view_of run s) params)) s.journal ps ≡ Some E →
      end_of tools id (tool name t x) t.journal pt ≡ Some F → Fine E.value.1.notes →
      Fine F.value.1.notes → AnswerEnd ps pt E F)
      ((looks-same run.files AnyPath).inputs s.journal t.journal c.alike
      (folder_of run.instance.path) params) (tool-both name
      (foreign_input (folder_of run.instance.path) (view_of run s) params) s t ps pt c)

  by-answers : (x y : ToolAnswer) → AnswersAlike x y →
      (name : List ℕ) (params : List Param) (s t : State) →
      AnswerBoth s t (answered_by x run s name params) (answered_by y run t name params)
  by-answers (MadeBy x) (MadeBy y) h name params s t = outputs-both x y h s t
  by-answers (MadeBy x) Unknown h name params s t = absurd h
  by-answers Unknown (MadeBy y) h name params s t = absurd h
  by-answers Unknown Unknown h name params s t =
      built-both (bytes_eq name (codes "msbuild")) name params s t

  answered-both : (name : List ℕ) (params : List Param) (s t : State) →
      AnswerBoth s t (answered run s name params) (answered run t name params)
  answered-both name params s t = λ ps pt c.
      let dir = folder_of run.instance.path in
      let alike : AnswersAlike (answer name dir (view_of run s) params s.written)
      (answer name dir (view_of run t) params t.written) =
      subst (λ x. AnswersAlike (answer name dir (view_of run s) params s.written) x)
      ((looks-same run.files AnyPath).answers s.journal t.journal c.alike name dir params
      t.written) (answers-alike name dir (view_of run s) params s.written t.written) in
      by-answers (answer name dir (view_of run s) params s.written)
      (answer name dir (view_of run t) params t.written) alike name params s t ps pt c

  if-both : (name : Option (List ℕ)) (e : At) (params : List Param) (s t : State) →
      AnswerBoth s t (answered_if name run s e params) (answered_if name run t e params)
  if-both (Some name) e params s t = answered-both name params s t
  if-both None e params s t = output-over s t (failed_output (task_of e) UnknownTask)

  -- ---- tasks

  in-map : (note : Note) (notes : List Note) → In note notes →
      In (as_warning note) (map as_warning notes)
  in-map note [] i = absurd i
  in-map note (n ∷ notes) (inl e) = inl (ap as_warning e)
  in-map note (n ∷ notes) (inr i) = inr (in-map note notes i)

  fine-notes : (on_error : OnError) (notes : List Note) → Fine (notes_by on_error notes) →
      Fine notes
  fine-notes Stop notes f = f
  fine-notes Continue notes f = f
  fine-notes Warn notes f = λ note i. go note (f (as_warning note) (in-map note notes i))
    where
      go : (note : Note) → IsNotTooLarge tools id run (as_warning note) →
          IsNotTooLarge tools id run note
      go (Low text) h = tt
      go (Message text) h = tt
      go (Warning text) h = h
      go (Fail text) h = h

  ended-both : (on_error : OnError) (ok : Bool) (s t : State) (ps pt : List Act) →
      Cousin s t ps pt → CousinEnd (ended_by on_error ok s) (ended_by on_error ok t) ps pt
  ended-both on_error true s t ps pt c = c
  ended-both Stop false s t ps pt c = c
  ended-both Warn false s t ps pt c = c
  ended-both Continue false s t ps pt c = c

  ended-journal : (on_error : OnError) (ok : Bool) (s : State) →
      journal_of (ended_by on_error ok s) ≡ s.journal
  ended-journal on_error true s = refl
  ended-journal Stop false s = refl
  ended-journal Warn false s = refl
  ended-journal Continue false s = refl

  and-ends : (r q : Result State Stopped) (f g : State → Result State Stopped) (ps pt : List Act) →
      CousinEnd r q ps pt → ((s t : State) → Cousin s t ps pt → CousinEnd (f s) (g t) ps pt) →
      CousinEnd (results.and_then r f) (results.and_then q g) ps pt
  and-ends (Ok s) (Ok t) f g ps pt c h = h s t c
  and-ends (Ok s) (Err (faulted e)) f g ps pt c h = absurd c
  and-ends (Ok s) (Err (failed e)) f g ps pt c h = absurd c
  and-ends (Err (faulted d)) (Ok t) f g ps pt c h = absurd c
  and-ends (Err (failed d)) (Ok t) f g ps pt c h = absurd c
  and-ends (Err (faulted d)) (Err (faulted e)) f g ps pt c h = c
  and-ends (Err (failed d)) (Err (failed e)) f g ps pt c h = c
  and-ends (Err (faulted d)) (Err (failed e)) f g ps pt c h = absurd c
  and-ends (Err (failed d)) (Err (faulted e)) f g ps pt c h = absurd c

  and-journal : (r : Result State Stopped) (f : State → Result State Stopped) →
      ((t : State) → journal_of (f t) ≡ t.journal) →
      journal_of (results.and_then r f) ≡ journal_of r
  and-journal (Ok t) f g = g t
  and-journal (Err d) f g = refl

  call-place : (s t : State) (bucket : Bucket) (ps pt : List Act) → Cousin s t ps pt →
      call_context run s bucket ≡ call_context run t bucket
  call-place s t bucket ps pt c = ap (λ p. in_bucket p bucket) (tasks-same s t ps pt c)

  answered-to : (e : At) (gives : Bool) (bucket : Bucket) (on_error : OnError) (s t : State)
      (o : TaskOutput) (ps pt : List Act) → Cousin s t ps pt →
      CousinEnd (answered_to run e gives bucket on_error (s, o))
      (answered_to run e gives bucket on_error (t, o)) ps pt
  answered-to e gives bucket on_error s t o ps pt c =
      let ns = notes_by on_error o.notes in
      let x = with_notes ns s in
      let y = with_notes ns t in
      and-ends (taken (outputs_if gives (call_context run s bucket) o.outputs e) x)
      (taken (outputs_if gives (call_context run t bucket) o.outputs e) y)
      (ended_by on_error o.ok) (ended_by on_error o.ok) ps pt
      (subst (λ m. CousinEnd (taken (outputs_if gives (call_context run s bucket) o.outputs e) x)
      (taken m y) ps pt) (ap (λ p. outputs_if gives p o.outputs e)
      (call-place s t bucket ps pt c))
      (taken-both (outputs_if gives (call_context run s bucket) o.outputs e) x y ps pt
      (notes-both ns ns s t ps pt c)))
      (λ a b d. ended-both on_error o.ok a b ps pt d)

  answered-journal : (r : Run) (e : At) (gives : Bool) (bucket : Bucket) (on_error : OnError)
      (x : State × TaskOutput) → journal_of (answered_to r e gives bucket on_error x) ≡ x.0.journal
  answered-journal r e gives bucket on_error x =
      and-journal (taken (outputs_if gives (call_context r x.0 bucket) x.1.outputs e)
      (with_notes (notes_by on_error x.1.notes) x.0)) (ended_by on_error x.1.ok)
      (ended-journal on_error x.1.ok)
      ∙ taken-journal (outputs_if gives (call_context r x.0 bucket) x.1.outputs e)
      (with_notes (notes_by on_error x.1.notes) x.0)

  -- its notes are among those of the end
  answered-notes : (r : Run) (e : At) (gives : Bool) (bucket : Bucket) (on_error : OnError)
      (x : State × TaskOutput) → Fine (progress_in (answered_to r e gives bucket on_error x)).notes
      →
      Fine x.1.notes
  answered-notes r e gives bucket on_error x f =
      let s = with_notes (notes_by on_error x.1.notes) x.0 in
      fine-notes on_error x.1.notes (λ note i. f note
      (and-has s (taken (outputs_if gives (call_context r x.0 bucket) x.1.outputs e) s)
      (ended_by on_error x.1.ok) (taken-has (outputs_if gives
      (call_context r x.0 bucket) x.1.outputs e) s) (ended-has on_error x.1.ok) note
      (in-right note x.0.notes (notes_by on_error x.1.notes) i)))

  with-both : (e : At) (gives : Bool) (bucket : Bucket) (s t : State)
      (ready : Option (OnError × List Param)) → Both s t (called_with run e gives bucket s ready)
      (called_with run e gives bucket t ready)
  with-both e gives bucket s t None = over-both s t (Ok s) (Ok t) (λ ps pt c. c) refl refl
  with-both e gives bucket s t (Some ready) = λ ps pt c E F he hf fe ff.
      let name = key_of (name_of e.node) in
      let x = end-mapped tools id (answered_if name run s e ready.1)
      (answered_to run e gives bucket ready.0) s.journal ps E he in
      let y = end-mapped tools id (answered_if name run t e ready.1)
      (answered_to run e gives bucket ready.0) t.journal pt F hf in
      let fx : Fine x.0.value.1.notes = answered-notes run e gives bucket ready.0 x.0.value
      (subst (λ (z : End (Result State Stopped)). Fine (progress_in z.value).notes) (sym x.2) fe) in
      let fy : Fine y.0.value.1.notes = answered-notes run e gives bucket ready.0 y.0.value
      (subst (λ (z : End (Result State Stopped)). Fine (progress_in z.value).notes) (sym y.2) ff) in
      let b = if-both name e ready.1 s t ps pt c x.0 y.0 x.1 y.1 fx fy in
      subst (λ z. BothEnd ps pt z F) x.2
      (subst (BothEnd ps pt (with_value (answered_to run e gives bucket ready.0) x.0)) y.2 (record {
        cousins = subst (λ o. CousinEnd (answered_to run e gives bucket ready.0 x.0.value)
            (answered_to run e gives bucket ready.0 (y.0.value.0, o)) x.0.acts y.0.acts) b.output
            (answered-to e gives bucket ready.0 x.0.value.0 y.0.value.0 x.0.value.1 x.0.acts
            y.0.acts b.cousins);
        w_step = answered-journal run e gives bucket ready.0 x.0.value ∙ b.w_step;
        c_step = answered-journal run e gives bucket ready.0 y.0.value ∙ b.c_step;
        new = b.new;
        w_acts = b.w_acts;
        c_acts = b.c_acts;
      }))

  call-both : (e : At) (gives : Bool) (bucket : Bucket) (s t : State) →
      Both s t (call run e gives bucket s) (call run e gives bucket t)
  call-both e gives bucket s t =
      read-both s t (readied (call_context run s bucket) e)
      (readied (call_context run t bucket) e) (called_with run e gives bucket s)
      (called_with run e gives bucket t)
      (λ ps pt c. ap (λ p. readied p e) (call-place s t bucket ps pt c))
      (with-both e gives bucket s t)

  called-both : (e : At) (gives : Bool) (s t : State) →
      Both s t (called run e gives s) (called run e gives t)
  called-both e gives s t =
      read-both s t (task_buckets (context_in run s s.task_scope) e)
      (task_buckets (context_in run t t.task_scope) e)
      (λ buckets. each_in_turn (call run e gives) buckets s)
      (λ buckets. each_in_turn (call run e gives) buckets t)
      (λ ps pt c. ap (λ p. task_buckets p e) (tasks-same s t ps pt c))
      (λ buckets. each-both (call run e gives) (call run e gives)
      (call-keeps tools id run e gives) (call-keeps tools id run e gives)
      (call-both e gives) buckets s t)

  inferred-both : (e : At) (s t : State) (ps pt : List Act) → Cousin s t ps pt →
      CousinEnd (inferred run e s) (inferred run e t) ps pt
  inferred-both e s t ps pt c =
      subst (λ m. CousinEnd (inferred run e s) (taken m t) ps pt)
      (ap (λ p. inferred_at p e) (place-same s t ps pt c))
      (taken-both (inferred_at (context_in run s s.scope) e) s t ps pt c)

  inferred-journal : (r : Run) (e : At) (s : State) → journal_of (inferred r e s) ≡ s.journal
  inferred-journal r e s = taken-journal (inferred_at (context_in r s s.scope) e) s

  still-both : (r q : Result State Stopped) (ps pt : List Act) → CousinEnd r q ps pt →
      CousinEnd (still_failed r) (still_failed q) ps pt
  still-both (Ok s) (Ok t) ps pt c = c
  still-both (Ok s) (Err (faulted e)) ps pt c = absurd c
  still-both (Ok s) (Err (failed e)) ps pt c = absurd c
  still-both (Err (faulted d)) (Ok t) ps pt c = absurd c
  still-both (Err (failed d)) (Ok t) ps pt c = absurd c
  still-both (Err (faulted d)) (Err (faulted e)) ps pt c = c
  still-both (Err (failed d)) (Err (failed e)) ps pt c = c
  still-both (Err (faulted d)) (Err (failed e)) ps pt c = absurd c
  still-both (Err (failed d)) (Err (faulted e)) ps pt c = absurd c

  then-inferred : (e : At) (r q : Result State Stopped) (ps pt : List Act) → CousinEnd r q ps pt →
      CousinEnd (then_inferred run e r) (then_inferred run e q) ps pt
  then-inferred e (Ok s) (Ok t) ps pt c = inferred-both e s t ps pt c
  then-inferred e (Ok s) (Err (faulted d)) ps pt c = absurd c
  then-inferred e (Ok s) (Err (failed d)) ps pt c = absurd c
  then-inferred e (Err (faulted d)) (Ok t) ps pt c = absurd c
  then-inferred e (Err (failed d)) (Ok t) ps pt c = absurd c
  then-inferred e (Err (faulted s)) (Err (faulted t)) ps pt c = c
  then-inferred e (Err (failed s)) (Err (failed t)) ps pt c =
      still-both (inferred run e s) (inferred run e t) ps pt (inferred-both e s t ps pt c)
  then-inferred e (Err (faulted d)) (Err (failed f)) ps pt c = absurd c
  then-inferred e (Err (failed d)) (Err (faulted f)) ps pt c = absurd c

  still-journal : (r : Result State Stopped) → journal_of (still_failed r) ≡ journal_of r
  still-journal (Ok t) = refl
  still-journal (Err d) = refl

  then-journal : (r : Run) (e : At) (q : Result State Stopped) →
      journal_of (then_inferred r e q) ≡ journal_of q
  then-journal r e (Ok t) = inferred-journal r e t
  then-journal r e (Err (failed t)) = still-journal (inferred r e t) ∙ inferred-journal r e t
  then-journal r e (Err (faulted t)) = refl

  -- a part whose end is looked at
  then-both : (s t : State) (v u : Work (Result State Stopped)) (f g : Result State Stopped →
      Result State Stopped) → Both s t v u → ((r q : Result State Stopped) (ps pt : List Act) →
      CousinEnd r q ps pt → CousinEnd (f r) (g q) ps pt) →
      ((r : Result State Stopped) → journal_of (f r) ≡ journal_of r) →
      ((r : Result State Stopped) → journal_of (g r) ≡ journal_of r) →
      ((r : Result State Stopped) → Fine (progress_in (f r)).notes → Fine (progress_in r).notes) →
      ((r : Result State Stopped) → Fine (progress_in (g r)).notes → Fine (progress_in r).notes) →
      Both s t (followed_by v (λ end. done (f end))) (followed_by u (λ end. done (g end)))
  then-both s t v u f g h m jf jg nf ng ps pt c E F he hf fe ff =
      let x = end-mapped tools id v f s.journal ps E he in
      let y = end-mapped tools id u g t.journal pt F hf in
      let b = h ps pt c x.0 y.0 x.1 y.1 (nf x.0.value
      (subst (λ (z : End (Result State Stopped)). Fine (progress_in z.value).notes) (sym x.2) fe))
      (ng y.0.value (subst (λ (z : End (Result State Stopped)). Fine (progress_in z.value).notes)
      (sym y.2) ff)) in
      subst (λ z. BothEnd ps pt z F) x.2 (subst (BothEnd ps pt (with_value f x.0)) y.2 (record {
        cousins = m x.0.value y.0.value x.0.acts y.0.acts b.cousins;
        w_step = jf x.0.value ∙ b.w_step;
        c_step = jg y.0.value ∙ b.c_step;
        new = b.new;
        w_acts = b.w_acts;
        c_acts = b.c_acts;
      }))

  fine-then : (q : Run) (e : At) (r : Result State Stopped) →
      Fine (progress_in (then_inferred q e r)).notes → Fine (progress_in r).notes
  fine-then q e (Ok t) f note i = f note (inferred-has tools id q e t note i)
  fine-then q e (Err (failed t)) f note i =
      f note (still-has t (inferred q e t) (inferred-has tools id q e t) note i)
  fine-then q e (Err (faulted p)) f note i = f note i

  task-both : (choice : Choice) (e : At) (s t : State) →
      Both s t (task run choice e s) (task run choice e t)
  task-both RunAll e s t = called-both e true s t
  task-both Skip e s t = over-both s t (inferred run e s) (inferred run e t) (inferred-both e s t)
      (inferred-journal run e s) (inferred-journal run e t)
  task-both Nothing e s t = over-both s t (Ok s) (Ok t) (λ ps pt c. c) refl refl
  task-both (Part old) e s t =
      then-both s t (called run e false s) (called run e false t) (then_inferred run e)
      (then_inferred run e) (called-both e false s t) (then-inferred e) (then-journal run e)
      (then-journal run e) (fine-then run e) (fine-then run e)

  -- ---- children

  group-both : (e : At) (s t : State) (ps pt : List Act) → Cousin s t ps pt →
      CousinEnd (group run e s) (group run e t) ps pt
  group-both e s t ps pt c =
      subst
      (λ x. CousinEnd (group run e s) (map_ok (λ changes. after_group changes t) (or_stop t x))
      ps pt) (ap (λ p. group_changes p e) (place-same s t ps pt c))
      (go (group_changes (context_in run s s.scope) e))
    where
      go : (x : Result (List Change) EvalFault) →
          CousinEnd (map_ok (λ changes. after_group changes s) (or_stop s x))
          (map_ok (λ changes. after_group changes t) (or_stop t x)) ps pt
      go (Ok changes) = record {
        scope = ap (all_applied changes) c.scope;
        task_scope = ap (all_applied changes) c.task_scope;
        unseen = c.unseen;
        items = c.items;
        changes = ap (λ l. l ++ changes) c.changes;
        w_is = c.w_is;
        c_is = c.c_is;
        alike = c.alike;
      }
      go (Err fault) = noted (Fail (fault_text fault)) s t ps pt c

  group-journal : (r : Run) (e : At) (s : State) → journal_of (group r e s) ≡ s.journal
  group-journal r e s = go (group_changes (context_in r s s.scope) e)
    where
      go : (x : Result (List Change) EvalFault) →
          journal_of (map_ok (λ changes. after_group changes s) (or_stop s x)) ≡ s.journal
      go (Ok changes) = refl
      go (Err fault) = refl

  settled-state : (s t : State) (ps pt : List Act) → Cousin s t ps pt →
      Cousin (settled s) (settled t) ps pt
  settled-state s t ps pt c = record {
    scope = ap (all_applied s.unseen) c.scope ∙ ap (λ l. all_applied l t.scope) c.unseen;
    task_scope = ap (all_applied s.unseen) c.task_scope
        ∙ ap (λ l. all_applied l t.task_scope) c.unseen;
    unseen = refl;
    items = c.items;
    changes = c.changes;
    w_is = c.w_is;
    c_is = c.c_is;
    alike = c.alike;
  }

  map-ends : (f g : State → State) (r q : Result State Stopped) (ps pt : List Act) →
      CousinEnd r q ps pt → ((s t : State) → Cousin s t ps pt → Cousin (f s) (g t) ps pt) →
      CousinEnd (map_ok f r) (map_ok g q) ps pt
  map-ends f g (Ok s) (Ok t) ps pt c h = h s t c
  map-ends f g (Ok s) (Err (faulted e)) ps pt c h = absurd c
  map-ends f g (Ok s) (Err (failed e)) ps pt c h = absurd c
  map-ends f g (Err (faulted d)) (Ok t) ps pt c h = absurd c
  map-ends f g (Err (failed d)) (Ok t) ps pt c h = absurd c
  map-ends f g (Err (faulted d)) (Err (faulted e)) ps pt c h = c
  map-ends f g (Err (failed d)) (Err (failed e)) ps pt c h = c
  map-ends f g (Err (faulted d)) (Err (failed e)) ps pt c h = absurd c
  map-ends f g (Err (failed d)) (Err (faulted e)) ps pt c h = absurd c

  settled-journal : (r : Result State Stopped) → journal_of (map_ok settled r) ≡ journal_of r
  settled-journal (Ok t) = refl
  settled-journal (Err d) = refl

  fine-settled : (r : Result State Stopped) → Fine (progress_in (map_ok settled r)).notes →
      Fine (progress_in r).notes
  fine-settled (Ok t) f = f
  fine-settled (Err d) f = f

  child-both : (choice : Choice) (e : At) (s t : State) →
      Both s t (child run choice e s) (child run choice e t)
  child-both choice e s t =
      then-both s t (child_by (kind_of (name_of e.node)) run choice e s)
      (child_by (kind_of (name_of e.node)) run choice e t) (map_ok settled) (map_ok settled)
      (go (kind_of (name_of e.node)))
      (λ r q ps pt c. map-ends settled settled r q ps pt c (λ a b d. settled-state a b ps pt d))
      settled-journal settled-journal fine-settled fine-settled
    where
      go : (kind : Kind) → Both s t (child_by kind run choice e s) (child_by kind run choice e t)
      go group_element = over-both s t (group run e s) (group run e t) (group-both e s t)
          (group-journal run e s) (group-journal run e t)
      go on_error_element = over-both s t (Ok s) (Ok t) (λ ps pt c. c) refl refl
      go task_element = task-both choice e s t

  children-both : (choice : Choice) (s t : State) →
      Both s t (children run choice s) (children run choice t)
  children-both choice s t =
      each-both (child run choice) (child run choice) (child-keeps tools id run choice)
      (child-keeps tools id run choice) (child-both choice)
      (children_of run.target.element) s t

  on-old : (items : Option (List ℕ × List Item)) (old : List Item) (s t : State)
      (ps pt : List Act) → Cousin s t ps pt → Cousin (on_old items old s) (on_old items old t) ps pt
  on-old None old s t ps pt c = c
  on-old (Some typed) old s t ps pt c = record {
    scope = c.scope;
    task_scope = ap (λ scope. with_list scope typed.0 old) c.scope;
    unseen =
        c.unseen;
    items = c.items;
    changes = c.changes;
    w_is = c.w_is;
    c_is = c.c_is;
    alike =
        c.alike;
  }

  treated-both : (choice : Choice) (items : Option (List ℕ × List Item)) (s t : State) →
      Both s t (treated run choice items s) (treated run choice items t)
  treated-both RunAll items s t = children-both RunAll s t
  treated-both Skip items s t = children-both Skip s t
  treated-both Nothing items s t = over-both s t (Ok s) (Ok t) (λ ps pt c. c) refl refl
  treated-both (Part old) None s t = children-both (Part old) s t
  treated-both (Part old) (Some typed) s t = λ ps pt c. children-both (Part old)
      (on_old (Some typed) old s) (on_old (Some typed) old t) ps pt
      (on-old (Some typed) old s t ps pt c)

  items-same : (bucket : Bucket) (s t : State) (ps pt : List Act) → Cousin s t ps pt →
      (written : Option (List ℕ)) → items_if run bucket s written ≡ items_if run bucket t written
  items-same bucket s t ps pt c None = refl
  items-same bucket s t ps pt c (Some written) =
      ap (λ p. returned_items p bucket run.target.element s.items written) (place-same s t ps pt c)
      ∙ ap (λ l. returned_items (context_in run t t.scope) bucket run.target.element l written)
      c.items

  returned-both : (bucket : Bucket) (s t : State) (ps pt : List Act) → Cousin s t ps pt →
      CousinEnd (returned run bucket s) (returned run bucket t) ps pt
  returned-both bucket s t ps pt c =
      subst (λ x. CousinEnd (returned run bucket s)
      (map_ok (λ items. with_items items t) (or_stop t x)) ps pt)
      (items-same bucket s t ps pt c (returns_of run.target))
      (go (items_if run bucket s (returns_of run.target)))
    where
      go : (x : Result (List Item) EvalFault) → CousinEnd (map_ok (λ items. with_items items s)
          (or_stop s x)) (map_ok (λ items. with_items items t) (or_stop t x)) ps pt
      go (Ok items) = record {
        scope = c.scope;
        task_scope = c.task_scope;
        unseen = c.unseen;
        items =
            ap (λ l. l ++ items) c.items;
        changes = c.changes;
        w_is = c.w_is;
        c_is = c.c_is;
        alike =
            c.alike;
      }
      go (Err fault) = noted (Fail (fault_text fault)) s t ps pt c

  returned-journal : (r : Run) (bucket : Bucket) (s : State) →
      journal_of (returned r bucket s) ≡ s.journal
  returned-journal r bucket s = go (items_if r bucket s (returns_of r.target))
    where
      go : (x : Result (List Item) EvalFault) → journal_of (map_ok (λ items. with_items items s)
          (or_stop s x)) ≡ s.journal
      go (Ok items) = refl
      go (Err fault) = refl

  word-journal : (word : Decision) (r : Result State Stopped) →
      journal_of (map_ok (with_decision word) r) ≡ journal_of r
  word-journal word (Ok t) = refl
  word-journal word (Err d) = refl

  after-keeps : (r : Run) (bucket : Bucket) (word : Decision) (s : State) →
      KeepsNotes tools id s (done (map_ok (with_decision word) (returned r bucket s)))
  after-keeps r bucket word s = over tools id r s (map_ok (with_decision word)
      (returned r bucket s)) (word-has tools id r s word (returned r bucket s)
      (returned-has tools id r bucket s))

  -- a bucket that is done in the same way
  pub decided-both : (bucket : Bucket) (choice : Choice) (items : Option (List ℕ × List Item))
      (s t : State) → Both s t (decided run bucket choice items s)
      (decided run bucket choice items t)
  decided-both bucket choice items s t =
      and-both s t (treated run choice items s) (treated run choice items t)
      (λ end. done (map_ok (with_decision (word_of choice items)) (returned run bucket end)))
      (λ end. done (map_ok (with_decision (word_of choice items)) (returned run bucket end)))
      (treated-both choice items s t) (after-keeps run bucket (word_of choice items))
      (after-keeps run bucket (word_of choice items))
      (λ x y. over-both x y (map_ok (with_decision (word_of choice items)) (returned run bucket x))
      (map_ok (with_decision (word_of choice items)) (returned run bucket y))
      (λ ps pt c. map-ends (with_decision (word_of choice items))
      (with_decision (word_of choice items)) (returned run bucket x)
      (returned run bucket y) ps pt (returned-both bucket x y ps pt c)
      (λ a b d. record {
        scope = d.scope;
        task_scope = d.task_scope;
        unseen = d.unseen;
        items =
            d.items;
        changes = d.changes;
        w_is = d.w_is;
        c_is = d.c_is;
        alike = d.alike;
      }))
      (word-journal (word_of choice items) (returned run bucket x) ∙ returned-journal run bucket x)
      (word-journal (word_of choice items) (returned run bucket y)
      ∙ returned-journal run bucket y))
