-- Buckets that have nothing to do, and what follows the children of a bucket, go alike.
use Rattle.std.proofs.Common.{
  ◌≡◌,
  ℕ,
  ◌⊎◌,
  inl,
  inr,
  List,
  [],
  ◌∷◌,
  ◌++◌,
  Option,
  None,
  Some,
  refl,
  ap,
  sym,
  ◌∙◌,
  subst,
}
use Rattle.std.specs.Prelude.{Result, Ok, Err, option_map, codes}
use Rattle.msb_laws.specs.Results.{map_ok}
use Rattle.msb_values.specs.declared.item.Item.{Item}
use Rattle.msb_values.specs.declared.mode.Mode.{Mode}
use Rattle.msb_values.specs.declared.act.Act.{Act}
use Rattle.msb_values.specs.declared.scope.Scope.{Scope}
use Rattle.msb_expand.specs.declared.lens.Bucket.{Bucket}
use Rattle.result_cache.specs.declared.record.Decision.{Decision}
use Rattle.result_cache.specs.declared.run.RunId.{RunId}
use Rattle.result_cache.specs.Journal.{Journal}
use Rattle.build_world.specs.Elements.{attribute_of}
use Rattle.build_world.specs.declared.fault.EvalFault.{EvalFault}
use Rattle.build_incremental.specs.Alike.{AlikeJournals}
use Rattle.element_texts.specs.Contexts.{item_context}
use Rattle.task_trait.specs.declared.tools.ToolAnswer.{ToolAnswer}
use Rattle.task_trait.specs.declared.tools.ToolInput.{ToolInput}
use Rattle.target_incremental.specs.declared.decision.Choice.TheVariants.{Nothing}
use Rattle.target_incremental.specs.Decisions.{decision}
use Rattle.target_texts.specs.Lists.{Lists, lists_by}
use Rattle.target_texts.specs.Returned.{in_target, returns_of, returned_items}
use Rattle.target_body.specs.Work.{done, followed_by, unless_stopped, each_in_turn}
use Rattle.target_body.specs.States.{
  Run,
  State,
  Stopped,
  view_of,
  entered,
  with_items,
  with_decision,
  or_stop,
  context_in,
  stop_at,
}
use Rattle.target_body.specs.Returned.{items_if, returned}
use Rattle.target_body.specs.Pieces.{
  lists_at,
  choice_of,
  decided,
  word_of,
  or_failed,
  chosen_or_run,
}
use Rattle.build_declared.specs.Chosen.{all_of, all_or_nothing}
use Rattle.build_declared.specs.Written.{bytes_in, AnyPath}
use Rattle.build_declared.specs.Ends.{End, end_of}
use Rattle.build_declared.specs.Pieces.{one_if, piece_if, pieces_among, then_pieces}
use Rattle.build_declared.proofs.Alones.{bound-end}
use Rattle.build_declared.proofs.BucketsGo.{
  Carry,
  carry-alike,
  EndsAlike,
  InStep,
  GoAlike,
  first_of,
  second_of,
}
use Rattle.build_declared.proofs.Looks.{looks-same}

module _ (tools : List ℕ → ToolInput → ToolAnswer) (id : RunId) (run : Run) (scope : Scope)
    (j k : Journal) (a : AlikeJournals (bytes_in run.files) AnyPath j k) where
  abbrev Ends : Result State Stopped → Result State Stopped → List Act → List Act → Type 0
  Ends = EndsAlike tools id run scope j k

  abbrev Goes : End (Result State Stopped) → End (Result State Stopped) → Type 0
  Goes = GoAlike tools id run scope j k

  -- two states, each with its files
  pub record Pairs (x y : State) (ps pt : List Act) : Type 0 where
    pub scope_same : x.scope ≡ y.scope
    pub carry : Carry tools id run scope j k x y ps pt

  place-same : (x y : State) (ps pt : List Act) → Pairs x y ps pt →
      context_in run x x.scope ≡ context_in run y y.scope
  place-same x y ps pt h =
      ap (λ l. item_context l run.instance.path x.scope)
      ((looks-same run.files AnyPath).paths x.journal y.journal
      (carry-alike tools id run scope j k a x y ps pt h.carry))
      ∙ ap (context_in run y) h.scope_same

  -- the state in which a bucket begins
  pub entered-pair : (bucket : Bucket) (s t : State) (ps pt : List Act) →
      Carry tools id run scope j k s t ps pt → Pairs (entered scope bucket s)
      (entered scope bucket t) ps pt
  entered-pair bucket s t ps pt c = record {
    scope_same = refl;
    carry =
        record {
          items = c.items;
          changes = c.changes;
          w_is = c.w_is;
          c_is = c.c_is;
          lacks =
              c.lacks;
        };
  }

  pub lists-same : (bucket : Bucket) (x y : State) (ps pt : List Act) → Pairs x y ps pt →
      lists_at run bucket x ≡ lists_at run bucket y
  lists-same bucket x y ps pt h =
      ap (λ p. lists_by (in_target p bucket) run.target.element
      (attribute_of (codes "Inputs") run.target.element)
      (attribute_of (codes "Outputs") run.target.element)) (place-same x y ps pt h)

  items-same : (bucket : Bucket) (x y : State) (ps pt : List Act) → Pairs x y ps pt →
      (written : Option (List ℕ)) → items_if run bucket x written ≡ items_if run bucket y written
  items-same bucket x y ps pt h None = refl
  items-same bucket x y ps pt h (Some written) =
      ap (λ p. returned_items p bucket run.target.element x.items written) (place-same x y ps pt h)
      ∙ ap (λ l. returned_items (context_in run y y.scope) bucket run.target.element l written)
      h.carry.items

  -- after the children: the items that are returned, and the word
  pub finish : (bucket : Bucket) (word other : Decision) (x y : State) (ps pt : List Act) →
      Pairs x y ps pt →
      Goes (record {
        value = or_failed (map_ok (with_decision word) (returned run bucket x));
        journal = x.journal;
        acts = ps;
      })
      (record {
        value = or_failed (map_ok (with_decision other) (returned run bucket y));
        journal = y.journal;
        acts = pt;
      })
  finish bucket word other x y ps pt h =
      subst (λ z. Goes (record {
        value = or_failed (map_ok (with_decision word)
            (returned run bucket x));
        journal = x.journal;
        acts = ps;
      })
      (record {
        value = or_failed (map_ok (with_decision other)
            (map_ok (λ items. with_items items y) (or_stop y z)));
        journal = y.journal;
        acts =
            pt;
      }))
      (items-same bucket x y ps pt h (returns_of run.target))
      (go (items_if run bucket x (returns_of run.target)))
    where
      go : (r : Result (List Item) EvalFault) → Goes (record {
        value =
            or_failed (map_ok (with_decision word) (map_ok (λ items. with_items items x)
            (or_stop x r)));
        journal = x.journal;
        acts = ps;
      })
          (record {
            value = or_failed (map_ok (with_decision other)
                (map_ok (λ items. with_items items y) (or_stop y r)));
            journal = y.journal;
            acts =
                pt;
          })
      go (Ok items) = record {
        ends = record {
          items = ap (λ l. l ++ items) h.carry.items;
          changes =
              h.carry.changes;
          w_is = h.carry.w_is;
          c_is = h.carry.c_is;
          lacks = h.carry.lacks;
        };
        w_step = refl;
        c_step = refl;
      }
      go (Err fault) = record { ends = (h.carry.changes, h.carry.lacks); w_step = tt; c_step = tt }

  -- a bucket whose lists have a fault, or that has nothing to do
  abbrev pub IsEmpty : Result (Option Lists) EvalFault → Type 0
  IsEmpty (Ok None) = ⊥
  IsEmpty (Ok (Some lists)) = all_or_nothing lists.inputs lists.outputs ≡ Nothing
  IsEmpty (Err fault) = Unit {0}

  none-chosen : (inputs outputs : List (List ℕ)) → all_or_nothing inputs outputs ≡ Nothing →
      (inputs ≡ []) ⊎ (outputs ≡ [])
  none-chosen [] outputs e = inl refl
  none-chosen (input ∷ inputs) [] e = inr refl
  none-chosen (input ∷ inputs) (output ∷ outputs) e = absurd (cc)

  pub nothing-chosen : (mode : Mode) (lists : Lists) (s : State) →
      all_or_nothing lists.inputs lists.outputs ≡ Nothing → choice_of mode run lists s ≡ Nothing
  nothing-chosen mode lists s e = go lists.inputs lists.outputs e
    where
      go : (inputs outputs : List (List ℕ)) → all_or_nothing inputs outputs ≡ Nothing →
          decision (view_of run s) inputs outputs (option_map (λ typed. typed.1) lists.items)
          mode ≡ Nothing
      go [] outputs e = refl
      go (input ∷ inputs) [] e = refl
      go (input ∷ inputs) (output ∷ outputs) e = absurd (cc)

  pub empty-goes : (mode : Mode) (bucket : Bucket) (s t : State) (ps pt : List Act) →
      Carry tools id run scope j k s t ps pt → IsEmpty
      (lists_at run bucket (entered scope bucket t)) →
      (E : End (Result State Stopped)) × (F : End (Result State Stopped))
      × (end_of tools id (first_of tools id run scope j k mode bucket s) s.journal ps ≡ Some E)
      × (end_of tools id (second_of tools id run scope j k bucket t) t.journal pt ≡ Some F)
      × Goes E F
  empty-goes mode bucket s t ps pt c empty =
      go (lists_at run bucket y) empty (lists-same bucket x y ps pt pair) refl
    where
      x : State
      x = entered scope bucket s

      y : State
      y = entered scope bucket t

      pair : Pairs (entered scope bucket s) (entered scope bucket t) ps pt
      pair = entered-pair bucket s t ps pt c

      go : (l : Result (Option Lists) EvalFault) → IsEmpty l →
          lists_at run bucket (entered scope bucket s) ≡ l →
          lists_at run bucket (entered scope bucket t) ≡ l →
          (E : End (Result State Stopped)) × (F : End (Result State Stopped))
          × (end_of tools id (first_of tools id run scope j k mode bucket s) s.journal ps ≡ Some E)
          × (end_of tools id (second_of tools id run scope j k bucket t) t.journal pt ≡ Some F)
          × Goes E F
      go (Ok None) m e f = absurd m
      go (Err fault) m e f =
          let E : End (Result State Stopped) = record {
            value =
                or_failed (Err (stop_at fault (entered scope bucket s)));
            journal = s.journal;
            acts = ps;
          } in
          let F : End (Result State Stopped) = record {
            value =
                or_failed (Err (stop_at fault (entered scope bucket t)));
            journal = t.journal;
            acts = pt;
          } in (
            E,
            F,
            ap (λ z. end_of tools id (followed_by (unless_stopped
                (or_stop (entered scope bucket s) z)
                (chosen_or_run (choice_of mode run) run bucket (entered scope bucket s)))
                (λ end. done (or_failed end))) s.journal ps) e,
            ap (λ z. end_of tools id (followed_by (unless_stopped
                (or_stop (entered scope bucket t) z)
                (chosen_or_run all_of run bucket (entered scope bucket t)))
                (λ end. done (or_failed end))) t.journal pt) f,
            record { ends = (c.changes, c.lacks); w_step = tt; c_step = tt },
          )
      go (Ok (Some lists)) m e f =
          let cw : choice_of mode run lists (entered scope bucket s) ≡ Nothing =
          nothing-chosen mode lists (entered scope bucket s) m in
          let E : End (Result State Stopped) = record {
            value =
                or_failed (map_ok (with_decision (word_of Nothing lists.items))
                (returned run bucket (entered scope bucket s)));
            journal = s.journal;
            acts = ps;
          } in
          let F : End (Result State Stopped) = record {
            value =
                or_failed (map_ok (with_decision (word_of Nothing lists.items))
                (returned run bucket (entered scope bucket t)));
            journal = t.journal;
            acts = pt;
          } in (
            E,
            F,
            ap (λ z. end_of tools id (followed_by (unless_stopped
                (or_stop (entered scope bucket s) z)
                (chosen_or_run (choice_of mode run) run bucket (entered scope bucket s)))
                (λ end. done (or_failed end))) s.journal ps) e
                ∙ ap (λ z. end_of tools id (followed_by (decided run bucket z lists.items
                (entered scope bucket s)) (λ end. done (or_failed end))) s.journal ps) cw,
            ap (λ z. end_of tools id (followed_by (unless_stopped
                (or_stop (entered scope bucket t) z)
                (chosen_or_run all_of run bucket (entered scope bucket t)))
                (λ end. done (or_failed end))) t.journal pt) f
                ∙ ap (λ z. end_of tools id (followed_by (decided run bucket z lists.items
                (entered scope bucket t)) (λ end. done (or_failed end))) t.journal pt) m,
            finish bucket (word_of Nothing lists.items) (word_of Nothing lists.items)
                (entered scope bucket s) (entered scope bucket t) ps pt
                (entered-pair bucket s t ps pt c),
          )

  -- ---- a run without a piece

  pub no-piece : (bucket : Bucket) (y : State) (before : List Act)
      (l : Result (Option Lists) EvalFault) → (l ≡ Ok None → ⊥) → piece_if bucket y before l ≡ [] →
      IsEmpty l
  no-piece bucket y before (Ok None) n e = n refl
  no-piece bucket y before (Err fault) n e = tt
  no-piece bucket y before (Ok (Some lists)) n e = go lists.inputs lists.outputs e
    where
      go : (inputs outputs : List (List ℕ)) → one_if (record {
        bucket = bucket;
        lists =
            lists;
        from = y;
        before = before;
      }) inputs outputs ≡ [] →
          all_or_nothing inputs outputs ≡ Nothing
      go [] outputs e = refl
      go (input ∷ inputs) [] e = refl
      go (input ∷ inputs) (output ∷ outputs) e = absurd (cc)

  append-none : {X : Type 0} (xs ys : List X) → xs ++ ys ≡ [] → (xs ≡ []) × (ys ≡ [])
  append-none [] ys e = (refl, e)
  append-none (x ∷ xs) ys e = absurd (cc)

  -- no bucket has lists that are absent, since the target has both Inputs and Outputs
  module _ (mode : Mode)
      (takes : (bucket : Bucket) (y : State) → lists_at run bucket y ≡ Ok None → ⊥) where
    pub none-goes : (buckets : List Bucket) (s t : State) (ps pt : List Act) →
        Carry tools id run scope j k s t ps pt → pieces_among tools id all_of run scope buckets t
        pt ≡ [] →
        (E : End (Result State Stopped)) × (F : End (Result State Stopped))
        × (end_of tools id (each_in_turn (first_of tools id run scope j k mode) buckets s) s.journal
        ps ≡ Some E)
        × (end_of tools id (each_in_turn (second_of tools id run scope j k) buckets t) t.journal pt
        ≡ Some F) × Goes E F
    none-goes [] s t ps pt c e = (
      record { value = Ok s; journal = s.journal; acts = ps },
      record { value = Ok t; journal = t.journal; acts = pt },
      refl,
      refl,
      record { ends = c; w_step = refl; c_step = refl },
    )
    none-goes (bucket ∷ buckets) s t ps pt c e =
        let here = piece_if bucket (entered scope bucket t) pt
        (lists_at run bucket (entered scope bucket t)) in
        let later = then_pieces (end_of tools id (second_of tools id run scope j k bucket t)
        t.journal pt) (pieces_among tools id all_of run scope buckets) in
        let both = append-none here later e in
        let x = empty-goes mode bucket s t ps pt c (no-piece bucket (entered scope bucket t) pt
        (lists_at run bucket (entered scope bucket t))
        (takes bucket (entered scope bucket t)) both.0) in
        let rest : then_pieces (Some x.1) (pieces_among tools id all_of run scope buckets) ≡ [] =
        sym (ap (λ z. then_pieces z (pieces_among tools id all_of run scope buckets)) x.3)
        ∙ both.1 in
        let y = go x.0.value x.1.value x.0.journal x.1.journal x.0.acts x.1.acts x.4.ends x.4.w_step
        x.4.c_step rest (none-goes buckets) in (
          y.0,
          y.1,
          bound-end tools id (first_of tools id run scope j k mode bucket s)
              (λ end. unless_stopped end
              (each_in_turn (first_of tools id run scope j k mode) buckets))
              s.journal ps x.0 x.2 ∙ y.2,
          bound-end tools id (second_of tools id run scope j k bucket t)
              (λ end. unless_stopped end (each_in_turn (second_of tools id run scope j k) buckets))
              t.journal pt x.1 x.3 ∙ y.3,
          y.4,
        )
      where
        go : (r q : Result State Stopped) (l m : Journal) (ps pt : List Act) → Ends r q ps pt →
            InStep tools id run scope j k r l → InStep tools id run scope j k q m →
            then_pieces (Some (record { value = q; journal = m; acts = pt }))
            (pieces_among tools id all_of run scope buckets) ≡ [] →
            ((s t : State) (ps pt : List Act) → Carry tools id run scope j k s t ps pt →
            pieces_among tools id all_of run scope buckets t pt ≡ [] →
            (E : End (Result State Stopped)) × (F : End (Result State Stopped))
            × (end_of tools id (each_in_turn (first_of tools id run scope j k mode) buckets s)
            s.journal ps ≡ Some E)
            × (end_of tools id (each_in_turn (second_of tools id run scope j k) buckets t)
            t.journal pt ≡ Some F) × Goes E F) →
            (E : End (Result State Stopped)) × (F : End (Result State Stopped))
            × (end_of tools id (unless_stopped r (each_in_turn
            (first_of tools id run scope j k mode) buckets)) l ps ≡ Some E)
            × (end_of tools id (unless_stopped q (each_in_turn
            (second_of tools id run scope j k) buckets)) m pt ≡ Some F) × Goes E F
        go (Ok s) (Ok t) l m ps pt c u v e ih =
            let x = ih s t ps pt c e in (
              x.0,
              x.1,
              subst (λ z. end_of tools id (each_in_turn
                  (first_of tools id run scope j k mode) buckets s) z ps ≡ Some x.0) u x.2,
              subst (λ z. end_of tools id (each_in_turn
                  (second_of tools id run scope j k) buckets t) z pt ≡ Some x.1) v x.3,
              x.4,
            )
        go (Ok s) (Err d) l m ps pt c u v e ih = absurd c
        go (Err d) (Ok t) l m ps pt c u v e ih = absurd c
        go (Err d) (Err f) l m ps pt c u v e ih = (
          record { value = Err d; journal = l; acts = ps },
          record { value = Err f; journal = m; acts = pt },
          refl,
          refl,
          record { ends = c; w_step = tt; c_step = tt },
        )
