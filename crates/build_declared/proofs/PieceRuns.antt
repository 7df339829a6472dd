-- A piece that runs whole in both worlds goes alike.
use Rattle.std.proofs.Common.{
  ◌≡◌,
  ℕ,
  ◌⊎◌,
  inl,
  inr,
  Bool,
  true,
  false,
  List,
  [],
  ◌∷◌,
  ◌++◌,
  Option,
  None,
  Some,
  refl,
  ap,
  sym,
  ◌∙◌,
  subst,
}
use Rattle.std.specs.Prelude.{Result, Ok, Err, unwrap_or}
use Rattle.std.specs.Option.{option_or}
use Rattle.std.specs.Str.{bytes_eq}
use Rattle.msb_values.specs.Acts.{act_path, act_bytes}
use Rattle.msb_values.specs.declared.mode.Mode.{Mode}
use Rattle.msb_values.specs.declared.act.Act.{Act}
use Rattle.msb_values.specs.declared.scope.Scope.{Scope}
use Rattle.msb_expand.specs.declared.lens.Bucket.{Bucket}
use Rattle.result_cache.specs.Lists.{this_or}
use Rattle.result_cache.specs.declared.run.RunId.{RunId}
use Rattle.result_cache.specs.Journal.{Journal}
use Rattle.build_incremental.specs.Alike.{seen, AlikeJournals}
use Rattle.build_incremental.specs.Alone.{last_bytes, LacksOnly}
use Rattle.build_incremental.specs.SideBySide.{HasNotActed}
use Rattle.build_incremental.proofs.Moves.{seen-append}
use Rattle.build_incremental.proofs.Numbered.{numbered, content-numbered}
use Rattle.build_incremental.proofs.Entries.{none-or-some, none-some}
use Rattle.task_trait.specs.declared.tools.ToolAnswer.{ToolAnswer}
use Rattle.task_trait.specs.declared.tools.ToolInput.{ToolInput}
use Rattle.target_incremental.specs.declared.decision.Choice.{Choice}
use Rattle.target_incremental.specs.declared.decision.Choice.TheVariants.{
  Run as RunAll,
  Skip,
  Nothing,
  Part,
}
use Rattle.target_texts.specs.Lists.{Lists}
use Rattle.target_body.specs.States.{Run, State, Stopped, faulted, failed, entered}
use Rattle.target_body.specs.Pieces.{lists_at, choice_of, decided}
use Rattle.build_declared.specs.Chosen.{all_or_nothing}
use Rattle.build_declared.specs.Written.{bytes_in, AnyPath}
use Rattle.build_declared.specs.Ends.{End, end_of}
use Rattle.build_declared.proofs.BucketsGo.{Carry, carry-alike, EndsAlike, InStep, GoAlike, IsFine}
use Rattle.build_declared.proofs.Cousins.{Cousin, CousinEnd, BothEnd, decided-both, journal_of}
use Rattle.build_declared.proofs.RunLists.{Fine, Said, piece_at, PieceGoes}

-- ---- acts in front of acts

pub last-append : (a b : List Act) (path : List ℕ) →
    last_bytes (a ++ b) path ≡ option_or (last_bytes a path) (last_bytes b path)
last-append [] b path = refl
last-append (act ∷ a) b path = go (bytes_eq (act_path act) path) (last-append a b path)
  where
    go : (t : Bool) → last_bytes (a ++ b) path ≡ option_or (last_bytes a path) (last_bytes b path) →
        this_or t (last_bytes (a ++ b) path) (act_bytes act)
        ≡ option_or (this_or t (last_bytes a path) (act_bytes act)) (last_bytes b path)
    go true ih = refl
    go false ih = ih

-- what a part of the run lacks, in front of what was lacking before: files is what the part began
-- with
pub record PartLacks (files : List ℕ → Option (List ℕ)) (from : Journal)
    (a b : List Act) : Type 0 where
  pub acted : (path : List ℕ) → (last_bytes a path ≡ None)
      ⊎ (last_bytes a path ≡ last_bytes b path)
  pub left_out : (path : List ℕ) (left : Option (List ℕ)) → last_bytes a path ≡ None →
      last_bytes b path ≡ Some left → seen files from path ≡ left

-- from is the journal with the earlier acts over the base
pub lacks-append : (files : List ℕ → Option (List ℕ)) (base from : Journal) (a b ps pt : List Act) →
    ((path : List ℕ) → seen files from path ≡ unwrap_or (last_bytes ps path)
    (seen files base path)) → LacksOnly files base ps pt → PartLacks files from a b →
    LacksOnly files base (a ++ ps) (b ++ pt)
lacks-append files base from a b ps pt is old new = record {
  acted = λ p. elim (none-or-some (last_bytes a p)) [
    | inl n ↦
        let w : last_bytes (a ++ ps) p ≡ last_bytes ps p =
        last-append a ps p ∙ ap (λ o. option_or o (last_bytes ps p)) n in
        elim (none-or-some (last_bytes b p)) [
          | inl m ↦
              let c : last_bytes (b ++ pt) p ≡ last_bytes pt p =
              last-append b pt p ∙ ap (λ o. option_or o (last_bytes pt p)) m in
              elim (old.acted p) [ inl e ↦ inl (w ∙ e) | inr e ↦ inr (w ∙ (e ∙ sym c)) ]
          | inr s ↦
              let c : last_bytes (b ++ pt) p ≡ Some s.0 =
              last-append b pt p ∙ ap (λ o. option_or o (last_bytes pt p)) s.1 in
              let here : unwrap_or (last_bytes ps p) (seen files base p) ≡ s.0 =
              sym (is p) ∙ new.left_out p s.0 n s.1 in
              elim (none-or-some (last_bytes ps p)) [
                | inl e ↦ inl (w ∙ e)
                | inr e ↦
                    let same : e.0 ≡ s.0 =
                    sym (ap (λ o. unwrap_or o (seen files base p)) e.1) ∙ here in
                    inr (w ∙ (e.1 ∙ (ap Some same ∙ sym c)))
              ]
        ]
    | inr s ↦ elim (new.acted p) [
      | inl n ↦ absurd (none-some (last_bytes a p) n s.1)
      | inr e ↦ inr (last-append a ps p ∙ (ap (λ o. option_or o (last_bytes ps p)) s.1
          ∙ sym (last-append b pt p ∙ ap (λ o. option_or o (last_bytes pt p)) (sym e ∙ s.1))))
    ]
  ];
  left_out = λ p left n s.
      let split : option_or (last_bytes a p) (last_bytes ps p) ≡ None =
      sym (last-append a ps p) ∙ n in
      let na = first-none (last_bytes a p) (last_bytes ps p) split in
      let np = second-none (last_bytes a p) (last_bytes ps p) split in
      let s' : option_or (last_bytes b p) (last_bytes pt p) ≡ Some left =
      sym (last-append b pt p) ∙ s in
      elim (none-or-some (last_bytes b p)) [
        | inl m ↦ old.left_out p left np (sym (ap (λ o. option_or o (last_bytes pt p)) m) ∙ s')
        | inr x ↦
            let same : Some x.0 ≡ Some left = sym (ap (λ o. option_or o (last_bytes pt p)) x.1)
            ∙ s' in
            sym (ap (λ o. unwrap_or o (seen files base p)) np)
            ∙ (sym (is p) ∙ new.left_out p left na (x.1 ∙ same))
      ];
}
  where
    first-none : (x y : Option (Option (List ℕ))) → option_or x y ≡ None → x ≡ None
    first-none None y h = refl
    first-none (Some z) y h = absurd (cc)

    second-none : (x y : Option (Option (List ℕ))) → option_or x y ≡ None → y ≡ None
    second-none None y h = h
    second-none (Some z) y h = absurd (cc)

-- the same acts in front
pub same-lacks : (files : List ℕ → Option (List ℕ)) (from : Journal) (a : List Act) →
    PartLacks files from a a
same-lacks files from a = record {
  acted = λ p. inr refl;
  left_out =
      λ p left n s. absurd (none-some (last_bytes a p) n s);
}

module _ (tools : List ℕ → ToolInput → ToolAnswer) (id : RunId) (run : Run) (scope : Scope)
    (j k : Journal) (a : AlikeJournals (bytes_in run.files) AnyPath j k) (fw : HasNotActed id j)
    (fc : HasNotActed id k) where
  -- what a state sees over what the run began with
  pub seen-over : (s t : State) (ps pt : List Act) → Carry tools id run scope j k s t ps pt →
      (path : List ℕ) → seen (bytes_in run.files) s.journal path ≡ unwrap_or (last_bytes ps path)
      (seen (bytes_in run.files) j path)
  seen-over s t ps pt c path =
      ap (λ l. seen (bytes_in run.files) l path) c.w_is
      ∙ (seen-append (bytes_in run.files) AnyPath (numbered id ps) j path
      ∙ ap (λ o. unwrap_or o (seen (bytes_in run.files) j path)) (content-numbered id ps path))

  pub entered-cousin : (bucket : Bucket) (s t : State) (ps pt : List Act) →
      Carry tools id run scope j k s t ps pt → Cousin tools id run j k fw fc
      (entered scope bucket s) (entered scope bucket t) ps pt
  entered-cousin bucket s t ps pt c =
      record {
        scope = refl;
        task_scope = refl;
        unseen = refl;
        items = c.items;
        changes =
            c.changes;
        w_is = c.w_is;
        c_is = c.c_is;
        alike =
            carry-alike tools id run scope j k a s t ps pt c;
      }

  -- what both have done since is the same
  both-goes : (s t : State) (ps pt : List Act) → Carry tools id run scope j k s t ps pt →
      (E F : End (Result State Stopped)) → BothEnd tools id run j k fw fc ps pt E F →
      GoAlike tools id run scope j k E F
  both-goes s t ps pt c E F b = record {
    ends = ends E.value F.value b.cousins;
    w_step =
        step E.value b.w_step;
    c_step = step F.value b.c_step;
  }
    where
      lacks : LacksOnly (bytes_in run.files) j E.acts F.acts
      lacks = subst (λ x. LacksOnly (bytes_in run.files) j x F.acts) (sym b.w_acts)
          (subst (LacksOnly (bytes_in run.files) j (b.new ++ ps)) (sym b.c_acts)
          (lacks-append (bytes_in run.files) j s.journal b.new b.new ps pt
          (seen-over s t ps pt c) c.lacks (same-lacks (bytes_in run.files) s.journal b.new)))

      step : (r : Result State Stopped) {l : Journal} → journal_of tools id run j k fw fc r ≡ l →
          InStep tools id run scope j k r l
      step (Ok x) h = h
      step (Err d) h = tt

      ends : (r q : Result State Stopped) → CousinEnd tools id run j k fw fc r q E.acts F.acts →
          EndsAlike tools id run scope j k r q E.acts F.acts
      ends (Ok x) (Ok y) h = record {
        items = h.items;
        changes = h.changes;
        w_is = h.w_is;
        c_is =
            h.c_is;
        lacks = lacks;
      }
      ends (Ok x) (Err (faulted e)) h = absurd h
      ends (Ok x) (Err (failed e)) h = absurd h
      ends (Err (faulted d)) (Ok y) h = absurd h
      ends (Err (failed d)) (Ok y) h = absurd h
      ends (Err (faulted d)) (Err (faulted e)) h = (h.changes, lacks)
      ends (Err (failed d)) (Err (failed e)) h = (h.changes, lacks)
      ends (Err (faulted d)) (Err (failed e)) h = absurd h
      ends (Err (failed d)) (Err (faulted e)) h = absurd h

  -- a piece that is done in one way in both
  pub same-goes : (bucket : Bucket) (lists : Lists) (choice : Choice) (s t : State)
      (ps pt : List Act) → Carry tools id run scope j k s t ps pt →
      (E F : End (Result State Stopped)) →
      end_of tools id (decided run bucket choice lists.items (entered scope bucket s)) s.journal ps
      ≡ Some E →
      end_of tools id (decided run bucket choice lists.items (entered scope bucket t)) t.journal pt
      ≡ Some F →
      IsFine tools id run scope j k (Fine tools id run scope j k a) E.value →
      IsFine tools id run scope j k (Fine tools id run scope j k a) F.value →
      BothEnd tools id run j k fw fc ps pt E F
  same-goes bucket lists choice s t ps pt c E F he hf fe ff =
      decided-both tools id run j k fw fc bucket choice lists.items (entered scope bucket s)
      (entered scope bucket t) ps pt (entered-cousin bucket s t ps pt c) E F he hf fe ff

  -- still to be shown: a piece that is skipped, or runs in part
  abbrev pub GoesBy : Mode → (Choice → Type 0) → Type 0
  GoesBy mode C = (bucket : Bucket) (lists : Lists) (s t : State) (ps pt : List Act) →
      Carry tools id run scope j k s t ps pt → lists_at run bucket (entered scope bucket s)
      ≡ Ok (Some lists) → lists_at run bucket (entered scope bucket t)
      ≡ Ok (Some lists) →
      all_or_nothing lists.inputs lists.outputs ≡ RunAll → (choice : Choice) →
      choice_of mode run lists (entered scope bucket s) ≡ choice → C choice →
      (E F : End (Result State Stopped)) →
      end_of tools id (decided run bucket choice lists.items (entered scope bucket s)) s.journal ps
      ≡ Some E →
      end_of tools id (decided run bucket RunAll lists.items (entered scope bucket t)) t.journal pt
      ≡ Some F →
      IsFine tools id run scope j k (Fine tools id run scope j k a) E.value →
      IsFine tools id run scope j k (Fine tools id run scope j k a) F.value →
      Said tools id run scope j k a (piece_at tools id run scope j k a bucket lists t pt) →
      GoAlike tools id run scope j k E F

  abbrev pub IsSkip : Choice → Type 0
  IsSkip Skip = Unit {0}
  IsSkip choice = ⊥

  abbrev pub IsPart : Choice → Type 0
  IsPart (Part old) = Unit {0}
  IsPart choice = ⊥

  abbrev pub IsNothing : Choice → Type 0
  IsNothing Nothing = Unit {0}
  IsNothing choice = ⊥

  pub piece-goes : (mode : Mode) → GoesBy mode IsSkip → GoesBy mode IsPart →
      GoesBy mode IsNothing → PieceGoes tools id run scope j k a mode
  piece-goes mode skips parts nothings bucket lists s t ps pt c lw lc all E F he hf fe ff said =
      go (choice_of mode run lists (entered scope bucket s)) refl he
    where
      go : (choice : Choice) → choice_of mode run lists (entered scope bucket s) ≡ choice →
          end_of tools id (decided run bucket choice lists.items (entered scope bucket s)) s.journal
          ps ≡ Some E → GoAlike tools id run scope j k E F
      go RunAll e h = both-goes s t ps pt c E F (same-goes bucket lists RunAll s t ps pt c E F h hf
          fe ff)
      go Skip e h = skips bucket lists s t ps pt c lw lc all Skip e tt E F h hf fe ff said
      go Nothing e h = nothings bucket lists s t ps pt c lw lc all Nothing e tt E F h hf fe ff said
      go (Part old) e h = parts bucket lists s t ps pt c lw lc all
          (Part old) e tt E F h hf fe ff said
