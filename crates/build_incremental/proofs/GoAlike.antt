-- Where two worlds go side by side, what the second gives the first gives, and leaves journals that
-- are alike.
use Rattle.std.proofs.Common.{
  ◌≡◌,
  ℕ,
  ◌≤◌,
  ◌||◌,
  arith,
  Bool,
  false,
  ◌⊎◌,
  inl,
  List,
  [],
  ◌∷◌,
  ◌++◌,
  length,
  Option,
  None,
  Some,
  refl,
  ap,
  sym,
  ◌∙◌,
  subst,
}
use Rattle.msb_values.specs.Acts.{act_path}
use Rattle.msb_values.specs.declared.act.Act.{Act}
use Rattle.result_cache.specs.declared.run.RunId.{RunId}
use Rattle.result_cache.specs.declared.request.RequestKey.{RequestKey}
use Rattle.result_cache.specs.declared.request.RequestResult.{RequestResult}
use Rattle.result_cache.specs.declared.record.Record.{Record}
use Rattle.result_cache.specs.declared.record.Segment.{Segment}
use Rattle.result_cache.specs.declared.record.Segment.TheVariants.{File}
use Rattle.result_cache.specs.Lists.{In}
use Rattle.result_cache.specs.Journal.{Journal, acted, ended, act_of, has, add, merge, record_of}
use Rattle.result_cache.proofs.JournalEntries.{none-had, had-none, add_new}
use Rattle.build_meaning.proofs.MeaningDerived.{in-left, in-right}
use Rattle.build_meaning.specs.World.{World}
use Rattle.build_meaning.specs.Walk.{
  Walk,
  gives,
  wants,
  Body,
  makes,
  does,
  uses,
  calls,
  Outcome,
}
use Rattle.build_meaning.specs.SoFar.{
  ToolUse,
  SoFar,
  nothing_yet,
  with_act,
  with_tool,
  recorded,
  result_of,
  called,
}
use Rattle.build_meaning.specs.Derived.{
  said,
  OfWalk,
  over,
  used,
  made,
  OfBody,
  ended_so,
  acted_one,
  used_tool,
  called_all,
  OfCalls,
  no_calls,
  one_call,
  EachOfMeaning,
}
use Rattle.build_incremental.specs.Joins.{IsOfOneRun, Anyhow}
use Rattle.build_incremental.specs.Alike.{AlikeOutcomes, AlikeRecords, AlikeJournals}
use Rattle.build_incremental.specs.Alone.{alone, segments_of, LacksOnly}
use Rattle.build_incremental.specs.SideBySide.{
  AlikeBodies,
  AlikeRuns,
  step_by_step,
  in_part,
  AlikeWalks,
  SideBySide,
  HasOneRecord,
}
use Rattle.build_incremental.proofs.Entries.{has-append, HasEnded}
use Rattle.build_incremental.proofs.Numbered.{
  numbered,
  has-above,
  kept_whole,
  acts-called,
  segments-length,
}
use Rattle.build_incremental.proofs.Pairs.{found-first, found-none}
use Rattle.build_incremental.proofs.Moves.{
  Known,
  known-over,
  known-nothing,
  known-deeper,
  none-of,
  Went,
  stays,
  known-w,
  known-c,
  then-went,
  join-went,
  Midway,
  IsFree,
}
use Rattle.build_incremental.proofs.OpenRuns.{
  went-closed,
  went-in-part,
  acted-w,
  acted-c,
  acts-on,
  calls-on,
}

-- ---- a body that calls nothing

module _ {P I A : Type 0} (w : World P I A) (Q : P → RunId → Journal → Record → Type 0)
    (J : Journal → Journal → Journal → Type 0) (K : RequestKey → Type 0) where
  next-journal : (r : RunId) (j0 : Journal) → ((n : ℕ) → has (act_of r n) j0 ≡ false) →
      (acts : List Act) (act : Act) (n : ℕ) → n ≡ length acts →
      add (numbered r acts ++ j0) (acted r n act) ≡ numbered r (act ∷ acts) ++ j0
  next-journal r j0 free acts act n e =
      subst (λ k. add (numbered r acts ++ j0) (acted r k act) ≡ numbered r (act ∷ acts) ++ j0)
      (sym e)
      (add_new (numbered r acts ++ j0) (acted r (length acts) act)
      (has-append (act_of r (length acts)) (numbered r acts) j0
      ∙ neither (has (act_of r (length acts)) (numbered r acts))
      (has (act_of r (length acts)) j0) (has-above r acts (length acts) (self (length acts)))
      (free (length acts))))
    where
      self : (n : ℕ) → n ≤ n
      self n = omega arith

      neither : (a b : Bool) → a ≡ false → b ≡ false → (a || b) ≡ false
      neither a b p q = cc

  -- it is made
  pub alone-made : (path : List RunId) (r : RunId) (j0 : Journal) →
      ((n : ℕ) → has (act_of r n) j0 ≡ false) →
      (b : Body I A) (before : List Act) (o : Outcome) (acts : List Act) →
      alone w.tools r b (numbered r before ++ j0) before ≡ Some (o, acts) →
      (so_far : SoFar I) → so_far.segments ≡ segments_of before →
      (tools : List (ToolUse I)) × OfBody w (said Q J K) path r (numbered r before ++ j0) so_far b
      (recorded o (segments_of acts)) tools (numbered r acts ++ j0)
  alone-made path r j0 free (makes outcome) before o acts h so_far e =
      let one : Outcome × List Act = (outcome, before) in
      let other : Outcome × List Act = (o, acts) in
      let both : one ≡ other = cc in
      let po : outcome ≡ o = ap (λ z. z.0) both in
      let pp : before ≡ acts = ap (λ z. z.1) both in (
        so_far.tools,
        subst (λ z. OfBody w (said Q J K) path r (numbered r before ++ j0) so_far
            (makes outcome) (recorded o (segments_of z)) so_far.tools (numbered r z ++ j0)) pp
            (subst (λ z. OfBody w (said Q J K) path r (numbered r before ++ j0) so_far
            (makes outcome) (recorded z (segments_of before)) so_far.tools
            (numbered r before ++ j0)) po
            (subst (λ z. OfBody w (said Q J K) path r (numbered r before ++ j0) so_far
            (makes outcome) (recorded outcome z) so_far.tools (numbered r before ++ j0)) e
            ended_so)),
      )
  alone-made path r j0 free (does act go) before o acts h so_far e =
      let j : Journal = numbered r before ++ j0 in
      let long : length so_far.segments ≡ length before = ap length e ∙ segments-length before in
      let next : add j (acted r (length before) act) ≡ numbered r (act ∷ before) ++ j0 =
      next-journal r j0 free before act (length before) refl in
      let next' : add j (acted r (length so_far.segments) act) ≡ numbered r (act ∷ before) ++ j0 =
      next-journal r j0 free before act (length so_far.segments) long in
      let x = alone-made path r j0 free (go (numbered r (act ∷ before) ++ j0))
      (act ∷ before) o acts (subst (λ z. alone w.tools r (go z) z (act ∷ before) ≡ Some (
        o,
        acts,
      )) next h) (with_act so_far act) (ap (λ s. s ++ File act ∷ []) e) in (
        x.0,
        acted_one (subst (λ z. OfBody w (said Q J K) path r z (with_act so_far act) (go z)
            (recorded o (segments_of acts)) x.0 (numbered r acts ++ j0)) (sym next') x.1),
      )
  alone-made path r j0 free (uses name input go) before o acts h so_far e =
      let x = alone-made path r j0 free (go (w.tools name input)) before o acts h
      (with_tool so_far name input) e in (x.0, used_tool x.1)
  alone-made path r j0 free (calls key keys go) before o acts h so_far e = absurd (cc)

  -- what is made of it
  pub alone-told : {path : List RunId} {r : RunId} {j i : Journal} {so_far : SoFar I} {b : Body I A}
      {m : Record} {tools : List (ToolUse I)} → OfBody w (said Q J K) path r j so_far b m tools i →
      (j0 : Journal) → ((n : ℕ) → has (act_of r n) j0 ≡ false) → (before : List Act) →
      j ≡ numbered r before ++ j0 → (o : Outcome) (acts : List Act) →
      alone w.tools r b j before ≡ Some (o, acts) → so_far.segments ≡ segments_of before →
      (m ≡ recorded o (segments_of acts)) × (i ≡ numbered r acts ++ j0)
  alone-told (ended_so {r = r} {so_far = so_far} {outcome =
      outcome}) j0 free before at o acts h e =
      let one : Outcome × List Act = (outcome, before) in
      let other : Outcome × List Act = (o, acts) in
      let both : one ≡ other = cc in
      let po : outcome ≡ o = ap (λ z. z.0) both in
      let pp : before ≡ acts = ap (λ z. z.1) both in (
        ap (recorded outcome) e ∙ (ap (λ z. recorded z (segments_of before)) po
            ∙ ap (λ z. recorded o (segments_of z)) pp),
        at ∙ ap (λ z. numbered r z ++ j0) pp,
      )
  alone-told (acted_one {r = r} {j = j} {so_far = so_far} {act = act} {go =
      go} rest) j0 free before at o acts h e =
      let long : length so_far.segments ≡ length before = ap length e ∙ segments-length before in
      let next : add j (acted r (length so_far.segments) act) ≡ numbered r (act ∷ before) ++ j0 =
      ap (λ z. add z (acted r (length so_far.segments) act)) at
      ∙ next-journal r j0 free before act (length so_far.segments) long in
      alone-told rest j0 free (act ∷ before) next o acts
      (subst (λ n. alone w.tools r (go (add j (acted r n act))) (add j (acted r n act))
      (act ∷ before) ≡ Some (o, acts)) (sym long) h) (ap (λ s. s ++ File act ∷ []) e)
  alone-told (used_tool rest) j0 free before at o acts h e =
      alone-told rest j0 free before at o acts h e
  alone-told (called_all t asked rest) j0 free before at o acts h e = absurd (cc)

  -- a record has what was done so far
  pub has-so-far : {path : List RunId} {r : RunId} {j i : Journal} {so_far : SoFar I} {b : Body I A}
      {m : Record} {tools : List (ToolUse I)} → OfBody w (said Q J K) path r j so_far b m tools i →
      (s : Segment) → In s so_far.segments → In s m.segments
  has-so-far ended_so s u = u
  has-so-far (acted_one {so_far = so_far} {act = act} rest) s u =
      has-so-far rest s (in-left s so_far.segments (File act ∷ []) u)
  has-so-far (used_tool rest) s u = has-so-far rest s u
  has-so-far (called_all {so_far = so_far} {key = key} {keys = keys} {results =
      results} t asked rest) s u = has-so-far rest s
      (in-left s so_far.segments (called (key ∷ keys) results) u)

-- ---- side by side

module _ {P I A : Type 0} (files : List ℕ → Option (List ℕ)) (W : List ℕ → Type 0)
    (w c : World P I A) (Q' Q : P → RunId → Journal → Record → Type 0) (K : RequestKey →
    Type 0) (one : HasOneRecord Q) (side : SideBySide files W Q' Q w c) where
  -- the second world makes the run with this record
  abbrev pub MadeSo : RunId → Record → Type 0
  MadeSo r m = (p : P) × (k : Journal) × Q p r k m

  made-one : (r : RunId) (m n : Record) → MadeSo r m → MadeSo r n → m ≡ n
  made-one r m n a b = one a.0 b.0 r a.1 b.1 m n a.2 b.2

  abbrev Moved : List RunId → Journal → Journal → Journal → Journal → Type 0
  Moved path j k i l = Went files W MadeSo path j k i l

  abbrev Alike : Journal → Journal → Type 0
  Alike j k = AlikeJournals files W j k

  abbrev pub WalkGoes : List RunId → Journal → Journal → List RunId → Walk P I A → RequestResult →
      Journal → Type 0
  WalkGoes path j k runs x res l = (i : Journal) × OfWalk w (said Q' Anyhow K) path j runs x res i
      × Moved path j k i l

  abbrev CallsGo : List RunId → Journal → Journal → Journal → List RequestKey → List RequestResult →
      Journal → Type 0
  CallsGo path j k a keys results l = (i : Journal)
      × OfCalls w (said Q' Anyhow K) path j a keys results i × Moved path j k i l

  -- the first one's body, up to the run's end
  abbrev RunGoes : P → List RunId → RunId → Journal → Journal → Body I A → Record → Journal → Type 0
  RunGoes p path r j k b m l =
      (first : Record) × (tools : List (ToolUse I)) × (i : Journal)
      × OfBody w (said Q' Anyhow K) (r ∷ path) r j nothing_yet b first tools i × Q' p r j first
      × AlikeRecords first m × Moved path j k (add i (ended r first)) (add l (ended r m))

  abbrev StepsGo : RunId → List RunId → Journal → Journal → Journal → SoFar I → Body I A → Record →
      List (ToolUse I) → Journal → Type 0
  StepsGo r path j k i so_far b m tools l =
      (last : Journal) × OfBody w (said Q' Anyhow K) (r ∷ path) r i so_far b m tools last
      × Midway files W MadeSo r path m.segments j k last l

  part-goes : (p : P) (path : List RunId) (r : RunId) (j k : Journal) (b y : Body I A) (m : Record)
      (tools : List (ToolUse I)) (l : Journal) → OfBody c (said Q IsOfOneRun K) (r
      ∷ path) r k nothing_yet y m tools l →
      IsFree files W MadeSo r path j → IsFree files W MadeSo r path k → ¬ In r path → MadeSo r m →
      Alike j k → (o q : Outcome) (acts wholes : List Act) →
      alone c.tools r b j [] ≡ Some (o, acts) → alone c.tools r y k [] ≡ Some (q, wholes) →
      AlikeOutcomes o q → LacksOnly files j acts wholes →
      ((act : Act) → In act acts → W (act_path act)) →
      Q' p r j (recorded o (segments_of acts)) → RunGoes p path r j k b m l
  part-goes p path r j k b y m tools l d fw fc out is-made base o q acts wholes hw hc alike lacks
      may so =
      let u = alone-made w Q' Anyhow K (r ∷ path) r j fw.acts b [] o acts
      (subst (λ t. alone t r b j [] ≡ Some (o, acts)) (sym side.tools) hw) nothing_yet refl in
      let v = alone-told c Q IsOfOneRun K d k fc.acts [] refl q wholes hc refl in
      let seg : m.segments ≡ segments_of wholes = ap (λ (x : Record). x.segments) v.0 in
      let recs : AlikeRecords (recorded o (segments_of acts)) m =
      record {
        ok = alike.ok ∙ sym (ap (λ (x : Record). x.ok) v.0);
        items =
            alike.items ∙ sym (ap (λ (x : Record). x.items) v.0);
        changes =
            alike.changes ∙ sym (ap (λ (x : Record). x.changes) v.0);
      } in (
        recorded o (segments_of acts),
        u.0,
        numbered r acts ++ j,
        u.1,
        so,
        recs,
        subst (λ z. Moved path j k
            (add (numbered r acts ++ j) (ended r (recorded o (segments_of acts))))
            (add z (ended r m))) (sym v.1)
            (went-in-part files W MadeSo r path (recorded o (segments_of acts)) m acts wholes j k
            seg fw fc out is-made recs base lacks may),
      )

  run-goes : (p : P) {path : List RunId} {r : RunId} {k : Journal} {y : Body I A} {m : Record}
      {tools : List (ToolUse I)} {l : Journal} → OfBody c (said Q IsOfOneRun K) (r
      ∷ path) r k nothing_yet y m tools l →
      (b : Body I A) (j : Journal) → IsFree files W MadeSo r path j →
      IsFree files W MadeSo r path k → ¬ In r path → MadeSo r m → Alike j k →
      (AlikeBodies files W b y → Midway files W MadeSo r path [] j k j k →
      ((act : Act) → In (File act) m.segments → W (act_path act)) →
      StepsGo r path j k j nothing_yet b m tools l) →
      AlikeRuns files W c.tools r j k b y m (Q' p r j) → RunGoes p path r j k b m l
  run-goes p {path} {r} {k} {y} {m} {tools} {l} d b j fw fc out is-made a steps
      (in_part o q acts wholes hw hc alike lacks may so) =
      part-goes p path r j k b y m tools l d fw fc out is-made a o q acts wholes hw hc alike lacks
      may so
  run-goes p {path} {r} {k} {y} {m} {tools} {l} d b j fw fc out is-made a steps
      (step_by_step alike may so) =
      let start : Midway files W MadeSo r path [] j k j k = record {
        N = [];
        L = [];
        w_is = refl;
        c_is = refl;
        pair = record {
          once_w = tt;
          once_c = tt;
          same_ends = λ s. tt;
          by_w = λ s n act u. absurd u;
          by_c = λ s n act u. absurd u;
          made = λ s x e. absurd (cc);
          own_c = λ s x e. absurd (cc);
          own_w = λ s x e. absurd (cc);
        };
        new_w = λ s h. absurd (cc);
        new_c = λ s h. absurd (cc);
        outside = λ s u. refl;
        mine_w = refl;
        mine_c = refl;
        alike = a;
      } in
      let x = steps alike start may in
      let mid = x.2 in
      let recs : AlikeRecords m m = record { ok = refl; items = refl; changes = refl } in (
        m,
        tools,
        x.0,
        x.1,
        so,
        recs,
        went-closed files W MadeSo r path m m mid.pair mid.w_is mid.c_is mid.new_w mid.new_c fw fc
            mid.outside out mid.mine_c (kept_whole mid.mine_w) is-made recs a mid.alike,
      )

  midway-known : (r : RunId) (path : List RunId) (segments : List Segment) (i j N : Journal) →
      i ≡ N ++ j → ((s : RunId) (n : ℕ) (act : Act) → In (acted s n act) N →
      HasEnded s N ⊎ (r ≡ s)) → IsFree files W MadeSo r path j → Known (r ∷ path) i
  midway-known r path segments i j N e by f =
      subst (Known (r ∷ path)) (sym e) (known-over (r ∷ path)
      (λ s. r ≡ s) N j (λ s p. inl p) by (known-deeper r path j f.known))

  mutual
    pub walk-goes : {path : List RunId} {k : Journal} {runs : List RunId} {y : Walk P I A}
        {res : RequestResult} {l : Journal} → OfWalk c (said Q IsOfOneRun K) path k runs y res l →
        (x : Walk P I A) (j : Journal) → AlikeWalks files W Q' Q c.tools x y j k → Known path j →
        Known path k → Alike j k → WalkGoes path j k runs x res l
    walk-goes (over {path = path} {j = k} {runs = runs} {reply = reply})
        (gives other) j h kw kc a = (
          j,
          subst (λ z. OfWalk w (said Q' Anyhow K) path j runs (gives other)
              (result_of z runs) j) h over,
          stays files W MadeSo path j k a,
        )
    walk-goes over (wants p r b go) j h kw kc a = absurd h
    walk-goes (used m e rest) (gives other) j h kw kc a = absurd h
    walk-goes (used {path = path} {j = k} {k = l} {runs = runs} {res = res} {p = q} {r = s}
        {b = y} {go = to} m e rest) (wants p r b go) j h kw kc a =
        let f = found-first (record_of j s) (record_of k s) (a.records s) m e in
        let x = walk-goes rest (go f.0 j) j (h.2 f.0 m j k f.2 a) kw kc a in (
          x.0,
          subst (λ z. OfWalk w (said Q' Anyhow K) path j runs (wants p z b go) res x.0) (sym h.0)
              (used f.0 f.1 x.1),
          x.2,
        )
    walk-goes (made n f d q rest) (gives other) j h kw kc a = absurd h
    walk-goes (made {path = path} {j = k} {i = i} {k = l} {runs = runs} {res = res} {p = q0}
        {r = s} {b = y} {go = to} {m = m} {tools = tools} out new d q rest)
        (wants p r b go) j h kw kc a =
        let none-c : record_of k s ≡ None = none-had k s new in
        let none-w : record_of j s ≡ None = found-none (record_of j s) (record_of k s)
        (a.records s) none-c in
        let fw : IsFree files W MadeSo s path j = record {
          known = kw;
          acts =
              none-of path j s kw out none-w;
          ends = none-w;
        } in
        let fc : IsFree files W MadeSo s path k = record {
          known = kc;
          acts =
              none-of path k s kc out none-c;
          ends = none-c;
        } in
        let u : RunGoes p path s j k b m i = run-goes p d b j fw fc out (
          q0,
          k,
          q,
        ) a (λ alike start may. steps-go d b j j k fw fc a alike start may)
        (h.1 m q fw.acts fc.acts) in
        let moved = u.6 in
        let x = walk-goes rest (go u.0 (add u.2 (ended s u.0))) (add u.2 (ended s u.0))
        (h.2 u.0 m (add u.2 (ended s u.0)) (add i (ended s m)) u.5 moved.alike)
        (known-w files W MadeSo moved kw) (known-c files W MadeSo moved kc) moved.alike in (
          x.0,
          subst (λ z. OfWalk w (said Q' Anyhow K) path j runs (wants p z b go) res x.0) (sym h.0)
              (made out (had-none j s none-w) u.3 u.4 x.1),
          then-went files W MadeSo moved x.2,
        )

    steps-go : {path : List RunId} {r : RunId} {l : Journal} {so_far : SoFar I} {y : Body I A}
        {m : Record} {tools : List (ToolUse I)} {end : Journal} →
        OfBody c (said Q IsOfOneRun K) (r ∷ path) r l so_far y m tools end →
        (b : Body I A) (i j k : Journal) → IsFree files W MadeSo r path j →
        IsFree files W MadeSo r path k → Alike j k → AlikeBodies files W b y →
        Midway files W MadeSo r path so_far.segments j k i l →
        ((act : Act) → In (File act) m.segments → W (act_path act)) →
        StepsGo r path j k i so_far b m tools end
    steps-go {path} {r} (ended_so {so_far = so_far} {outcome = outcome})
        (makes o) i j k fw fc a alike mid may = (
          i,
          subst (λ z. OfBody w (said Q' Anyhow K) (r ∷ path) r i so_far (makes o)
              (recorded z so_far.segments) so_far.tools i) alike ended_so,
          mid,
        )
    steps-go ended_so (does act go) i j k fw fc a alike mid may = absurd alike
    steps-go ended_so (uses name input go) i j k fw fc a alike mid may = absurd alike
    steps-go ended_so (calls key keys go) i j k fw fc a alike mid may = absurd alike
    steps-go {path} {r} {l} {m = m} {tools = tools}
        (acted_one {so_far = so_far} {act = act} {go = to} rest)
        (does act' go) i j k fw fc a alike mid may =
        let wi : add i (acted r (length so_far.segments) act) ≡ acted r (length so_far.segments) act
        ∷ i = acted-w files W MadeSo r path so_far.segments fw fc a mid act in
        let ci : add l (acted r (length so_far.segments) act) ≡ acted r (length so_far.segments) act
        ∷ l = acted-c files W MadeSo r path so_far.segments fw fc a mid act in
        let in_record : In (File act) m.segments =
        has-so-far c Q IsOfOneRun K rest (File act)
        (in-right (File act) so_far.segments (File act ∷ []) (inl refl)) in
        let on = acts-on files W MadeSo r path so_far.segments fw fc a mid act
        (may act in_record) in
        let mid' : Midway files W MadeSo r path (so_far.segments ++ File act ∷ []) j k
        (add i (acted r (length so_far.segments) act))
        (add l (acted r (length so_far.segments) act)) =
        subst (λ z. Midway files W MadeSo r path (so_far.segments ++ File act ∷ []) j k z
        (add l (acted r (length so_far.segments) act))) (sym wi)
        (subst (λ z. Midway files W MadeSo r path (so_far.segments ++ File act ∷ []) j k
        (acted r (length so_far.segments) act ∷ i) z) (sym ci) on) in
        let x = steps-go rest (go (add i (acted r (length so_far.segments) act)))
        (add i (acted r (length so_far.segments) act)) j k fw fc a
        (alike.1 (add i (acted r (length so_far.segments) act))
        (add l (acted r (length so_far.segments) act)) mid'.alike) mid' may in (
          x.0,
          subst (λ z. OfBody w (said Q' Anyhow K) (r ∷ path) r i so_far (does z go) m tools x.0)
              (sym alike.0) (acted_one x.1),
          x.2,
        )
    steps-go (acted_one rest) (makes o) i j k fw fc a alike mid may = absurd alike
    steps-go (acted_one rest) (uses name input go) i j k fw fc a alike mid may = absurd alike
    steps-go (acted_one rest) (calls key keys go) i j k fw fc a alike mid may = absurd alike
    steps-go {path} {r} {l} {m = m} {tools = tools}
        (used_tool {so_far = so_far} {name = name} {input = input} {go = to} rest)
        (uses name' input' go) i j k fw fc a alike mid may =
        let x = steps-go rest (go (c.tools name input)) i j k fw fc a
        (alike.2 (c.tools name input)) mid may in
        let same : w.tools name input ≡ c.tools name input = ap (λ t. t name input) side.tools in
        let step : OfBody w (said Q' Anyhow K) (r ∷ path) r i so_far (uses name input go) m tools
        x.0 = used_tool (subst (λ z. OfBody w (said Q' Anyhow K) (r ∷ path) r i
        (with_tool so_far name input) (go z) m tools x.0) (sym same) x.1) in (
          x.0,
          subst (λ z. OfBody w (said Q' Anyhow K) (r ∷ path) r i so_far
              (uses z input' go) m tools x.0) (sym alike.0)
              (subst (λ z. OfBody w (said Q' Anyhow K) (r ∷ path) r i so_far (uses name z go) m
              tools x.0)
              (sym alike.1) step),
          x.2,
        )
    steps-go (used_tool rest) (makes o) i j k fw fc a alike mid may = absurd alike
    steps-go (used_tool rest) (does act go) i j k fw fc a alike mid may = absurd alike
    steps-go (used_tool rest) (calls key keys go) i j k fw fc a alike mid may = absurd alike
    steps-go {path} {r} {l} {m = m} {tools = tools}
        (called_all {i = after} {so_far = so_far} {key = key} {keys = keys} {go = to} {results =
        results} t asked rest) (calls key' keys' go) i j k fw fc a alike mid may =
        let kw : Known (r ∷ path) i = midway-known r path so_far.segments i j mid.N mid.w_is
        mid.pair.by_w fw in
        let kc : Known (r ∷ path) l = midway-known r path so_far.segments l k mid.L mid.c_is
        mid.pair.by_c fc in
        let x = calls-go asked i i kw kc mid.alike
        (stays files W MadeSo (r ∷ path) i l mid.alike) in
        let mid' : Midway files W MadeSo r path (so_far.segments
        ++ called (key ∷ keys) results) j k x.0 after =
        calls-on files W MadeSo r path so_far.segments fw fc a mid (so_far.segments
        ++ called (key ∷ keys) results) (acts-called r so_far.segments (key
        ∷ keys) results) x.2 in
        let y' = steps-go rest (go results x.0) x.0 j k fw fc a
        (alike.2 results x.0 after mid'.alike) mid' may in (
          y'.0,
          subst (λ z. OfBody w (said Q' Anyhow K) (r ∷ path) r i so_far
              (calls z keys' go) m tools y'.0) (sym alike.0)
              (subst (λ z. OfBody w (said Q' Anyhow K) (r ∷ path) r i so_far (calls key z go) m
              tools y'.0)
              (sym alike.1) (called_all tt x.1 y'.1)),
          y'.2,
        )
    steps-go (called_all t asked rest) (makes o) i j k fw fc a alike mid may = absurd alike
    steps-go (called_all t asked rest) (does act go) i j k fw fc a alike mid may = absurd alike
    steps-go (called_all t asked rest) (uses name input go) i j k fw fc a alike mid may =
        absurd alike

    calls-go : {path : List RunId} {k a : Journal} {keys : List RequestKey}
        {results : List RequestResult} {l : Journal} →
        OfCalls c (said Q IsOfOneRun K) path k a keys results l → (j i : Journal) → Known path j →
        Known path k → Alike j k →
        Moved path j k i a → CallsGo path j k i keys results l
    calls-go (no_calls {path = path} {j = k} {a = a}) j i kw kc base moved =
        (i, no_calls, moved)
    calls-go (one_call {path = path} {j = k} {a = a} {i = l} {k = end} {key = key} {keys = keys}
        {res = res} {results = results} known less walk of_one rest) j i kw kc base moved =
        let x = walk-goes walk (w.walks key j) j (side.walks key j k base) kw kc base in
        let y = calls-go rest j (merge i x.0) kw kc base
        (join-went files W MadeSo moved made-one base x.2 of_one) in
        (y.0, one_call known less x.1 tt y.1, y.2)

  pub meanings-go : (result : RequestResult) (last : Journal) →
      EachOfMeaning c Q IsOfOneRun K result last →
      (journal : Journal) × EachOfMeaning w Q' Anyhow K result journal
      × AlikeJournals files W journal last
  meanings-go result last each =
      let start : Alike [] [] = record {
        same = λ p. refl;
        records = λ r. tt;
        only =
            λ r n act u. absurd u;
      } in
      let alike : AlikeWalks files W Q' Q c.tools (w.walks w.root []) (c.walks c.root []) [] [] =
      subst (λ z. AlikeWalks files W Q' Q c.tools (w.walks z []) (c.walks c.root []) [] [])
      (sym side.root) (side.walks c.root [] [] start) in
      let x = walk-goes each.rest (w.walks w.root []) [] alike (known-nothing [])
      (known-nothing []) start in
      (x.0, record { root = subst K (sym side.root) each.root; rest = x.1 }, x.2.alike)
