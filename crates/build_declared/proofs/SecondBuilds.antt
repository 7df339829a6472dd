-- An incremental build of a declared and fresh world, over a tree in which the outputs of its
-- pieces are no older than their inputs, skips each piece.
use Rattle.std.proofs.Common.{
  ◌≡◌,
  ℕ,
  ◌⊎◌,
  inl,
  List,
  [],
  ◌∷◌,
  ◌++◌,
  Option,
  None,
  Some,
  refl,
  ap,
  sym,
  ◌∙◌,
  subst,
}
use Rattle.std.specs.Prelude.{Result, Ok, Err, codes}
use Rattle.std.proofs.lemmas.Slice.Eq.{bytes_eq-Decides}
use Rattle.msb_values.specs.Acts.{act_path}
use Rattle.msb_values.specs.declared.mode.Mode.TheVariants.{Incremental, Clean}
use Rattle.msb_values.specs.declared.act.Act.{Act}
use Rattle.msb_values.specs.declared.scope.Scope.{Scope}
use Rattle.msb_expand.specs.declared.lens.Bucket.{Bucket}
use Rattle.file_store.specs.declared.tree.File.{File}
use Rattle.build_world.specs.Elements.{attribute_of}
use Rattle.build_world.specs.Instances.{Instance, UsedTarget}
use Rattle.result_cache.specs.Lists.{In}
use Rattle.result_cache.specs.Journal.{Journal}
use Rattle.result_cache.specs.declared.run.RunId.{RunId}
use Rattle.result_cache.specs.declared.record.Record.{Record}
use Rattle.result_cache.specs.declared.record.Segment.TheVariants.{File as OnFile}
use Rattle.result_cache.specs.declared.request.RequestKey.{RequestKey}
use Rattle.result_cache.specs.declared.request.RequestResult.{RequestResult}
use Rattle.build_meaning.specs.SoFar.{recorded}
use Rattle.build_meaning.specs.Walk.{Body, makes, does, uses, calls, Outcome, Reply}
use Rattle.build_meaning.specs.Derived.{EachOfMeaning}
use Rattle.build_meaning.specs.Meaning.{Given}
use Rattle.build_meaning.specs.Sound.{IsBuilt}
use Rattle.build_meaning.specs.World.{World}
use Rattle.build_incremental.specs.Alike.{AlikeOutcomes, AlikeJournals}
use Rattle.build_incremental.specs.Alone.{alone, LacksOnly}
use Rattle.build_incremental.specs.Joins.{IsOfOneRun, Anyhow}
use Rattle.build_incremental.specs.SideBySide.{
  AlikeBodies,
  AlikeRuns,
  step_by_step,
  in_part,
  HasNotActed,
  HasOneRecord,
}
use Rattle.build_incremental.proofs.Entries.{nothing-content}
use Rattle.build_incremental.proofs.GoAlike.{meanings-go}
use Rattle.build_incremental.proofs.Meanings.{
  AskedIn,
  both-meaning,
  meaning-each,
  weaker-meaning,
}
use Rattle.task_trait.specs.declared.tools.ToolAnswer.{ToolAnswer}
use Rattle.task_trait.specs.declared.tools.ToolInput.{ToolInput}
use Rattle.target_texts.specs.Returned.{in_target}
use Rattle.target_body.specs.Bodies.{body, buckets_at}
use Rattle.target_body.specs.Pieces.{lists_at, choice_of, Chooser, bucket_by}
use Rattle.target_body.specs.States.{Run, State, Stopped, begun, entered, context_in, run_at}
use Rattle.request_machine.specs.Walk.{Site}
use Rattle.build_declared.specs.Declared.{IsDeclared, clean_pieces}
use Rattle.build_declared.specs.Ends.{End, end_of}
use Rattle.build_declared.specs.Fresh.{IsFresh}
use Rattle.build_declared.specs.NoOlder.{NoOlderAt, IsNoOlder}
use Rattle.build_declared.specs.Occurrences.{Occurrence, Occurs}
use Rattle.build_declared.specs.Pieces.{
  Piece,
  piece_if,
  next_by,
  then_pieces,
  pieces_among,
  pieces_in,
  pieces_of,
}
use Rattle.build_declared.specs.Builds.{world_by}
use Rattle.build_declared.specs.Settled.{pieces_at, is_of, FreeRunsKeepOff}
use Rattle.build_declared.specs.Skipped.{TakesLists, SkippedAt}
use Rattle.build_declared.specs.Written.{bytes_in, AnyPath}
use Rattle.build_declared.proofs.Choices.{clean-all}
use Rattle.build_declared.proofs.CleanBuilds.{Known as KnownClean, Asked, all-known}
use Rattle.build_declared.proofs.CleanOutcomes.{pieces-go}
use Rattle.build_declared.proofs.IdleBuckets.{IsNew}
use Rattle.build_declared.proofs.RunLists.{runs-go}
use Rattle.build_declared.proofs.Sides.{no-lists, sides}
use Rattle.build_declared.proofs.SkippedRuns.{idle-run}

-- ---- a body that does nothing

module _ {I A : Type 0} (files : List ℕ → Option (List ℕ)) (W : List ℕ → Type 0)
    (tools : List ℕ → I → A) (run : RunId) (j k : Journal) (made : Record)
    (S : Record → Type 0) (o : Outcome) (said : S (recorded o [])) where
  lacks-none : LacksOnly files j [] []
  lacks-none = record {
    acted = λ p. inl refl;
    left_out = λ p b n e. absurd (cc);
  }

  at-once : (c : Body I A) → AlikeBodies files AnyPath (makes o) c →
      AlikeRuns files W tools run j k (makes o) c made S
  at-once (makes p) alike =
      let ends : Outcome → Option (Outcome × List Act) = λ z. Some (z, []) in
      in_part o o [] [] refl (ap ends (sym alike))
      (record { ok = refl; items = refl; changes = refl }) lacks-none (λ act i. absurd i) said
  at-once (does act go) alike = absurd alike
  at-once (uses name input go) alike = absurd alike
  at-once (calls key keys go) alike = absurd alike

  -- it goes alike on whatever paths the first may act
  pub nothing-goes : (b c : Body I A) → b ≡ makes o →
      AlikeRuns files AnyPath tools run j k b c made (λ first. Unit {0}) →
      AlikeRuns files W tools run j k b c made S
  nothing-goes b c e (step_by_step alike may any) =
      subst (λ z. AlikeRuns files W tools run j k z c made S) (sym e)
      (at-once c (subst (λ z. AlikeBodies files AnyPath z c) e alike))
  nothing-goes b c e (in_part q p part whole hw hc alike lacks may any) =
      let one : Outcome × List Act = (o, []) in
      let other : Outcome × List Act = (q, part) in
      let here : alone tools run b j [] ≡ Some one = ap (λ z. alone tools run z j []) e in
      let ends : Some one ≡ Some other = sym here ∙ hw in
      let both : one ≡ other = cc in
      let po : o ≡ q = ap (λ z. z.0) both in
      let pp : [] ≡ part = ap (λ z. z.1) both in
      in_part o p [] whole here hc (subst (λ z. AlikeOutcomes z p) (sym po) alike)
      (subst (λ l. LacksOnly files j l whole) (sym pp) lacks) (λ act i. absurd i) said

-- ---- a run without a piece

module _ (tools : List ℕ → ToolInput → ToolAnswer) (id : RunId) (choose : Chooser) (run : Run)
    (scope : Scope) (none : (bucket : Bucket) (s : State) → lists_at run bucket s ≡ Ok None) where
  abbrev among : List Bucket → State → List Act → List Piece
  among = pieces_among tools id choose run scope

  later-none : (buckets : List Bucket) → ((s : State) (before : List Act) →
      among buckets s before ≡ []) → (o : Option (End (Result State Stopped))) →
      then_pieces o (among buckets) ≡ []
  later-none buckets ih None = refl
  later-none buckets ih (Some end) = go end.value
    where
      go : (r : Result State Stopped) → next_by r end.acts (among buckets) ≡ []
      go (Ok s) = ih s end.acts
      go (Err stop) = refl

  among-none : (buckets : List Bucket) (s : State) (before : List Act) →
      among buckets s before ≡ []
  among-none [] s before = refl
  among-none (bucket ∷ buckets) s before =
      let x : State = entered scope bucket s in
      ap (λ z. piece_if bucket x before z
      ++ then_pieces (end_of tools id (bucket_by choose run scope bucket s) s.journal before)
      (among buckets)) (none bucket x)
      ∙ later-none buckets (among-none buckets)
      (end_of tools id (bucket_by choose run scope bucket s) s.journal before)

  pub pieces-none : (journal : Journal) → pieces_of tools id choose run scope journal ≡ []
  pieces-none journal = go (buckets_at run (begun scope journal))
    where
      go : (x : Result (List Bucket) Stopped) →
          pieces_in tools id choose run scope x (begun scope journal) ≡ []
      go (Ok buckets) = among-none buckets (begun scope journal) []
      go (Err stop) = refl

-- ---- the worlds

module _ (tools : List ℕ → ToolInput → ToolAnswer) (files : List File) (root : RequestKey)
    (instances : RequestKey → Result Instance Reply) (out : Given Site ToolInput RequestResult)
    (free : FreeRunsKeepOff tools files Clean out.demand) where
  abbrev pub incremental : World Site ToolInput ToolAnswer
  incremental = world_by tools files root instances Incremental

  abbrev pub clean : World Site ToolInput ToolAnswer
  clean = world_by tools files root instances Clean

  -- no input and no output of a piece
  abbrev KeepsOff : List ℕ → Type 0
  KeepsOff path = (o : Occurrence) → Occurs out.demand o → (p : Piece) →
      In p (pieces_at tools files Clean o) → is_of tools files Clean path p → ⊥

  abbrev Declared : Site → RunId → Journal → Record → Type 0
  Declared = KnownClean tools files (runs-go tools files (pieces-go tools files)) root instances out

  abbrev NoOlder : Site → RunId → Journal → Record → Type 0
  NoOlder site id k made = NoOlderAt tools files site.target site.scope id k

  record IsListed (site : Site) (id : RunId) (k : Journal) (made : Record) : Type 0 where
    older : NoOlder site id k made
    among : IsBuilt out.demand site id k made

  -- what is known of the bodies of the clean meaning
  record Known (site : Site) (id : RunId) (k : Journal) (made : Record) : Type 0 where
    clean_so : Declared site id k made
    listed : IsListed site id k made

  abbrev pub Skips : Site → RunId → Journal → Record → Type 0
  Skips site id j made = SkippedAt tools files site.target site.scope id j made

  abbrev AnyKey : RequestKey → Type 0
  AnyKey key = Unit {0}

  abbrev AskedFor : RequestKey → Type 0
  AskedFor = Asked tools files (runs-go tools files (pieces-go tools files)) root instances out

  abbrev WithoutLists : Option UsedTarget → Type 0
  WithoutLists o = (target : UsedTarget) → o ≡ Some target → TakesLists target → ⊥

  -- ---- one run

  no-piece : (o : Option UsedTarget) (scope : Scope) (id : RunId) (k : Journal) (made : Record) →
      WithoutLists o → pieces_at tools files Clean (record {
        site = record { target = o; scope = scope };
        run = id;
        from = k;
        made = made;
      }) ≡ []
  no-piece None scope id k made n = refl
  no-piece (Some target) scope id k made n =
      let run : Run = run_at files id target in
      pieces-none tools id (choice_of Clean run) run scope
      (λ bucket s. no-lists (in_target (context_in run s s.scope) bucket) target
      (attribute_of (codes "Inputs") target.element)
      (attribute_of (codes "Outputs") target.element) refl refl (n target refl)) k

  may : (site : Site) (id : RunId) (k : Journal) (made : Record) → Known site id k made →
      WithoutLists site.target → (act : Act) → In (OnFile act) made.segments →
      KeepsOff (act_path act)
  may site id k made q n act written o there p among at =
      free (record { site = site; run = id; from = k; made = made }) o q.listed.among there
      (no-piece site.target site.scope id k made n) p among act written at

  skips-none : (o : Option UsedTarget) (scope : Scope) (id : RunId) (j : Journal)
      (made : Record) → WithoutLists o → SkippedAt tools files o scope id j made
  skips-none None scope id j made n = tt
  skips-none (Some target) scope id j made n = λ takes. absurd (n target refl takes)

  any-path : (j k : Journal) → AlikeJournals (bytes_in files) KeepsOff j k →
      AlikeJournals (bytes_in files) AnyPath j k
  any-path j k a = record { same = a.same; records = a.records; only = λ run n act i. tt }

  -- nobody has acted on a file of a piece
  new : (target : UsedTarget) (scope : Scope) (id : RunId) (j k : Journal) (made : Record) →
      (a : AlikeJournals (bytes_in files) KeepsOff j k) →
      Known (record { target = Some target; scope = scope }) id k made →
      (p : Piece) → In p (clean_pieces tools files (Some target) scope id k) →
      IsNew tools id (run_at files id target) scope j k (any-path j k a) p
  new target scope id j k made a q p i =
      let run : Run = run_at files id target in
      let met : In p (pieces_of tools id (choice_of Clean run) run scope k) =
      subst (λ (c : Chooser). In p (pieces_of tools id c run scope k)) (sym (clean-all run)) i
      in
      record {
        no_older = q.listed.older p i;
        untouched = λ path at. nothing-content j path (λ other n act written same.
            let e : act_path act ≡ path = (bytes_eq-Decides (act_path act) path).0 same in
            a.only other n act written (record {
              site = record { target = Some target; scope = scope };
              run = id;
              from = k;
              made = made;
            }) q.listed.among p met
            (subst (λ z. In z p.lists.inputs ⊎ In z p.lists.outputs) (sym e) at));
      }

  with-lists : (target : UsedTarget) (scope : Scope) (id : RunId) (j k : Journal)
      (made : Record) → AlikeJournals (bytes_in files) KeepsOff j k →
      Known (record { target = Some target; scope = scope }) id k made → TakesLists target →
      HasNotActed id j → HasNotActed id k →
      AlikeRuns (bytes_in files) KeepsOff tools id j k
      (body Incremental (run_at files id target) scope j)
      (body Clean (run_at files id target) scope k) made
      (Skips (record { target = Some target; scope = scope }) id j)
  with-lists target scope id j k made a q takes fw fc =
      let any = any-path j k a in
      let idle = idle-run tools files target scope id j k made any takes fw fc q.clean_so.1
      q.clean_so.2
      (new target scope id j k made a q) in
      nothing-goes (bytes_in files) KeepsOff tools id j k made
      (Skips (record { target = Some target; scope = scope }) id j) idle.outcome
      (λ takes. record {
        outcome = idle.outcome;
        at_once = idle.at_once;
        made_so = refl;
        skips = idle.skips;
        words = idle.words;
        as_many = idle.as_many;
      })
      (body Incremental (run_at files id target) scope j)
      (body Clean (run_at files id target) scope k) idle.at_once
      (runs-go tools files (pieces-go tools files) target scope id j k made any q.clean_so.1
      q.clean_so.2 takes fw fc)

  -- ---- the meaning

  known : IsDeclared tools files clean out → IsFresh tools files clean out.value out.journal →
      IsNoOlder tools files clean out.value out.journal →
      EachOfMeaning clean Known IsOfOneRun AskedFor out.value out.journal
  known declared fresh older =
      let both = (both-meaning clean NoOlder (IsBuilt out.demand) Anyhow Anyhow AnyKey (AskedIn out)
      out.value out.value out.journal out.journal older
      (meaning-each clean out declared.whole.means)).0 in
      let listed = weaker-meaning clean (λ p r j m. NoOlder p r j m × IsBuilt out.demand p r j m)
      IsListed (λ x y z. Anyhow x y z × Anyhow x y z) Anyhow
      (λ key. AnyKey key × AskedIn out key) AnyKey
      (λ p r j m h. record { older = h.0; among = h.1 }) (λ x y z h. h.0) (λ key h. h.0)
      out.value out.journal both in
      let all = (both-meaning clean Declared IsListed IsOfOneRun Anyhow AskedFor AnyKey
      out.value out.value out.journal out.journal
      (all-known tools files (runs-go tools files (pieces-go tools files)) root instances out
      declared fresh) listed).0 in
      weaker-meaning clean (λ p r j m. Declared p r j m × IsListed p r j m) Known
      (λ x y z. IsOfOneRun x y z × Anyhow x y z) IsOfOneRun
      (λ key. AskedFor key × AnyKey key) AskedFor
      (λ p r j m h. record { clean_so = h.0; listed = h.1 }) (λ x y z h. h.0) (λ key h. h.0)
      out.value out.journal all

  -- each run of a target with Inputs and Outputs is skipped
  pub second-skips : IsDeclared tools files clean out →
      IsFresh tools files clean out.value out.journal →
      IsNoOlder tools files clean out.value out.journal →
      (journal : Journal) × EachOfMeaning incremental Skips Anyhow AskedFor out.value journal
  second-skips declared fresh older =
      let one : HasOneRecord Known = λ p q run j k made other h g.
      declared.steady run made other h.clean_so.0 g.clean_so.0 in
      let side = sides tools files KeepsOff Skips Known may
      (λ site id j k made x q n. skips-none site.target site.scope id j made n)
      with-lists root instances in
      let x = meanings-go (bytes_in files) KeepsOff incremental clean Skips Known AskedFor one side
      out.value out.journal (known declared fresh older) in
      (x.0, x.1)
