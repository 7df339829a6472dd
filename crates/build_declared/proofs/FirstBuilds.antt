-- A build of declared and fresh projects beside the clean build of the same files, as the journal
-- that it leaves tells of its runs.
use Rattle.std.proofs.Common.{
  ◌≡◌,
  ℕ,
  suc,
  ◌≤◌,
  inl,
  inr,
  List,
  [],
  ◌∷◌,
  Option,
  Some,
  refl,
  ap,
  sym,
  ◌∙◌,
  subst,
  arith,
  true,
}
use Rattle.std.specs.Prelude.{Result}
use Rattle.msb_values.specs.declared.mode.Mode.{Mode}
use Rattle.msb_values.specs.declared.mode.Mode.TheVariants.{Incremental, Clean}
use Rattle.msb_values.specs.declared.act.Act.{Act}
use Rattle.file_store.specs.Commits.{AreDone}
use Rattle.file_store.specs.declared.tree.File.{File}
use Rattle.build_world.specs.Instances.{Instance}
use Rattle.result_cache.specs.declared.run.RunId.{RunId}
use Rattle.result_cache.specs.declared.record.Record.{Record}
use Rattle.result_cache.specs.declared.record.Segment.TheVariants.{File as OnFile, Call}
use Rattle.result_cache.specs.declared.request.RequestKey.{RequestKey}
use Rattle.result_cache.specs.declared.request.RequestResult.{RequestResult}
use Rattle.result_cache.specs.Lists.{In}
use Rattle.result_cache.specs.Journal.{Journal, acted, act_of, end_of, has, record_of}
use Rattle.result_cache.proofs.RunTests.{clash}
use Rattle.result_cache.proofs.JournalEntries.{Has, had-in, had-none}
use Rattle.build_meaning.specs.Walk.{Body, Outcome, Reply}
use Rattle.build_meaning.specs.SoFar.{recorded}
use Rattle.build_meaning.specs.Meaning.{Given, built, meaning}
use Rattle.build_meaning.specs.Demand.{IsSteady}
use Rattle.build_meaning.specs.Derived.{EachOfMeaning}
use Rattle.build_meaning.specs.Sound.{IsBuilt, IsMade}
use Rattle.build_meaning.specs.World.{World}
use Rattle.build_incremental.specs.Alike.{AlikeJournals}
use Rattle.build_incremental.specs.Alone.{segments_of}
use Rattle.build_incremental.specs.Joins.{IsOfOneRun, Anyhow}
use Rattle.build_incremental.specs.SideBySide.{
  AlikeRuns,
  step_by_step,
  in_part,
  SideBySide,
  HasOneRecord,
}
use Rattle.build_incremental.proofs.BodyFacts.{
  ActsRecorded,
  HasBody,
  Facts,
  meaning-facts,
  also,
}
use Rattle.build_incremental.proofs.Demands.{told-journal, each-meaning}
use Rattle.build_incremental.proofs.Entries.{none-or-some, in-parts, in-marked, marked-act}
use Rattle.build_incremental.proofs.GoAlike.{meanings-go}
use Rattle.build_incremental.proofs.Meanings.{AskedIn, meaning-each, weaker-meaning}
use Rattle.build_incremental.proofs.Numbered.{numbered, acts_in, acts-segments}
use Rattle.build_incremental.proofs.Orders.{
  Under,
  HasNoCall,
  once-same,
  acts-once,
  meaning-once,
  meaning-under,
}
use Rattle.build_incremental.proofs.Pairs.{found-first}
use Rattle.msb_files.specs.FinalTree.{commit_list}
use Rattle.task_trait.specs.declared.tools.ToolAnswer.{ToolAnswer}
use Rattle.task_trait.specs.declared.tools.ToolInput.{ToolInput}
use Rattle.request_machine.specs.Walk.{Site}
use Rattle.build_declared.specs.Declared.{IsDeclared, DeclaredAt}
use Rattle.build_declared.specs.Fresh.{IsFresh, FreshAt}
use Rattle.build_declared.specs.Builds.{world_by}
use Rattle.build_declared.specs.Occurrences.{Occurrence, Occurs}
use Rattle.build_declared.specs.Written.{bytes_in, AnyPath}
use Rattle.build_declared.proofs.CleanOutcomes.{pieces-go}
use Rattle.build_declared.proofs.LastWrites.{RunAtLast}
use Rattle.build_declared.proofs.RunLists.{alike-self, runs-go}
use Rattle.build_declared.proofs.Sides.{sides}
use Rattle.build_declared.proofs.SiteBodies.{bodies_of, world-tells}

-- the same runs, where something else is said of the first record
run-said : {I A : Type 0} {files : List ℕ → Option (List ℕ)} {W : List ℕ → Type 0}
    {tools : List ℕ → I → A} {run : RunId} {j k : Journal} {b c : Body I A} {made : Record}
    {S T : Record → Type 0} → AlikeRuns files W tools run j k b c made S →
    ((m : Record) → T m) → AlikeRuns files W tools run j k b c made T
run-said {made = made} (step_by_step alike may s) f = step_by_step alike may (f made)
run-said (in_part o p part whole hw hc alike lacks may s) f =
    in_part o p part whole hw hc alike lacks may (f (recorded o (segments_of part)))

no-call : (acts : List Act) (key : RequestKey) (runs : List RunId) →
    In (Call key runs) (segments_of acts) → ⊥
no-call [] key runs i = i
no-call (act ∷ acts) key runs i =
    elim (in-parts (Call key runs) (segments_of acts) (OnFile act ∷ []) i) [
      | inl u ↦ no-call acts key runs u
      | inr (inl e) ↦ cc
      | inr (inr u) ↦ u
    ]

ended-found : (j : Journal) (id : RunId) → Has (end_of id) j →
    (m : Record) × (record_of j id ≡ Some m)
ended-found j id h = elim (none-or-some (record_of j id)) [
  | inl n ↦ absurd (clash (has (end_of id) j) h (had-none j id n))
  | inr s ↦ s
]

abbrev AnyKey : RequestKey → Type 0
AnyKey key = Unit {0}

abbrev pub Alike : List File → Journal → Journal → Type 0
Alike files j k = AlikeJournals (bytes_in files) AnyPath j k

module _ (tools : List ℕ → ToolInput → ToolAnswer) (files : List File) (root : RequestKey)
    (instances : RequestKey → Result Instance Reply)
    (clean : Given Site ToolInput RequestResult) where
  abbrev pub clean_world : World Site ToolInput ToolAnswer
  clean_world = world_by tools files root instances Clean

  -- ---- the clean build

  -- what is known of a body of it
  abbrev pub SaidClean : Site → RunId → Journal → Record → Type 0
  SaidClean site id k made = ((DeclaredAt tools files site.target site.scope id k
      × FreshAt tools files site.target site.scope id k) × IsMade clean.demand id made)
      × IsBuilt clean.demand site id k made

  abbrev pub KnownClean : Site → RunId → Journal → Record → Type 0
  KnownClean = Facts clean_world SaidClean IsOfOneRun AnyKey (bodies_of files Clean) clean.journal

  module _ (declared : IsDeclared tools files clean_world clean)
      (fresh : IsFresh tools files clean_world clean.value clean.journal) where
    all-clean : EachOfMeaning clean_world KnownClean IsOfOneRun AnyKey clean.value clean.journal
    all-clean =
        let D : Site → RunId → Journal → Record → Type 0 =
        λ site id k made. DeclaredAt tools files site.target site.scope id k in
        let F : Site → RunId → Journal → Record → Type 0 =
        λ site id k made. FreshAt tools files site.target site.scope id k in
        let a = (also clean_world D F IsOfOneRun Anyhow AnyKey AnyKey clean.value clean.value
        clean.journal clean.journal declared.each fresh).0 in
        let b = (also clean_world (λ p r j m. D p r j m × F p r j m) (IsBuilt clean.demand)
        IsOfOneRun Anyhow AnyKey (AskedIn clean) clean.value clean.value clean.journal
        clean.journal a (meaning-each clean_world clean declared.whole.means)).0 in
        let c = weaker-meaning clean_world
        (λ p r j m. (D p r j m × F p r j m) × IsBuilt clean.demand p r j m) SaidClean IsOfOneRun
        IsOfOneRun AnyKey AnyKey (λ p r j m h. ((h.0, (p, j, h.1)), h.1)) (λ c s n h. h)
        (λ key h. h) clean.value clean.journal b in
        (meaning-facts clean_world SaidClean IsOfOneRun AnyKey (bodies_of files Clean)
        (world-tells files Clean tools root instances) clean.value clean.journal c).0

    -- a run that is made has ended at last
    pub clean-ended : (id : RunId) (made : Record) → IsMade clean.demand id made →
        (m : Record) × (record_of clean.journal id ≡ Some m)
    clean-ended id made there =
        let x = each-meaning clean_world KnownClean IsOfOneRun AnyKey clean.value clean.journal
        all-clean in
        let same : Some x.0 ≡ Some clean = sym x.1 ∙ declared.whole.means in
        let e : x.0 ≡ clean = cc in
        let made-there : IsMade x.0.demand id made =
        subst (λ (z : Given Site ToolInput RequestResult). IsMade z.demand id made) (sym e) there in
        let known : KnownClean made-there.0 id made-there.1 made =
        x.4 (built made-there.0 id made-there.1 made made-there.2.0) made-there.2.1 in
        ended-found clean.journal id known.ends

    -- ---- the build, beside it

    -- the clean build makes the run at the same place, from a journal that is alike
    abbrev pub Twin : Site → RunId → Journal → Record → Type 0
    Twin site id j first = (k : Journal) × (made : Record) × KnownClean site id k made
        × AlikeJournals (bytes_in files) AnyPath j k

    abbrev Twins : Mode → Type 0
    Twins mode = (journal : Journal)
        × EachOfMeaning (world_by tools files root instances mode) Twin Anyhow AnyKey clean.value
        journal × AlikeJournals (bytes_in files) AnyPath journal clean.journal

    one-record : HasOneRecord KnownClean
    one-record p q run j k made other h g =
        declared.steady run made other h.said.0.1 g.said.0.1

    both-sides : SideBySide (bytes_in files) AnyPath Twin KnownClean
        (world_by tools files root instances Incremental) clean_world
    both-sides = sides tools files AnyPath Twin KnownClean (λ site id k made q n act i. tt)
        (λ site id j k made a q n. (k, made, q, a))
        (λ target scope id j k made a q lists fw fc.
        run-said (runs-go tools files (pieces-go tools files) target scope id j k made a
        q.said.0.0.0 q.said.0.0.1 lists fw fc) (λ first. (k, made, q, a))) root instances

    pub twins : (mode : Mode) → Twins mode
    twins Clean = (
      clean.journal,
      weaker-meaning clean_world KnownClean Twin IsOfOneRun Anyhow AnyKey AnyKey
          (λ p r j m h. (j, m, h, alike-self files j)) (λ c s n h. tt) (λ key h. tt) clean.value
          clean.journal all-clean,
      alike-self files clean.journal,
    )
    twins Incremental = meanings-go (bytes_in files) AnyPath
        (world_by tools files root instances Incremental) clean_world Twin KnownClean AnyKey
        one-record both-sides clean.value clean.journal all-clean

    -- ---- what the build leaves

    module _ (mode : Mode) (out : Given Site ToolInput RequestResult)
        (means : meaning (world_by tools files root instances mode) ≡ Some out)
        (steady : IsSteady out.demand) where
      abbrev pub world : World Site ToolInput ToolAnswer
      world = world_by tools files root instances mode

      abbrev pub SaidHere : Site → RunId → Journal → Record → Type 0
      SaidHere site id j made = (IsBuilt out.demand site id j made × IsMade out.demand id made)
          × Twin site id j made

      abbrev pub KnownHere : Site → RunId → Journal → Record → Type 0
      KnownHere = Facts world SaidHere Anyhow AnyKey (bodies_of files mode) out.journal

      abbrev Made : Site → RunId → Journal → Record → Type 0
      Made site id j made = IsMade out.demand id made

      with-made : EachOfMeaning world (λ p r j m. IsBuilt out.demand p r j m × Made p r j m)
          Anyhow AnyKey out.value out.journal
      with-made = weaker-meaning world (IsBuilt out.demand)
          (λ p r j m. IsBuilt out.demand p r j m × Made p r j m) Anyhow Anyhow (AskedIn out) AnyKey
          (λ p r j m h. (h, (p, j, h))) (λ c s n h. h) (λ key h. tt) out.value out.journal
          (meaning-each world out means)

      both-said : EachOfMeaning world SaidHere Anyhow AnyKey out.value out.journal
          × (out.journal ≡ (twins mode).0)
      both-said = also world (λ p r j m. IsBuilt out.demand p r j m × Made p r j m) Twin Anyhow
          Anyhow AnyKey AnyKey out.value clean.value out.journal (twins mode).0 with-made
          (twins mode).1

      pub last-alike : AlikeJournals (bytes_in files) AnyPath out.journal clean.journal
      last-alike = subst (λ z. AlikeJournals (bytes_in files) AnyPath z clean.journal)
          (sym both-said.1) (twins mode).2

      known-facts : EachOfMeaning world KnownHere Anyhow AnyKey out.value out.journal
          × ActsRecorded SaidHere out.journal
      known-facts = meaning-facts world SaidHere Anyhow AnyKey (bodies_of files mode)
          (world-tells files mode tools root instances) out.value out.journal both-said.0

      -- a run that the clean build makes was made here
      pub made-here : (id : RunId) (made : Record) → IsMade clean.demand id made →
          (site : Site) × (j : Journal) × (m : Record) × KnownHere site id j m
      made-here id made there =
          let c = clean-ended id made there in
          let f = found-first (record_of out.journal id) (record_of clean.journal id)
          (last-alike.records id) c.0 c.1 in
          let x = told-journal world KnownHere Anyhow AnyKey (HasBody (bodies_of files mode))
          (world-tells files mode tools root instances)
          (λ run m uses. (p : Site) × (j : Journal) × KnownHere p run j m)
          (λ p path r j i b m uses says known of. (p, j, known)) out.value out.journal
          known-facts.0 id f.0 (had-in out.journal id f.0 f.1) in
          (x.1.0, x.1.1, f.0, x.1.2)

      -- a run that has acted was made here
      pub acted-here : (id : RunId) (n : ℕ) (act : Act) → In (acted id n act) out.journal →
          (site : Site) × (j : Journal) × (m : Record) × KnownHere site id j m
          × In (acted id n act) (acts_in id m.segments)
      acted-here id n act i =
          let y = known-facts.1 id n act i in
          let x = each-meaning world KnownHere Anyhow AnyKey out.value out.journal known-facts.0 in
          let same : Some x.0 ≡ Some out = sym x.1 ∙ means in
          let e : x.0 ≡ out = cc in
          let made : IsMade x.0.demand id y.2 =
          subst (λ (z : Given Site ToolInput RequestResult). IsMade z.demand id y.2) (sym e)
          y.3.0.1 in
          let known : KnownHere made.0 id made.1 y.2 =
          x.4 (built made.0 id made.1 y.2 made.2.0) made.2.1 in
          (made.0, made.1, y.2, known, y.4)

      same-record : (p q : Site) (run : RunId) (j k : Journal) (m n : Record) →
          SaidHere p run j m → SaidHere q run k n → m ≡ n
      same-record p q run j k m n x y = steady run m n x.0.1 y.0.1

      -- two journals of it agree on what a run has done with a number
      agree : (from : Journal) → ActsRecorded SaidHere from → (run : RunId) (n : ℕ)
          (act other : Act) → In (acted run n act) from → In (acted run n other) out.journal →
          act ≡ other
      agree from t run n act other i u =
          let x = t run n act i in
          let y = known-facts.1 run n other u in
          let same : x.2 ≡ y.2 = same-record x.0 y.0 run x.1 y.1 x.2 y.2 x.3 y.3 in
          once-same (acts_in run x.2.segments) (acts-once run x.2.segments) run n act other x.4
          (subst (λ (z : Record). In (acted run n other) (acts_in run z.segments)) (sym same) y.4)

      -- what stands wherever the run begins stands below all its acts
      pub stood-under : (id run : RunId) (n : ℕ) → ((o : Occurrence) → Occurs out.demand o →
          o.run ≡ id → has (act_of run n) o.from ≡ true) →
          Under (act_of run n) id 0 out.journal
      stood-under id run n stood = meaning-under world KnownHere Anyhow AnyKey (act_of run n) id 0
          (λ p from m k. inl (stood (record { site = p; run = id; from = from; made = m })
          k.said.0.0 refl)) out.value out.journal known-facts.0

      module _ (after : List File) (commit : AreDone (commit_list out.journal) files after)
          (site : Site) (id : RunId) (j : Journal) (m : Record) (known : KnownHere site id j m)
          (outcome : Outcome) (all : List Act)
          (made_so : m ≡ recorded outcome (segments_of all)) where
        own-acts : acts_in id m.segments ≡ numbered id all
        own-acts = ap (λ (z : Record). acts_in id z.segments) made_so ∙ acts-segments id all

        own-told : (n : ℕ) (act : Act) → In (acted id n act) out.journal →
            In (acted id n act) (numbered id all)
        own-told n act i =
            let y = known-facts.1 id n act i in
            let same : y.2 ≡ m = same-record y.0 site id y.1 j y.2 m y.3 known.said in
            subst (In (acted id n act)) own-acts
            (subst (λ (z : Record). In (acted id n act) (acts_in id z.segments)) same y.4)

        calls-nothing : (p : Site) (from : Journal) (n : Record) → KnownHere p id from n →
            HasNoCall n
        calls-nothing p from n k key runs i =
            let same : n ≡ m = same-record p site id from j n m k.said known.said in
            no-call all key runs (subst (λ (z : Record). In (Call key runs) z.segments)
            (same ∙ made_so) i)

        own-rising : (k : ℕ) → Under (act_of id k) id (suc k) out.journal
        own-rising k = meaning-under world KnownHere Anyhow AnyKey (act_of id k) id (suc k)
            (λ p from n h. inr (k, refl, refl, least k, calls-nothing p from n h))
            out.value out.journal known-facts.0
          where
            least : (k : ℕ) → 0 ≤ k
            least k = omega arith

        pub run-at-last : RunAtLast files after out.journal id j all
        run-at-last = record {
          committed = commit;
          once = meaning-once world KnownHere Anyhow AnyKey out.value out.journal known-facts.0;
          told = own-told;
          there = λ n act i. known.acts n act
              (subst (In (acted id n act)) (sym own-acts) i);
          rising = own-rising;
          lasting = λ run n act i.
              let found = marked-act run n out.journal
              (known.lasts (act_of run n) (in-marked (acted run n act) j i)) in
              subst (λ z. In (acted run n z) out.journal)
              (sym (agree j known.acts_so run n act found.0 i found.1)) found.1;
          same = λ run n act i h.
              let found = marked-act run n j h in
              subst (λ z. In (acted run n z) j)
              (agree j known.acts_so run n found.0 act found.1 i) found.1;
        }
