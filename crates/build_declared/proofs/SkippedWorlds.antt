-- An incremental build that skips each piece uses no tool for it, and its records say so.
use Rattle.std.proofs.Common.{
  ◌≡◌,
  ℕ,
  Bool,
  true,
  false,
  List,
  [],
  ◌∷◌,
  Option,
  None,
  Some,
  refl,
  ap,
  sym,
  ◌∙◌,
  subst,
}
use Rattle.std.specs.Prelude.{Result, Ok, Err}
use Rattle.msb_laws.specs.Asking.{Asking}
use Rattle.msb_values.specs.declared.key.InstanceKey.{InstanceKey}
use Rattle.msb_values.specs.declared.mode.Mode.TheVariants.{Incremental}
use Rattle.msb_values.specs.declared.scope.Scope.{Scope}
use Rattle.file_store.specs.Files.{file_at}
use Rattle.file_store.specs.declared.tree.File.{File}
use Rattle.target_order.specs.Visit.{Question, End, order}
use Rattle.target_order.specs.declared.asks.OrderAnswer.{OrderAnswer}
use Rattle.build_world.specs.Faults.{not_found_text}
use Rattle.build_world.specs.Instances.{Instance, UsedTarget}
use Rattle.build_world.specs.declared.world.World.{World as Build}
use Rattle.msb_instance.specs.Evaluated.{evaluated}
use Rattle.result_cache.specs.Lists.{In}
use Rattle.result_cache.specs.Journal.{Journal, ended}
use Rattle.result_cache.specs.declared.record.Record.{Record}
use Rattle.result_cache.specs.declared.request.RequestKey.{RequestKey}
use Rattle.result_cache.specs.declared.request.RequestResult.{RequestResult}
use Rattle.result_cache.specs.declared.run.RunId.{RunId}
use Rattle.build_meaning.specs.Meaning.{Demanded, built, Given, meaning}
use Rattle.build_meaning.specs.SoFar.{ToolUse, SoFar, nothing_yet}
use Rattle.build_meaning.specs.Walk.{Body, makes, Outcome, Reply}
use Rattle.build_meaning.specs.World.{World}
use Rattle.build_meaning.specs.Derived.{
  said,
  OfBody,
  ended_so,
  acted_one,
  used_tool,
  called_all,
  EachOfMeaning,
}
use Rattle.build_incremental.specs.Joins.{Anyhow}
use Rattle.build_incremental.proofs.Demands.{Tells, told-meaning, told-journal}
use Rattle.build_incremental.proofs.Meanings.{weaker-meaning}
use Rattle.task_trait.specs.declared.tools.ToolAnswer.{ToolAnswer}
use Rattle.task_trait.specs.declared.tools.ToolInput.{ToolInput}
use Rattle.request_machine.specs.Requests.{
  Project,
  target_at,
  all_targets,
  has_no_targets,
  unevaluated,
}
use Rattle.request_machine.specs.Walk.{RequestScope, run_of, nothing_ran, Site, walk, walk_unless}
use Rattle.request_machine.specs.Worlds.{
  root_of,
  world_of,
  instance_by,
  instance_if,
  instances_of,
  body_at,
  bodies_at,
  request_by,
}
use Rattle.build_declared.specs.Builds.{in_mode}
use Rattle.build_declared.specs.Clean.{IsTrustworthy}
use Rattle.build_declared.specs.Skipped.{
  TakesLists,
  target_by,
  target_of,
  IsOfSkipped,
  IsSkipped,
  SkippedAt,
}
use Rattle.build_declared.specs.UpToDate.{IsUpToDate, SkipsEach}
use Rattle.build_declared.proofs.CleanBuilds.{Asked}
use Rattle.build_declared.proofs.CleanOutcomes.{pieces-go}
use Rattle.build_declared.proofs.RunLists.{runs-go}
use Rattle.build_declared.proofs.SecondBuilds.{second-skips}
use Rattle.build_declared.proofs.SiteBodies.{walk-tells}

-- a body that does nothing uses no tools
makes-tools : {P I A : Type 0} {w : World P I A} {D : Demanded P I → Type 0}
    {path : List RunId} {r : RunId} {j : Journal} {so_far : SoFar I} {b : Body I A} {m : Record}
    {uses : List (ToolUse I)} {k : Journal} → OfBody w D path r j so_far b m uses k →
    (o : Outcome) → b ≡ makes o → uses ≡ so_far.tools
makes-tools ended_so o e = refl
makes-tools (acted_one rest) o e = absurd (cc)
makes-tools (used_tool rest) o e = absurd (cc)
makes-tools (called_all t asked rest) o e = absurd (cc)

module _ (files : List File) where
  -- ---- the sites of a build's runs

  -- the body and the target at a site are those of its run
  pub record IsOfRun (site : Site) (id : RunId) (j : Journal) (b : Body ToolInput ToolAnswer)
      : Type 0 where
    pub body_is : b ≡ body_at files Incremental id site.target site.scope j
    pub target_is : site.target ≡ target_of files id

  module _ (p : Project) (key : RequestKey)
      (at : (name : List ℕ) → target_at p name ≡ target_of files (run_of p.key name)) where
    abbrev bodies : List ℕ → Scope → Journal → Body ToolInput ToolAnswer
    bodies = bodies_at files Incremental p

    tells-tree : (tree : Asking Question OrderAnswer End) (s : RequestScope) (j : Journal) →
        Tells IsOfRun (walk p key bodies tree s j) j
    tells-tree = walk-tells IsOfRun p key bodies
        (λ name scope j. record { body_is = refl; target_is = at name })

  -- a project's evaluation looks at its instance alone
  same-instances : (a b : RequestKey) → a.instance ≡ b.instance →
      instances_of files a ≡ instances_of files b
  same-instances a b e =
      ap (λ (i : InstanceKey). instance_if files a (file_at i.path files)) e
      ∙ go (file_at b.instance.path files)
    where
      go : (o : Option File) → instance_if files a o ≡ instance_if files b o
      go None = ap (λ (i : InstanceKey). Err (unevaluated (not_found_text i.path))) e
      go (Some file) = ap (λ (i : InstanceKey). instance_by (evaluated files i)) e

  pub tells-request : (key : RequestKey) (j : Journal) →
      Tells IsOfRun (request_by files Incremental key j (instances_of files key)) j
  tells-request key j = go (instances_of files key) refl
    where
      unless : (p : Project) → ((name : List ℕ) → target_at p name
          ≡ target_of files (run_of p.key name)) → (none : Bool) →
          Tells IsOfRun (walk_unless p key (bodies_at files Incremental p) none j) j
      unless p at true = tt
      unless p at false = tells-tree p key at (order p.instance.rows (all_targets p.instance key))
          (nothing_ran p) j

      go : (x : Result Instance Reply) → instances_of files key ≡ x →
          Tells IsOfRun (request_by files Incremental key j x) j
      go (Err reply) e = tt
      go (Ok instance) e =
          let p : Project = record {
            files = files;
            key = key.instance;
            instance = instance;
          } in
          let plain : RequestKey = record {
            instance = key.instance;
            targets = [];
            named = false;
          } in
          unless p (λ name. sym (ap (target_by files (run_of key.instance name))
          (same-instances plain key refl ∙ e))) (has_no_targets instance key)

-- ---- the build

module _ (tools : List ℕ → ToolInput → ToolAnswer) (w : Build)
    (clean : Given Site ToolInput RequestResult) (t : IsTrustworthy tools w clean)
    (u : IsUpToDate tools w clean) where
  abbrev files : List File
  files = w.tree.files

  abbrev build : Build
  build = in_mode Incremental w

  abbrev world : World Site ToolInput ToolAnswer
  world = world_of tools build

  abbrev Skips : Site → RunId → Journal → Record → Type 0
  Skips site id j made = SkippedAt tools files site.target site.scope id j made

  abbrev AskedFor : RequestKey → Type 0
  AskedFor = Asked tools files (runs-go tools files (pieces-go tools files)) (root_of w)
      (instances_of files) clean

  abbrev AnyKey : RequestKey → Type 0
  AnyKey key = Unit {0}

  abbrev Idles : RunId → Record → List (ToolUse ToolInput) → Type 0
  Idles id made uses = (target : UsedTarget) → target_of files id ≡ Some target →
      TakesLists target → IsOfSkipped tools files target id made × (uses ≡ [])

  idles : (site : Site) (path : List RunId) (id : RunId) (j i : Journal)
      (b : Body ToolInput ToolAnswer) (made : Record) (uses : List (ToolUse ToolInput)) →
      IsOfRun files site id j b → Skips site id j made →
      OfBody world (said Skips Anyhow AskedFor) (id ∷ path) id j nothing_yet b made uses i →
      Idles id made uses
  idles site path id j i b made uses at q of target e takes =
      let same : site.target ≡ Some target = at.target_is ∙ e in
      let skipped : TakesLists target → IsSkipped tools files target site.scope id j made =
      subst (λ o. SkippedAt tools files o site.scope id j made) same q in
      let s = skipped takes in
      let over : b ≡ makes s.outcome =
      at.body_is ∙ (ap (λ o. body_at files Incremental id o site.scope j) same ∙ s.at_once) in (
        record { scope = site.scope; from = j; skipped = s },
        makes-tools of s.outcome over,
      )

  second : (journal : Journal) × EachOfMeaning world Skips Anyhow AskedFor clean.value journal
  second = second-skips tools files (root_of w) (instances_of files) clean u.keep_off
      t.declared t.fresh u.no_older

  skips-each : (out : Given Site ToolInput RequestResult) →
      meaning (world_of tools build) ≡ Some out → SkipsEach tools build out
  skips-each out means =
      let y = told-meaning world Skips Anyhow AskedFor (IsOfRun files) (tells-request files) Idles
      idles clean.value second.0 second.1 in
      let same : Some y.0 ≡ Some out = sym y.1 ∙ means in
      let each : EachOfMeaning world Skips Anyhow AnyKey clean.value second.0 =
      weaker-meaning world Skips Skips Anyhow Anyhow AskedFor AnyKey (λ p r j m h. h)
      (λ x y z h. h) (λ key h. tt) clean.value second.0 second.1 in
      subst (SkipsEach tools build) (let e : y.0 ≡ out = cc in e) (record {
        bodies = subst (λ v. EachOfMeaning world Skips Anyhow AnyKey v y.0.journal) (sym y.2)
            (subst (EachOfMeaning world Skips Anyhow AnyKey clean.value) (sym y.3) each);
        uses_none = λ site run from made uses i. y.4 (built site run from made uses) i;
        records = λ run made i target e takes.
            let was = told-journal world Skips Anyhow AskedFor (IsOfRun files)
            (tells-request files) Idles idles clean.value second.0 second.1 run made
            (subst (In (ended run made)) y.3 i) in
            (was.1 target e takes).0;
      })

  -- what the incremental world means skips each piece
  pub second-build-skips : w.mode ≡ Incremental → (out : Given Site ToolInput RequestResult) →
      meaning (world_of tools w) ≡ Some out → SkipsEach tools w out
  second-build-skips mode =
      let same : build ≡ w = ap (λ m. in_mode m w) (sym mode) in
      subst (λ b. (out : Given Site ToolInput RequestResult) →
      meaning (world_of tools b) ≡ Some out → SkipsEach tools b out) same skips-each
