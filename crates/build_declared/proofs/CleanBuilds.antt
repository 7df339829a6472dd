-- An incremental build of a declared and fresh world is a clean one, where the runs of targets with
-- Inputs and Outputs go alike.
use Rattle.std.proofs.Common.{◌≡◌, ℕ, List, Some, sym, subst}
use Rattle.std.specs.Prelude.{Result}
use Rattle.msb_values.specs.declared.mode.Mode.TheVariants.{Incremental, Clean}
use Rattle.msb_values.specs.declared.scope.Scope.{Scope}
use Rattle.file_store.specs.declared.tree.File.{File}
use Rattle.build_world.specs.Instances.{Instance, UsedTarget}
use Rattle.result_cache.specs.Lists.{In}
use Rattle.result_cache.specs.Journal.{Journal}
use Rattle.result_cache.specs.declared.run.RunId.{RunId}
use Rattle.result_cache.specs.declared.record.Record.{Record}
use Rattle.result_cache.specs.declared.request.RequestKey.{RequestKey}
use Rattle.result_cache.specs.declared.request.RequestResult.{RequestResult}
use Rattle.build_meaning.specs.Walk.{Reply}
use Rattle.build_meaning.specs.Demand.{IsWhole}
use Rattle.build_meaning.specs.Meaning.{Given, requested}
use Rattle.build_meaning.specs.Sound.{IsBuilt, IsMade}
use Rattle.build_incremental.specs.Alike.{AlikeJournals}
use Rattle.build_meaning.specs.Derived.{EachOfMeaning}
use Rattle.build_meaning.specs.World.{World}
use Rattle.build_incremental.specs.Joins.{IsOfOneRun, Anyhow}
use Rattle.build_incremental.specs.SideBySide.{AlikeRuns, HasNotActed, HasOneRecord, IsAny}
use Rattle.build_incremental.proofs.GoAlike.{meanings-go}
use Rattle.build_incremental.proofs.Demands.{each-meaning}
use Rattle.build_incremental.proofs.Meanings.{meaning-each, both-meaning, weaker-meaning}
use Rattle.build_incremental.proofs.Whole.{whole-too}
use Rattle.task_trait.specs.declared.tools.ToolAnswer.{ToolAnswer}
use Rattle.task_trait.specs.declared.tools.ToolInput.{ToolInput}
use Rattle.target_body.specs.Bodies.{body}
use Rattle.target_body.specs.States.{run_at}
use Rattle.request_machine.specs.Walk.{Site}
use Rattle.build_declared.specs.Declared.{IsDeclared, DeclaredAt}
use Rattle.build_declared.specs.Written.{bytes_in, AnyPath}
use Rattle.build_declared.specs.Fresh.{IsFresh, FreshAt}
use Rattle.build_declared.specs.Builds.{world_by}
use Rattle.build_declared.specs.Skipped.{TakesLists}
use Rattle.build_declared.proofs.Sides.{sides}

module _ (tools : List ℕ → ToolInput → ToolAnswer) (files : List File) where
  -- what is still to be shown of one run: a declared and fresh run of a target with Inputs and
  -- Outputs goes alike
  abbrev pub RunsGo : Type 0
  RunsGo = (target : UsedTarget) (scope : Scope) (id : RunId) (j k : Journal) (made : Record) →
      AlikeJournals (bytes_in files) AnyPath j k →
      DeclaredAt tools files (Some target) scope id k →
      FreshAt tools files (Some target) scope id k →
      TakesLists target → HasNotActed id j → HasNotActed id k →
      AlikeRuns (bytes_in files) AnyPath tools id j k
      (body Incremental (run_at files id target) scope j)
      (body Clean (run_at files id target) scope k) made (λ first. Unit {0})

  module _ (go : RunsGo) (root : RequestKey) (instances : RequestKey → Result Instance Reply)
      (out : Given Site ToolInput RequestResult) where
    abbrev pub incremental : World Site ToolInput ToolAnswer
    incremental = world_by tools files root instances Incremental

    abbrev pub clean : World Site ToolInput ToolAnswer
    clean = world_by tools files root instances Clean

    -- what is known of the bodies, joins and requests of the clean meaning
    abbrev pub MadeThere : Site → RunId → Journal → Record → Type 0
    MadeThere site id k made = IsMade out.demand id made

    abbrev pub Declared : Site → RunId → Journal → Record → Type 0
    Declared site id k made = DeclaredAt tools files site.target site.scope id k

    abbrev pub Fresh : Site → RunId → Journal → Record → Type 0
    Fresh site id k made = FreshAt tools files site.target site.scope id k

    abbrev pub Known : Site → RunId → Journal → Record → Type 0
    Known site id k made =
        MadeThere site id k made × Declared site id k made × Fresh site id k made

    abbrev pub Asked : RequestKey → Type 0
    Asked key = In (requested key) out.demand

    abbrev pub AnyKey : RequestKey → Type 0
    AnyKey key = Unit {0}

    pub all-known : IsDeclared tools files clean out →
        IsFresh tools files clean out.value out.journal →
        EachOfMeaning clean Known IsOfOneRun Asked out.value out.journal
    all-known declared fresh =
        let made = weaker-meaning clean (IsBuilt out.demand) MadeThere Anyhow Anyhow Asked Asked
        (λ p r j m b. (p, j, b)) (λ x y z h. h) (λ key h. h) out.value out.journal
        (meaning-each clean out declared.whole.means) in
        let two = (both-meaning clean MadeThere Declared Anyhow IsOfOneRun Asked AnyKey
        out.value out.value out.journal out.journal made declared.each).0 in
        let all = (both-meaning clean (λ p r j m. MadeThere p r j m × Declared p r j m) Fresh
        (λ x y z. Anyhow x y z × IsOfOneRun x y z) Anyhow (λ key. Asked key × AnyKey key) AnyKey
        out.value out.value out.journal out.journal two fresh).0 in
        weaker-meaning clean (λ p r j m. (MadeThere p r j m × Declared p r j m)
        × Fresh p r j m) Known
        (λ x y z. (Anyhow x y z × IsOfOneRun x y z) × Anyhow x y z) IsOfOneRun
        (λ key. (Asked key × AnyKey key) × AnyKey key) Asked
        (λ p r j m h. (h.0.0, h.0.1, h.1)) (λ x y z h. h.0.1) (λ key h. h.0.0)
        out.value out.journal all

    -- the incremental world is whole, and gives what the clean one gives
    pub incremental-is-clean : IsDeclared tools files clean out →
        IsFresh tools files clean out.value out.journal →
        (y : Given Site ToolInput RequestResult) × IsWhole incremental y
        × (y.value ≡ out.value) × AlikeJournals (bytes_in files) AnyPath y.journal out.journal
    incremental-is-clean declared fresh =
        let one : HasOneRecord Known = λ p q run j k made other h g.
        declared.steady run made other h.0 g.0 in
        let side = sides tools files AnyPath IsAny Known (λ site id k made q n act i. tt)
        (λ site id j k made x q n. tt)
        (λ target scope id j k made x q lists fw fc.
        go target scope id j k made x q.1 q.2 lists fw fc) root instances in
        let x = meanings-go (bytes_in files) AnyPath incremental clean IsAny Known Asked one side
        out.value out.journal (all-known declared fresh) in
        let y = each-meaning incremental IsAny Anyhow Asked out.value x.0 x.1 in (
          y.0,
          whole-too incremental clean y.0 out declared.whole y.1 (λ key i. y.4 (requested key) i),
          y.2,
          subst (λ z. AlikeJournals (bytes_in files) AnyPath z out.journal) (sym y.3) x.2,
        )
