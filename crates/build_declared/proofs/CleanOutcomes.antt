-- An incremental build of a declared and fresh world is a clean one, by its files and its projects.
use Rattle.std.proofs.Common.{◌≡◌, ℕ, List, sym, ◌∙◌, subst}
use Rattle.std.specs.Prelude.{Result}
use Rattle.msb_values.specs.declared.mode.Mode.TheVariants.{Incremental, Clean}
use Rattle.msb_values.specs.declared.scope.Scope.{Scope}
use Rattle.file_store.specs.declared.tree.File.{File}
use Rattle.build_world.specs.Instances.{Instance, UsedTarget}
use Rattle.result_cache.specs.Journal.{Journal}
use Rattle.result_cache.specs.declared.run.RunId.{RunId}
use Rattle.result_cache.specs.declared.request.RequestKey.{RequestKey}
use Rattle.result_cache.specs.declared.request.RequestResult.{RequestResult}
use Rattle.build_meaning.specs.Walk.{Reply}
use Rattle.build_meaning.specs.Demand.{IsWhole}
use Rattle.build_meaning.specs.Meaning.{Given}
use Rattle.build_incremental.specs.Alike.{AlikeJournals}
use Rattle.build_incremental.specs.SideBySide.{HasNotActed}
use Rattle.task_trait.specs.declared.tools.ToolAnswer.{ToolAnswer}
use Rattle.task_trait.specs.declared.tools.ToolInput.{ToolInput}
use Rattle.target_incremental.specs.declared.decision.Choice.TheVariants.{
  Run as RunAll,
  Skip,
  Nothing,
  Part,
}
use Rattle.target_body.specs.States.{entered, run_at}
use Rattle.request_machine.specs.Walk.{Site}
use Rattle.build_declared.specs.Declared.{IsDeclared, MayChoose}
use Rattle.build_declared.specs.Written.{bytes_in, AnyPath}
use Rattle.build_declared.specs.Fresh.{IsFresh}
use Rattle.build_declared.specs.Builds.{world_by}
use Rattle.build_declared.proofs.Choices.{decided-may}
use Rattle.build_declared.proofs.CleanBuilds.{incremental-is-clean}
use Rattle.build_declared.proofs.PieceParts.{part-goes}
use Rattle.build_declared.proofs.PieceRuns.{GoesBy, IsNothing, piece-goes}
use Rattle.build_declared.proofs.PieceSkips.{skip-goes}
use Rattle.build_declared.proofs.SkipsSame.{skips-same}
use Rattle.build_declared.proofs.RunLists.{PieceGoes, runs-go}

module _ (tools : List ℕ → ToolInput → ToolAnswer) (files : List File) where
  nothings : (target : UsedTarget) (scope : Scope) (id : RunId) (j k : Journal)
      (a : AlikeJournals (bytes_in files) AnyPath j k) (fw : HasNotActed id j)
      (fc : HasNotActed id k) →
      GoesBy tools id (run_at files id target) scope j k a fw fc Incremental
      (IsNothing tools id (run_at files id target) scope j k a fw fc)
  nothings target scope id j k a fw fc bucket lists s t ps pt c lw lc all Nothing e w E F he hf fe
      ff said =
      let may : MayChoose tools id (run_at files id target) lists Nothing =
      subst (MayChoose tools id (run_at files id target) lists) e
      (decided-may tools id (run_at files id target) lists (entered scope bucket s)) in
      absurd (let g : Nothing ≡ RunAll = sym may ∙ all in apart g)
    where
      apart : Nothing ≡ RunAll → ⊥
      apart g = cc
  nothings target scope id j k a fw fc bucket lists s t ps pt c lw lc all RunAll e w E F he hf fe ff
      said = absurd w
  nothings target scope id j k a fw fc bucket lists s t ps pt c lw lc all Skip e w E F he hf fe ff
      said = absurd w
  nothings target scope id j k a fw fc bucket lists s t ps pt c lw lc all
      (Part old) e w E F he hf fe ff said = absurd w

  -- each piece of a run goes alike
  pub pieces-go : (target : UsedTarget) (scope : Scope) (id : RunId) (j k : Journal)
      (a : AlikeJournals (bytes_in files) AnyPath j k) → HasNotActed id j → HasNotActed id k →
      PieceGoes tools id (run_at files id target) scope j k a Incremental
  pieces-go target scope id j k a fw fc =
      piece-goes tools id (run_at files id target) scope j k a fw fc Incremental
      (skip-goes tools id (run_at files id target) scope j k a fw fc
      (skips-same tools id (run_at files id target) scope j k a fw fc))
      (part-goes tools id (run_at files id target) scope j k a fw fc)
      (nothings target scope id j k a fw fc)

  -- the incremental world is whole, and gives what the clean one gives
  pub incremental-is-clean-so : (root : RequestKey)
      (instances : RequestKey → Result Instance Reply) (out : Given Site ToolInput RequestResult) →
      IsDeclared tools files (world_by tools files root instances Clean) out →
      IsFresh tools files (world_by tools files root instances Clean) out.value out.journal →
      (y : Given Site ToolInput RequestResult)
      × IsWhole (world_by tools files root instances Incremental) y
      × (y.value ≡ out.value) × AlikeJournals (bytes_in files) AnyPath y.journal out.journal
  incremental-is-clean-so = incremental-is-clean tools files (runs-go tools files pieces-go)
