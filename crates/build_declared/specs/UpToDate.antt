-- Builds that find each piece up to date, and what comes of them. (Incremental builds)
use Rattle.std.specs.Prelude.{◌≡◌, List, [], Some}
use Rattle.msb_laws.specs.Words.{Name}
use Rattle.msb_values.specs.declared.mode.Mode.TheVariants.{Clean}
use Rattle.build_world.specs.Instances.{UsedTarget}
use Rattle.build_world.specs.declared.world.World.{World}
use Rattle.result_cache.specs.declared.record.Record.{Record}
use Rattle.result_cache.specs.declared.request.RequestResult.{RequestResult}
use Rattle.result_cache.specs.declared.run.RunId.{RunId}
use Rattle.result_cache.specs.Lists.{In}
use Rattle.result_cache.specs.Journal.{Journal, ended}
use Rattle.build_meaning.specs.Meaning.{Given, built}
use Rattle.build_meaning.specs.SoFar.{ToolUse}
use Rattle.build_meaning.specs.Derived.{EachOfMeaning}
use Rattle.build_incremental.specs.Joins.{Anyhow}
use Rattle.task_trait.specs.declared.tools.ToolAnswer.{ToolAnswer}
use Rattle.task_trait.specs.declared.tools.ToolInput.{ToolInput}
use Rattle.request_machine.specs.Walk.{Site}
use Rattle.request_machine.specs.Worlds.{world_of}
use Rattle.build_declared.specs.Builds.{in_mode}
use Rattle.build_declared.specs.NoOlder.{IsNoOlder}
use Rattle.build_declared.specs.Settled.{FreeRunsKeepOff}
use Rattle.build_declared.specs.Skipped.{TakesLists, target_of, IsOfSkipped, SkippedAt}

-- In the tree each output of a piece of the clean build, which comes to this, is no older than its
-- inputs; and the runs without a piece write or remove no input and no output of a piece.
pub record IsUpToDate (tools : Name → ToolInput → ToolAnswer) (w : World)
    (clean : Given Site ToolInput RequestResult) : Type 0 where
  pub no_older : IsNoOlder tools w.tree.files (world_of tools (in_mode Clean w)) clean.value
      clean.journal
  pub keep_off : FreeRunsKeepOff tools w.tree.files Clean clean.demand

-- A build skips each piece. Each of its bodies is skipped, if it is of a target with Inputs and
-- Outputs; so such a run uses no tool; and each record of the last journal, from which the lines of
-- the build are printed, says so.
pub record SkipsEach (tools : Name → ToolInput → ToolAnswer) (w : World)
    (out : Given Site ToolInput RequestResult) : Type 0 where
  pub bodies : EachOfMeaning (world_of tools w)
      (λ site id from made. SkippedAt tools w.tree.files site.target site.scope id from made)
      Anyhow (λ key. Unit {0}) out.value out.journal
  pub uses_none : (site : Site) (run : RunId) (from : Journal) (made : Record)
      (uses : List (ToolUse ToolInput)) → In (built site run from made uses) out.demand →
      (target : UsedTarget) → target_of w.tree.files run ≡ Some target → TakesLists target →
      IsOfSkipped tools w.tree.files target run made × (uses ≡ [])
  pub records : (run : RunId) (made : Record) → In (ended run made) out.journal →
      (target : UsedTarget) → target_of w.tree.files run ≡ Some target → TakesLists target →
      IsOfSkipped tools w.tree.files target run made
