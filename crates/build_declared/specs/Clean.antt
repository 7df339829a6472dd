-- What a build has to do with the clean build of the same files. (Incremental builds)
use Rattle.std.specs.Prelude.{◌≡◌, List}
use Rattle.msb_laws.specs.Words.{Name, Path}
use Rattle.msb_values.specs.declared.mode.Mode.TheVariants.{Clean}
use Rattle.file_store.specs.declared.tree.File.{File}
use Rattle.build_world.specs.declared.world.World.{World}
use Rattle.result_cache.specs.declared.request.RequestResult.{RequestResult}
use Rattle.build_meaning.specs.Meaning.{Given}
use Rattle.build_incremental.specs.Alike.{seen}
use Rattle.task_trait.specs.declared.tools.ToolAnswer.{ToolAnswer}
use Rattle.task_trait.specs.declared.tools.ToolInput.{ToolInput}
use Rattle.request_machine.specs.Walk.{Site}
use Rattle.request_machine.specs.Worlds.{world_of}
use Rattle.build_declared.specs.Written.{bytes_in}
use Rattle.build_declared.specs.Declared.{IsDeclared}
use Rattle.build_declared.specs.Fresh.{IsFresh}
use Rattle.build_declared.specs.Builds.{in_mode}

-- the clean build of what a build is given, which comes to this, is declared and fresh
pub record IsTrustworthy (tools : Name → ToolInput → ToolAnswer) (w : World)
    (clean : Given Site ToolInput RequestResult) : Type 0 where
  pub declared : IsDeclared tools w.tree.files (world_of tools (in_mode Clean w)) clean
  pub fresh : IsFresh tools w.tree.files (world_of tools (in_mode Clean w)) clean.value
      clean.journal

-- a build gives what the clean one gives: the same result, and then each path has the same bytes
pub record GivesClean (files : List File) (out clean : Given Site ToolInput RequestResult)
    : Type 0 where
  pub result : out.value ≡ clean.value
  pub contents : (path : Path) →
      seen (bytes_in files) out.journal path ≡ seen (bytes_in files) clean.journal path
