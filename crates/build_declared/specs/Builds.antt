-- The world of a build by its files, its projects and its mode. (MSBuild command-line reference)
use Rattle.std.specs.Prelude.{List, Result}
use Rattle.msb_laws.specs.Words.{Name}
use Rattle.msb_values.specs.declared.mode.Mode.{Mode}
use Rattle.file_store.specs.declared.tree.File.{File}
use Rattle.build_world.specs.Instances.{Instance}
use Rattle.build_world.specs.declared.world.World.{World as Build}
use Rattle.result_cache.specs.declared.request.RequestKey.{RequestKey}
use Rattle.build_meaning.specs.Walk.{Reply}
use Rattle.build_meaning.specs.World.{World}
use Rattle.task_trait.specs.declared.tools.ToolAnswer.{ToolAnswer}
use Rattle.task_trait.specs.declared.tools.ToolInput.{ToolInput}
use Rattle.request_machine.specs.Walk.{Site}
use Rattle.request_machine.specs.Worlds.{request_by}

-- the world, where a project's evaluation looks at the files and its key alone
abbrev pub world_by : (Name → ToolInput → ToolAnswer) → List File → RequestKey →
    (RequestKey → Result Instance Reply) → Mode → World Site ToolInput ToolAnswer
world_by tools files root instances mode = record {
  root = root;
  tools = tools;
  walks = λ key journal. request_by files mode key journal (instances key);
}

-- the same build in a mode
abbrev pub in_mode : Mode → Build → Build
in_mode mode w = record w { mode = mode }
