-- How printed text names a run: a target of an instance. (MSBuild command-line reference; MSBuild
-- task.)
use Rattle.std.specs.Prelude.{◌++◌, codes}
use Rattle.msb_laws.specs.Words.{Text}
use Rattle.msb_values.specs.InstanceKeys.{key_text}
use Rattle.result_cache.specs.declared.run.RunId.{RunId}

abbrev pub run_text : RunId → Text
run_text run = key_text run.instance ++ codes " : " ++ run.target
