-- What is printed of a build that is refused while it goes on. (MSBuild command-line reference;
-- MSBuild task.)
use Rattle.std.specs.Prelude.{List, ◌++◌, codes}
use Rattle.std.specs.List.{flat_map}
use Rattle.msb_laws.specs.Words.{Text}
use Rattle.msb_values.specs.InstanceKeys.{key_text}
use Rattle.msb_values.specs.declared.key.InstanceKey.{InstanceKey}
use Rattle.result_cache.specs.declared.run.RunId.{RunId}
use Rattle.result_cache.specs.declared.request.RequestKey.{RequestKey}
use Rattle.build_report.specs.Line.{line}
use Rattle.build_report.specs.Runs.{run_text}

-- a run of a circle
abbrev pub circle_line : RunId → Text
circle_line run = line (codes "  " ++ run_text run)

-- runs of which each waits for the next
abbrev pub circular_text : List RunId → Text
circular_text runs = line (codes "circular request") ++ flat_map circle_line runs

-- an instance
abbrev pub instance_line : InstanceKey → Text
instance_line key = line (codes "  " ++ key_text key)

-- a request of a chain, by its instance
abbrev pub request_line : RequestKey → Text
request_line key = instance_line key.instance

-- requests of which each calls the next, too many of them
abbrev pub too_deep_text : List RequestKey → Text
too_deep_text keys = line (codes "too deep") ++ flat_map request_line keys

-- the instance that is one too many
abbrev pub too_many_text : InstanceKey → Text
too_many_text key = line (codes "too many instances") ++ instance_line key
