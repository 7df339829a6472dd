-- What an act does to its path. (MSBuild Delete task; MSBuild WriteLinesToFile task.)
use Rattle.std.specs.Prelude.{Option, Some, None}
use Rattle.msb_laws.specs.Words.{Path, Text}
use Rattle.msb_values.specs.declared.act.Act.{Act}
use Rattle.msb_values.specs.declared.act.Act.TheVariants.{Write, Remove}

-- the path that is written or removed
abbrev pub act_path : Act → Path
act_path (Write put) = put.path
act_path (Remove path) = path

-- the bytes that the path then has, and none where it is removed
abbrev pub act_bytes : Act → Option Text
act_bytes (Write put) = Some put.bytes
act_bytes (Remove path) = None
