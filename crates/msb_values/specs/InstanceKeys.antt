-- How a report names an instance of a project. (MSBuild task; MSBuild properties, global
-- properties)
use Rattle.std.specs.Prelude.{[], ◌∷◌, ◌++◌, codes}
use Rattle.std.specs.List.{flat_map}
use Rattle.msb_laws.specs.Words.{Name, Pairs, Text}
use Rattle.msb_values.specs.declared.key.InstanceKey.{InstanceKey}

abbrev pub pair_text : Name × Text → Text
pair_text p = p.0 ++ codes "=" ++ p.1

abbrev pub next_pair : Name × Text → Text
next_pair p = codes ";" ++ pair_text p

-- the global properties, if there are any
abbrev pub globals_text : Pairs → Text
globals_text [] = []
globals_text (p ∷ ps) = codes " [" ++ pair_text p ++ flat_map next_pair ps ++ codes "]"

abbrev pub key_text : InstanceKey → Text
key_text key = key.path ++ globals_text key.globals
