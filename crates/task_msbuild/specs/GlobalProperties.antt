-- The global properties that a project is called with. (MSBuild task; MSBuild properties, global
-- properties)
use Rattle.std.specs.Prelude.{
  ℕ,
  List,
  [],
  ◌∷◌,
  Option,
  Some,
  None,
  option_and_then,
  unwrap_or,
  codes,
  if◌then◌else◌,
}
use Rattle.msb_laws.specs.Traverse.{traverse}
use Rattle.msb_laws.specs.Words.{Text, Name, Pairs}
use Rattle.msb_values.specs.Escapes.{escaped}
use Rattle.msb_values.specs.Keys.{key_of}
use Rattle.msb_values.specs.Lists.{list_of}
use Rattle.msb_values.specs.Pairs.{value_at, without_name, all_put}
use Rattle.msb_values.specs.declared.item.Item.{Item}
use Rattle.msb_expand.specs.Reserved.{is_reserved}
use Rattle.task_trait.specs.Params.{pair_of}

-- a property that the engine does not set itself, whose value is escaped as it enters (MSBuild
-- reserved and well-known properties)
abbrev pub if_free : Name × Text → Option (Name × Text)
if_free pair = if is_reserved pair.0 then None else Some (pair.0, escaped pair.1)

-- the property of an entry `N=V`
abbrev pub property_of : Text → Option (Name × Text)
property_of entry = option_and_then if_free (pair_of entry)

-- those of the entries of a list
abbrev pub properties_of : List Text → Option Pairs
properties_of entries = traverse property_of entries

-- those of the metadata AdditionalProperties of a project item, which is cut as a list
abbrev pub additional_of : Item → Option Pairs
additional_of item = properties_of
    (list_of (unwrap_or (value_at (codes "additionalproperties") item.meta) []))

-- the properties that are to be removed
abbrev pub removed_of : List Text → Option (List Name)
removed_of entries = traverse key_of entries

abbrev pub without_names : List Name → Pairs → Pairs
without_names [] globals = globals
without_names (name ∷ names) globals = without_names names (without_name name globals)

-- what all projects get: the caller's, less those that are removed, then Properties
abbrev pub shared_globals : List Name → Pairs → Pairs → Pairs
shared_globals removed properties globals = all_put (without_names removed globals) properties

-- what a project gets: these, then its AdditionalProperties
abbrev pub child_globals : Pairs → Pairs → Pairs
child_globals shared additional = all_put shared additional
