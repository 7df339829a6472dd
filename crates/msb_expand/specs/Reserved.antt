-- The values of properties in a scene. (MSBuild reserved and well-known properties)
use Rattle.std.specs.Prelude.{[], Option, Some, None}
use Rattle.msb_laws.specs.Words.{Text, Name}
use Rattle.msb_values.specs.Escapes.{escaped}
use Rattle.msb_values.specs.Pairs.{value_at}
use Rattle.msb_values.specs.Keys.{key_of}
pub use Rattle.msb_reserved.specs.Reserved.{
  folder_of,
  from_root,
  reserved,
  is_reserved,
  reserved_value,
}
use Rattle.msb_reserved.specs.declared.reserved.Reserved.{Reserved}
use Rattle.msb_expand.specs.Scenes.{Scene}

-- the engine's value, else the project's, else empty
abbrev pub value_or : Scene → Option Reserved → Option Text → Text
value_or scene (Some property) own = escaped (reserved_value scene.project scene.file property)
value_or scene None (Some text) = text
value_or scene None None = []

-- the value of the property of a key
abbrev pub property_at : Scene → Option Name → Text
property_at scene (Some key) = value_or scene (value_at key reserved)
    (value_at key scene.scope.props)
property_at scene None = []

-- the value of a property
abbrev pub property_of : Scene → Name → Text
property_of scene name = property_at scene (key_of name)
