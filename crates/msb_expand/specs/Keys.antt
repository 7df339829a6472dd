-- The key of a name, as the names of properties, item types and metadata are looked up. (MSBuild
-- properties)
use Rattle.std.specs.Prelude.{Option}
use Rattle.msb_laws.specs.Words.{Text, Name}
use Rattle.msb_values.specs.Keys as values

abbrev pub key_of : Text → Option Name
key_of name = values.key_of name
