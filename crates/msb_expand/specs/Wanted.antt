-- What an item function wants of a metadata's text. (Item functions)
use Rattle.std.specs.Prelude.{Bool}
use Rattle.std.specs.Str.{bytes_eq}
use Rattle.msb_laws.specs.Words.{Text}
use Rattle.msb_values.specs.Folded.{folded_bytes}
use Rattle.msb_expand.specs.declared.filters.Wanted.{Wanted}
use Rattle.msb_expand.specs.declared.filters.Wanted.TheVariants.{Some, Value}
use Rattle.msb_expand.specs.Functions.{is_some_text}

abbrev pub passes : Wanted → Text → Bool
passes Some text = is_some_text text
passes (Value folded) text = bytes_eq folded (folded_bytes text)
