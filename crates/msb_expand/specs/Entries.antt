-- A list as far as it is read, as the code holds it.
use Rattle.std.specs.Prelude.{
  ℕ,
  ◌+◌,
  nat_lt,
  List,
  [],
  ◌∷◌,
  length,
  map,
  Result,
  Ok,
  Err,
  if◌then◌else◌,
}
use Rattle.msb_laws.specs.Words.{Text}
use Rattle.msb_expand.specs.declared.open_entry.OpenEntry.{OpenEntry as Open}
use Rattle.msb_expand.specs.declared.open_entry.OpenEntry.TheVariants.{Begun, Given, Joined}
use Rattle.msb_expand.specs.declared.reading.Reading.{Reading as SoFar}
use Rattle.msb_expand.specs.declared.faults.ExpandFault.{ExpandFault}
use Rattle.msb_expand.specs.declared.faults.ExpandFault.TheVariants.{TooLong}
use Rattle.msb_laws.specs.Results.{and_then}
use Rattle.msb_expand.specs.Limits.{limit}
use Rattle.msb_expand.specs.Scenes.{Scene}
use Rattle.msb_expand.specs.Seen.{seen_item}
use Rattle.msb_expand.specs.Tokens.{Token}
use Rattle.msb_expand.specs.Values.{
  OpenEntry,
  begun,
  given,
  Reading,
  reading,
  one_item,
  joined,
  with_token,
}

abbrev pub open_entry_of : Open → OpenEntry
open_entry_of (Begun text) = begun text
open_entry_of (Given items) = given (map seen_item items.items)
open_entry_of (Joined items separator) = given
    (one_item (joined separator (map seen_item items.items)))

abbrev pub reading_of : SoFar → Reading
reading_of r = reading r.whole (open_entry_of r.entry)

-- what is read behind what was read
abbrev pub with_tokens : Scene → Reading → List Token → Result Reading ExpandFault
with_tokens scene r [] = Ok r
with_tokens scene r (token ∷ tokens) = and_then (with_token scene r token)
    (λ s. with_tokens scene s tokens)

-- the size of a list with one more identity, where it is not too long
abbrev pub size_with : ℕ → Text → Result ℕ ExpandFault
size_with size ident = if nat_lt limit (size + (length ident + 1)) then Err TooLong else Ok
    (size + (length ident + 1))
