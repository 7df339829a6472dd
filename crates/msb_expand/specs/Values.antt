-- The text and the list that an expression denotes in a scene, or the first fault from the left.
-- (MSBuild properties; MSBuild items)
use Rattle.std.specs.Prelude.{
  ℕ,
  ◌+◌,
  nat_lt,
  ◌==◌,
  not,
  Bool,
  true,
  false,
  List,
  [],
  ◌∷◌,
  ◌++◌,
  length,
  map,
  filter,
  Option,
  Some,
  None,
  Result,
  Ok,
  Err,
  codes,
  if◌then◌else◌,
}
use Rattle.std.specs.List.{list_all, slice_split, join_by, flat_map, sum}
use Rattle.msb_laws.specs.Words.{Text, Name}
use Rattle.msb_values.specs.Lists.{is_list_space, trimmed}
use Rattle.msb_values.specs.declared.item.Item.{Item}
use Rattle.msb_expression.specs.declared.expression.Piece.{Piece}
use Rattle.msb_expression.specs.declared.expression.Step.{Step}
use Rattle.msb_expression.specs.declared.expression.Part.{Part}
use Rattle.msb_expand.specs.declared.entry.Entry.{Entry}
use Rattle.msb_expand.specs.declared.faults.ExpandFault.{ExpandFault}
use Rattle.msb_expand.specs.declared.faults.ExpandFault.TheVariants.{TooLong, MixedList}
use Rattle.msb_values.specs.Keys.{key_of}
use Rattle.msb_laws.specs.Results.{and_then, map_ok}
use Rattle.msb_expand.specs.Limits.{limit, grown_by}
use Rattle.msb_expand.specs.Scenes.{Scene, items_at}
use Rattle.msb_expand.specs.Functions.{after_steps, quoted_value, plain_item}
use Rattle.msb_expand.specs.Tokens.{Token, written, referred, faulty, tokens}

abbrev pub named_items : Scene → Option Name → List Item
named_items scene (Some kind) = items_at scene kind
named_items scene None = []

-- the items of a reference, after its steps
abbrev pub referred_items : Scene → Name → List Step → Result (List Item) ExpandFault
referred_items scene kind steps = after_steps scene steps (named_items scene (key_of kind))

-- the separator, or `;`
abbrev pub separator_of : Scene → Option (List Piece) → Text
separator_of scene None = codes ";"
separator_of scene (Some pieces) = quoted_value scene pieces

-- identities joined, the empty ones too
abbrev pub joined : Text → List Item → Text
joined separator items = join_by (λ item. item.ident) separator items

abbrev pub token_text : Scene → Token → Result Text ExpandFault
token_text scene (written text) = Ok text
token_text scene (referred kind steps separator) = map_ok (joined (separator_of scene separator))
    (referred_items scene kind steps)
token_text scene (faulty fault) = Err fault

-- the text of an expression
abbrev pub text_value : Scene → List Part → Result Text ExpandFault
text_value scene parts = grown_by (token_text scene) [] (tokens scene parts)

-- An entry of a list is written as text, or given by a reference, which makes no pattern of it.
abbrev pub entry_of : Bool → Item → Entry
entry_of is_written item = record { item = item; written = is_written }

-- An entry as far as it is read: text, or the items of a reference that nothing but spaces may
-- stand beside.
pub data OpenEntry : Type 0 where
  begun : Text → OpenEntry
  given : List Item → OpenEntry

-- what was read of a list: whole entries, and the entry that is open
pub record Reading : Type 0 where
  pub whole : List Entry
  pub entry : OpenEntry

abbrev pub reading : List Entry → OpenEntry → Reading
reading whole entry = record { whole = whole; entry = entry }

abbrev pub is_blank : Text → Bool
is_blank text = list_all is_list_space text

-- an item of this text, unless it is empty
abbrev pub text_entry : Bool → Text → List Entry
text_entry is_written [] = []
text_entry is_written (b ∷ bs) = entry_of is_written (plain_item (b ∷ bs)) ∷ []

-- an empty entry is dropped, and so is an item of empty identity
abbrev pub entries_in : OpenEntry → List Entry
entries_in (begun piece) = text_entry true (trimmed piece)
entries_in (given items) = map (entry_of false)
    (filter (λ item. not (length item.ident == 0)) items)

-- the bytes of the identities, with one more for each
abbrev pub size_of : List Entry → ℕ
size_of entries = sum (map (λ entry. length entry.item.ident + 1) entries)

abbrev pub if_small : List Entry → Result (List Entry) ExpandFault
if_small entries = if nat_lt limit (size_of entries) then Err TooLong else Ok entries

-- the open entry is whole
abbrev pub closed : Reading → Result (List Entry) ExpandFault
closed r = if_small (r.whole ++ entries_in r.entry)

-- text without `;` behind an entry
abbrev pub entry_with : OpenEntry → Text → Result OpenEntry ExpandFault
entry_with (begun piece) more = Ok (begun (piece ++ more))
entry_with (given items) more = if is_blank more then Ok (given items) else Err MixedList

abbrev pub with_text : Reading → Text → Result Reading ExpandFault
with_text r more = map_ok (reading r.whole) (entry_with r.entry more)

-- text behind a `;`, which closes the entry before it
abbrev pub next_text : Reading → Text → Result Reading ExpandFault
next_text r piece = map_ok (λ whole. reading whole (begun piece)) (closed r)

abbrev pub with_next : Reading → List Text → Result Reading ExpandFault
with_next r [] = Ok r
with_next r (piece ∷ pieces) = and_then (next_text r piece) (λ s. with_next s pieces)

-- text that is cut at each `;`
abbrev pub with_pieces : Reading → List Text → Result Reading ExpandFault
with_pieces r [] = Ok r
with_pieces r (piece ∷ pieces) = and_then (with_text r piece) (λ s. with_next s pieces)

-- the joined text of a reference with a separator is one item, in which `;` cuts nothing
abbrev pub uncut_byte : ℕ → Text
uncut_byte b = if b == 59 then codes "%3B" else b ∷ []

abbrev pub one_item : Text → List Item
one_item joined_text = plain_item (flat_map uncut_byte joined_text) ∷ []

abbrev pub given_items : Scene → Name → List Step → Option (List Piece)
    → Result (List Item) ExpandFault
given_items scene kind steps None = referred_items scene kind steps
given_items scene kind steps (Some separator) = map_ok
    (λ list. one_item (joined (quoted_value scene separator) list))
    (referred_items scene kind steps)

-- whether a reference may stand behind an entry
abbrev pub is_open : OpenEntry → Bool
is_open (begun piece) = is_blank piece
is_open (given items) = false

abbrev pub with_reference : Bool → Scene → Reading → Name → List Step → Option (List Piece)
    → Result Reading ExpandFault
with_reference true scene r kind steps separator = map_ok (λ items. reading r.whole (given items))
    (given_items scene kind steps separator)
with_reference false scene r kind steps separator = Err MixedList

abbrev pub with_token : Scene → Reading → Token → Result Reading ExpandFault
with_token scene r (written text) = with_pieces r (slice_split (λ b. b == 59) text)
with_token scene r (referred kind steps separator) = with_reference (is_open r.entry) scene r kind
    steps separator
with_token scene r (faulty fault) = Err fault

abbrev pub read_on : Scene → Reading → List Token → Result (List Entry) ExpandFault
read_on scene r [] = closed r
read_on scene r (token ∷ tokens) = and_then (with_token scene r token) (λ s. read_on scene s tokens)

-- the entries of an expression, as a list
abbrev pub entries_value : Scene → List Part → Result (List Entry) ExpandFault
entries_value scene parts = read_on scene (reading [] (begun [])) (tokens scene parts)

abbrev pub items_of : List Entry → List Item
items_of entries = map (λ entry. entry.item) entries

-- the list of an expression: the items of its entries
abbrev pub list_value : Scene → List Part → Result (List Item) ExpandFault
list_value scene parts = map_ok items_of (entries_value scene parts)
