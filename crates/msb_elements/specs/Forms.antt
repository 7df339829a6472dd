-- The element form of a project file: the element that a JSON text stands for.
--
-- An element is an object with the members `e` (a text, its name), `a` (an object of texts, its
-- attributes), `t` (a text) and `c` (an array of elements). It has no other member, never both of
-- `t` and `c`, and always `e`. What is absent is empty.
use Rattle.std.specs.Prelude.{
  [],
  ◌∷◌,
  ◌&&◌,
  ◌||◌,
  Bool,
  true,
  false,
  not,
  Option,
  Some,
  None,
  is_some,
  option_map,
  option_and_then,
  if◌then◌else◌,
  codes,
}
use Rattle.std.specs.Option.{option_map_or}
use Rattle.std.specs.Str.{bytes_eq, is_utf8}
use Rattle.msb_laws.specs.Words.{Name, Pairs, Text}
use Rattle.serde_json.specs.Data.{Data, Members, no_members, member}
use Rattle.serde_json.specs.Find.{get, as_str, as_object}
use Rattle.serde_json.specs.Read.{read}

-- the JSON value that a file's bytes are, by `serde_json`, if they are one
unfoldable pub json_in : Text → Option Data
json_in bytes = if is_utf8 bytes then read bytes else None

abbrev pub is_element_key : Name → Bool
is_element_key key = bytes_eq key (codes "e") || bytes_eq key (codes "a")
    || bytes_eq key (codes "t") || bytes_eq key (codes "c")

-- every member is one that an element may have
abbrev pub has_element_keys : Members → Bool
has_element_keys no_members = true
has_element_keys (member key d ms) = is_element_key key && has_element_keys ms

-- the members, each of which is a text, in their order
abbrev pub texts_of : Members → Option Pairs
texts_of no_members = Some []
texts_of (member key d ms) = option_and_then
    (λ text. option_map (λ texts. (key, text) ∷ texts) (texts_of ms)) (as_str d)

abbrev pub name_in : Data → Option Name
name_in d = option_and_then as_str (get (codes "e") d)

-- of an absent value, none
abbrev pub texts_at : Option Data → Option Pairs
texts_at None = Some []
texts_at (Some d) = option_and_then texts_of (as_object d)

abbrev pub attributes_in : Data → Option Pairs
attributes_in d = texts_at (get (codes "a") d)

-- of an absent value, the empty one
abbrev pub text_at : Option Data → Option Text
text_at None = Some []
text_at (Some d) = as_str d

abbrev pub text_in : Data → Option Text
text_in d = text_at (get (codes "t") d)

-- no member of another key, and a text does not stand beside children
abbrev pub has_element_members : Data → Bool
has_element_members d = option_map_or has_element_keys (as_object d) false
    && not (is_some (get (codes "t") d) && is_some (get (codes "c") d))
