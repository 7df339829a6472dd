-- The values of an object's members, by the keys that an element may have.
use Rattle.std.specs.Prelude.{
  ◌≡◌,
  true,
  false,
  Option,
  Some,
  None,
  option_map,
  if◌then◌else◌,
  codes,
}
use Rattle.std.specs.Str.{bytes_eq}
use Rattle.msb_laws.specs.Words.{Text}
use Rattle.serde_json.specs.Data.{Members, object}
use Rattle.serde_json.specs.Find.{get_member}
use Rattle.serde_json.specs.View.{view as value_of}
use Rattle.serde_json.specs.declared.value.Value.{Value}
use Rattle.msb_elements.specs.Forms.{has_element_members}
use Rattle.msb_elements.specs.Stands.{or_else}
use Rattle.msb_elements.specs.declared.parts.Values.{Values}

-- of equal keys the first counts
abbrev pub kept_at : Text → Text → Value → Option Value → Option Value
kept_at own key value before = if bytes_eq own key then or_else before (Some value) else before

abbrev pub with_member : Text → Value → Values → Values
with_member key value values = record {
  name = kept_at (codes "e") key value values.name;
  attributes = kept_at (codes "a") key value values.attributes;
  text = kept_at (codes "t") key value values.text;
  entries = kept_at (codes "c") key value values.entries;
}

pub record AreValues (values : Values) (ms : Members) : Type 0 where
  pub only : has_element_members (object ms) ≡ true
  pub name : option_map value_of values.name ≡ get_member (codes "e") ms
  pub attributes : option_map value_of values.attributes ≡ get_member (codes "a") ms
  pub text : option_map value_of values.text ≡ get_member (codes "t") ms
  pub entries : option_map value_of values.entries ≡ get_member (codes "c") ms

-- the values at the keys, or none where the members are not an element's
abbrev pub Sorts : Option Values → Members → Type 0
Sorts None ms = has_element_members (object ms) ≡ false
Sorts (Some values) ms = AreValues values ms
