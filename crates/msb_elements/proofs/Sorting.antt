-- The values of an object's members, one member after another.
use Rattle.std.proofs.Common.{
  ◌≡◌,
  ℕ,
  List,
  ◌∷◌,
  ◌&&◌,
  Bool,
  true,
  false,
  Option,
  Some,
  None,
  is_some,
  not,
  option_map,
  Ordering,
  Less,
  Equal,
  Greater,
  if◌then◌else◌,
  string_bytes,
  codes,
  refl,
  ◌∙◌,
}
use Rattle.std.proofs.lemmas.Map.Text.{is_eq-slice_cmp}
use Rattle.std.specs.Cmp.Lexicographic.{slice_cmp}
use Rattle.std.specs.Ordering.{nat_cmp, is_eq, match_ordering}
use Rattle.serde_json.specs.Data.{Data, Members}
use Rattle.serde_json.specs.Find.{get_member}
use Rattle.serde_json.specs.View.{view as value_of, members_view}
use Rattle.serde_json.specs.declared.value.Value.{Value}
use Rattle.msb_elements.specs.Forms.{has_element_keys, is_element_key}
use Rattle.msb_elements.specs.Sorted.{kept_at, with_member}
use Rattle.msb_elements.specs.Stands.{or_else}
use Rattle.msb_elements.specs.declared.parts.Values.{Values}
use Rattle.msb_elements.proofs.Fronts.{Entry}

slot_by : (o : Ordering) (slot : Option Value) (v : Value) (rest : Option Data)
    → or_else (option_map value_of slot) (match_ordering o rest (Some (value_of v)) rest)
    ≡ or_else (option_map value_of (if is_eq o then or_else slot (Some v) else slot)) rest
slot_by Less slot v rest = refl
slot_by Greater slot v rest = refl
slot_by Equal None v rest = refl
slot_by Equal (Some w) v rest = refl

slot_step : (own : List ℕ) (es rest : List Entry) (e : Entry) (slot : Option Value)
    (all : Option Data) → es ≡ e ∷ rest → all
    ≡ or_else (option_map value_of slot) (get_member own (members_view es))
    → all ≡ or_else (option_map value_of (kept_at own (string_bytes e.0) e.1 slot))
    (get_member own (members_view rest))
slot_step own es rest e slot all is so_far = so_far
    ∙ rw (is, ← is_eq-slice_cmp own (string_bytes e.0))
    (slot_by (slice_cmp nat_cmp own (string_bytes e.0)) slot e.1 _)

-- `values` has what stood before the entries that are left
pub record AreSoFar (values : Values) (es : List Entry) (ms : Members) : Type 0 where
  pub keys : has_element_keys ms ≡ has_element_keys (members_view es)
  pub name : get_member (codes "e") ms ≡ or_else (option_map value_of values.name)
      (get_member (codes "e") (members_view es))
  pub attributes : get_member (codes "a") ms ≡ or_else (option_map value_of values.attributes)
      (get_member (codes "a") (members_view es))
  pub text : get_member (codes "t") ms ≡ or_else (option_map value_of values.text)
      (get_member (codes "t") (members_view es))
  pub entries : get_member (codes "c") ms ≡ or_else (option_map value_of values.entries)
      (get_member (codes "c") (members_view es))

pub values_step : (values : Values) (es rest : List Entry) (e : Entry) (ms : Members)
    → es ≡ e ∷ rest → is_element_key (string_bytes e.0) ≡ true → AreSoFar values es ms
    → AreSoFar (with_member (string_bytes e.0) e.1 values) rest ms
values_step values es rest e ms is known so_far = record {
  keys = so_far.keys ∙ rw (is, known) refl;
  name = slot_step (codes "e") es rest e values.name _ is so_far.name;
  attributes = slot_step (codes "a") es rest e values.attributes _ is so_far.attributes;
  text = slot_step (codes "t") es rest e values.text _ is so_far.text;
  entries = slot_step (codes "c") es rest e values.entries _ is so_far.entries;
}

pub unknown_key : (es rest : List Entry) (e : Entry) (ms : Members) (b : Bool) → es ≡ e ∷ rest
    → is_element_key (string_bytes e.0) ≡ false
    → has_element_keys ms ≡ has_element_keys (members_view es) → (has_element_keys ms && b) ≡ false
unknown_key es rest e ms b is unknown so_far = rw (so_far, is, unknown) refl

pub or_else_none : (found : Option Data) → or_else found None ≡ found
or_else_none None = refl
or_else_none (Some d) = refl

seen : (slot : Option Value) → is_some (option_map value_of slot) ≡ is_some slot
seen None = refl
seen (Some v) = refl

-- whether a text stands beside entries
pub both_seen : (text entries : Option Value) (own other : Option Data)
    → own ≡ option_map value_of text → other ≡ option_map value_of entries
    → not (is_some own && is_some other) ≡ not (is_some text && is_some entries)
both_seen text entries own other first second = rw (first, second, seen text, seen entries) refl
