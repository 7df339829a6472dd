-- The targets of a project: the last element of each name, at the place of the first one.
-- (MSBuild targets; Target element; MSBuild documentation: target build order)
use Rattle.std.specs.Prelude.{
  ℕ,
  List,
  [],
  ◌∷◌,
  ◌&&◌,
  Bool,
  is_some,
  Option,
  Some,
  None,
  Result,
  Ok,
  codes,
  if◌then◌else◌,
}
use Rattle.std.specs.List.{list_any}
use Rattle.std.specs.Str.{bytes_eq, str_to_ascii_lowercase}
use Rattle.msb_laws.specs.Words.{Text, Name, Path}
use Rattle.msb_laws.specs.Results.{and_then, map_ok, all_ok}
use Rattle.msb_values.specs.Names.{bad_place, is_target_byte}
use Rattle.msb_elements.specs.Nodes.{name_of}
use Rattle.target_order.specs.declared.row.TargetRow.{TargetRow}
use Rattle.build_world.specs.declared.fault.EvalFault.{EvalFault}
use Rattle.build_world.specs.Elements.{At, attribute_of}
use Rattle.element_texts.specs.Contexts.{ElementContext, names_at}

-- a target's name and the element that is used
pub record Target : Type 0 where
  pub name : Name
  pub element : At

abbrev pub name_if : Text → Option ℕ → Option Name
name_if text None = Some (str_to_ascii_lowercase text)
name_if text (Some place) = None

abbrev pub name_read : Option Text → Option Name
name_read None = None
name_read (Some text) = name_if text (bad_place is_target_byte text)

abbrev pub target_name_of : At → Option Name
target_name_of e = if bytes_eq (name_of e.node) (codes "Target") then name_read
    (attribute_of (codes "Name") e) else None

-- in the place of the one of its name, or behind all others
abbrev pub put : List Target → Name → At → List Target
put [] name e = record { name = name; element = e } ∷ []
put (t ∷ ts) name e = if bytes_eq name t.name then record { name = t.name; element = e } ∷ ts else t
    ∷ put ts name e

abbrev pub put_if : List Target → Option Name → At → List Target
put_if targets None e = targets
put_if targets (Some name) e = put targets name e

abbrev pub targets_from : List Target → List At → List Target
targets_from targets [] = targets
targets_from targets (e ∷ es) = targets_from (put_if targets (target_name_of e) e) es

abbrev pub targets_of : List At → List Target
targets_of elements = targets_from [] elements

-- whether a Target element of the file has Returns, whether it is used or not
abbrev pub has_returns : Path → At → Bool
has_returns file e = bytes_eq e.file file && is_some (target_name_of e)
    && is_some (attribute_of (codes "Returns") e)

abbrev pub file_has_returns : List At → Path → Bool
file_has_returns elements file = list_any (has_returns file) elements

-- a target with those that it hooks on
abbrev pub row_of : ElementContext → Target → Result TargetRow EvalFault
row_of p target =
    and_then
    (names_at p target.element (attribute_of (codes "BeforeTargets") target.element)) (λ before.
    map_ok (λ after. record { name = target.name; before = before; after = after })
    (names_at p target.element (attribute_of (codes "AfterTargets") target.element)))

abbrev pub rows_of : ElementContext → List Target → Result (List TargetRow) EvalFault
rows_of p targets = all_ok (row_of p) targets

-- the names of DefaultTargets, or else the first target
abbrev pub first_name : List Target → List Name
first_name [] = []
first_name (t ∷ ts) = t.name ∷ []

abbrev pub default_or_first : List Name → List Target → List Name
default_or_first [] targets = first_name targets
default_or_first (name ∷ names) targets = name ∷ names
