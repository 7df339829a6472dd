-- The faults of an element where it stands, and of these the least. (MSBuild project file schema
-- reference.)
use Rattle.std.specs.Prelude.{
  ℕ,
  List,
  [],
  ◌∷◌,
  ◌&&◌,
  ◌||◌,
  ◌==◌,
  Bool,
  true,
  false,
  not,
  length,
  is_some,
  Option,
  Some,
  None,
  option_map,
  codes,
  if◌then◌else◌,
}
use Rattle.std.specs.Str.{bytes_eq, str_to_ascii_lowercase}
use Rattle.std.specs.Borrow.{Bor}
use Rattle.std.specs.List.{list_any}
use Rattle.msb_laws.specs.Words.{Name, Text}
use Rattle.msb_values.specs.Names.{is_name_byte, bad_place}
use Rattle.msb_values.specs.Pairs.{value_at}
use Rattle.msb_elements.specs.Trees.{Tree, no_element, element, Trees, no_trees, further}
use Rattle.msb_elements.specs.Rows.{Need, Clash, NameValue, row_of}
use Rattle.msb_elements.specs.Stands.{role_of, or_else}
use Rattle.msb_elements.specs.declared.kind.Kind.{Kind}
use Rattle.msb_elements.specs.declared.kind.Kind.TheVariants.{Choose, Otherwise, OnError}
use Rattle.msb_elements.specs.declared.kind.Role.{Role}
use Rattle.msb_elements.specs.declared.kind.Role.TheVariants.{Named, NotAllowed}
use Rattle.msb_elements.specs.declared.kind.Standing.{Standing}
use Rattle.msb_elements.specs.declared.kind.Standing.TheVariants.{Stands, Misplaced, Unknown}
use Rattle.msb_elements.specs.declared.errors.ReadFault.{ReadFault}
use Rattle.msb_elements.specs.declared.errors.ReadFault.TheVariants as fault

abbrev pub Pair : Type 0
Pair = Name × Text

abbrev pub is_not_allowed : Role → Bool
is_not_allowed NotAllowed = true
is_not_allowed _ = false

abbrev pub is_named : Role → Bool
is_named Named = true
is_named _ = false

-- UnknownElement: an attribute that the row does not allow, or a text where it gives none
abbrev pub has_not_allowed : Kind → List Pair → Text → Bool
has_not_allowed kind attributes text = list_any (λ pair. is_not_allowed (role_of kind pair.0))
    attributes || (not (length text == 0) && not (row_of kind).text)

abbrev pub is_on_error : Option Kind → Bool
is_on_error (Some OnError) = true
is_on_error _ = false

-- an entry that is no element is no When
abbrev pub is_when : Tree → Bool
is_when no_element = false
is_when (element name attributes text entries) = bytes_eq name (codes "When")

-- the first child is another than a When
abbrev pub begins_otherwise : Trees → Bool
begins_otherwise no_trees = false
begins_otherwise (further t ts) = not (is_when t)

-- Misplaced: an Otherwise that is not last, a Choose that begins with another child than When, or a
-- child other than OnError after an OnError
abbrev pub is_out_of_order : Kind → Bool → Bool → Trees → Bool
is_out_of_order Otherwise after last entries = not last || after
is_out_of_order Choose after last entries = begins_otherwise entries || after
is_out_of_order OnError after last entries = false
is_out_of_order _ after last entries = after

abbrev pub has : Name → List Pair → Bool
has name attributes = is_some (value_at name attributes)

abbrev pub has_or_no : Option Name → List Pair → Bool
has_or_no None attributes = true
has_or_no (Some name) attributes = has name attributes

abbrev pub first_name : List Name → Option Name
first_name [] = None
first_name (name ∷ names) = Some name

abbrev pub first_unmet : List Need → List Pair → Option Name
first_unmet [] attributes = None
first_unmet (need ∷ needs) attributes =
    if has_or_no need.beside attributes && not (list_any (λ name. has name attributes) need.one_of)
    then first_name need.one_of else first_unmet needs attributes

-- MissingAttribute: an attribute that the row needs, or the When of a Choose without children
abbrev pub missing_in : Kind → List Pair → Trees → Option Name
missing_in Choose attributes no_trees = Some (codes "When")
missing_in Choose attributes (further t ts) = None
missing_in kind attributes entries = first_unmet (row_of kind).needs attributes

abbrev pub is_clash : List Pair → Name → Name → Clash → Bool
is_clash attributes one other clash = bytes_eq one clash.first && bytes_eq other clash.second
    && not (is_some clash.unless && has_or_no clash.unless attributes)

-- the name, in lower case
abbrev pub is_same : Name → Name → Bool
is_same key name = bytes_eq (str_to_ascii_lowercase name) key

-- two metadata or parameters of one name without case, or two that the row keeps apart
abbrev pub apart_as : Role → Kind → List Pair → Name → Name → Bool
apart_as Named kind attributes one other = is_named (role_of kind other)
    && is_same (str_to_ascii_lowercase one) other
apart_as _ kind attributes one other = list_any (is_clash attributes one other)
    (row_of kind).clashes

abbrev pub are_apart : Kind → List Pair → Name → Name → Bool
are_apart kind attributes one other = apart_as (role_of kind one) kind attributes one other

abbrev pub first_other : (Name → Bool) → List Pair → Option Name
first_other test [] = None
first_other test (pair ∷ pairs) = if test pair.0 then Some pair.0 else first_other test pairs

-- the first two names that may not stand together
abbrev pub first_two : (Name → Name → Bool) → List Pair → Option (Name × Name)
first_two apart [] = None
first_two apart (pair ∷ pairs) = or_else
    (option_map (λ other. (pair.0, other)) (first_other (apart pair.0) pairs))
    (first_two apart pairs)

-- BothAttributes: the first two attributes that may not stand together
abbrev pub both_in : Kind → List Pair → Option (Name × Name)
both_in kind attributes = first_two (are_apart kind attributes) attributes

-- two names behind references
abbrev pub names_of : Option (Bor Name × Bor Name) → Option (Name × Name)
names_of None = None
names_of (Some two) = Some (two.0.now, two.1.now)

abbrev pub bad_value : List NameValue → Pair → Option ℕ
bad_value [] pair = None
bad_value (value ∷ values) pair = if bytes_eq pair.0 value.attribute then bad_place value.may_follow
    pair.1 else bad_value values pair

-- the name of a metadata or a parameter, or a value that is a name
abbrev pub bad_attribute : Kind → Pair → Option ℕ
bad_attribute kind pair = if is_named (role_of kind pair.0) then bad_place is_name_byte pair.0 else
    bad_value (row_of kind).values pair

abbrev pub first_bad : Kind → List Pair → Option ℕ
first_bad kind [] = None
first_bad kind (pair ∷ pairs) = or_else (bad_attribute kind pair) (first_bad kind pairs)

-- an element without a tag is a property, an item, a metadata or a task of its name
abbrev pub bad_own_name : Kind → Name → Option ℕ
bad_own_name kind name = if is_some (row_of kind).tag then None else bad_place is_name_byte name

-- BadName: a name that is none
abbrev pub bad_name_in : Kind → Name → List Pair → Option ℕ
bad_name_in kind name attributes = or_else (bad_own_name kind name) (first_bad kind attributes)

abbrev pub fault_of_attributes : Kind → List ℕ → Name → List Pair → Trees → Option ReadFault
fault_of_attributes kind place name attributes entries =
    or_else
    (option_map (λ missed. fault.MissingAttribute place missed)
    (missing_in kind attributes entries))
    (or_else (option_map (λ two. fault.BothAttributes place two.0 two.1) (both_in kind attributes))
    (option_map (λ at. fault.BadName place at) (bad_name_in kind name attributes)))

-- of the faults of an element that may stand there the least
abbrev pub fault_of_kind : Kind → Bool → Bool → List ℕ → Name → List Pair → Text → Trees
    → Option ReadFault
fault_of_kind kind after last place name attributes text entries =
    if has_not_allowed kind attributes text then Some (fault.UnknownElement place) else
    if is_out_of_order kind after last entries then Some (fault.Misplaced place) else
    fault_of_attributes kind place name attributes entries

-- the least fault of an element with these entries below it, after an OnError or not, and as the
-- last child or not
abbrev pub own_fault : Standing → Bool → Bool → List ℕ → Name → List Pair → Text → Trees
    → Option ReadFault
own_fault (Stands kind) after last place name attributes text entries = fault_of_kind kind after
    last place name attributes text entries
own_fault (Misplaced (Some kind)) after last place name attributes text entries =
    if has_not_allowed kind attributes text then Some (fault.UnknownElement place) else Some
    (fault.Misplaced place)
own_fault (Misplaced None) after last place name attributes text entries = Some
    (fault.Misplaced place)
own_fault Unknown after last place name attributes text entries = Some (fault.UnknownElement place)
