-- What an element is where it stands, by its name and its parent.
use Rattle.std.specs.Prelude.{
  List,
  [],
  ◌∷◌,
  ◌||◌,
  Bool,
  false,
  Option,
  Some,
  None,
  codes,
  if◌then◌else◌,
}
use Rattle.std.specs.Str.{bytes_eq}
use Rattle.std.specs.List.{list_any}
use Rattle.msb_laws.specs.Words.{Name}
use Rattle.msb_elements.specs.Rows.{Children, these, these_or_new, each, any, row_of, table}
use Rattle.msb_elements.specs.declared.kind.Kind.{Kind}
use Rattle.msb_elements.specs.declared.kind.Kind.TheVariants.{Project}
use Rattle.msb_elements.specs.declared.kind.Role.{Role}
use Rattle.msb_elements.specs.declared.kind.Role.TheVariants.{Known}
use Rattle.msb_elements.specs.declared.kind.Standing.{Standing}
use Rattle.msb_elements.specs.declared.kind.Standing.TheVariants.{Stands, Misplaced, Unknown}

abbrev pub is_listed : Name → List Name → Bool
is_listed name names = list_any (bytes_eq name) names

-- `Label` and what the row lists is known, and all else is what the row says
abbrev pub role_of : Kind → Name → Role
role_of kind name = if bytes_eq name (codes "Label")
    || is_listed name (row_of kind).attributes then Known else (row_of kind).others

abbrev pub has_tag : Name → Option Name → Bool
has_tag name None = false
has_tag name (Some tag) = bytes_eq name tag

-- the first of these that has the name
abbrev pub kind_named : Name → List Kind → Option Kind
kind_named name [] = None
kind_named name (kind ∷ kinds) = if has_tag name (row_of kind).tag then Some kind else kind_named
    name kinds

-- the names of the table are no new ones
abbrev pub new_kind : Option Kind → Kind → Option Kind
new_kind None kind = Some kind
new_kind (Some other) kind = None

abbrev pub or_else : {A : Type 0} → Option A → Option A → Option A
or_else None other = other
or_else (Some x) other = Some x

-- which child the name stands for
abbrev pub child_among : Children → Name → Option Kind
child_among (these kinds) name = kind_named name kinds
child_among (these_or_new kinds kind) name = or_else (kind_named name kinds)
    (new_kind (kind_named name table) kind)
child_among (each kind) name = Some kind
child_among any name = None

-- the root is a Project
abbrev pub children_of : Option Kind → Children
children_of None = these (Project ∷ [])
children_of (Some kind) = (row_of kind).children

abbrev pub child_kind : Option Kind → Name → Option Kind
child_kind parent name = child_among (children_of parent) name

-- a name of the table that may not stand there, or one that the table has nowhere, which as a root
-- is misplaced too
abbrev pub elsewhere : Option Kind → Option Kind → Standing
elsewhere parent (Some kind) = Misplaced (Some kind)
elsewhere None None = Misplaced None
elsewhere (Some kind) None = Unknown

abbrev pub stands_as : Option Kind → Standing → Standing
stands_as (Some kind) other = Stands kind
stands_as None other = other

abbrev pub standing_of : Option Kind → Name → Standing
standing_of parent name = stands_as (child_kind parent name)
    (elsewhere parent (kind_named name table))
