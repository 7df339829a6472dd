-- The tree that a JSON value says: what each entry is as an element, or that it is none.
-- (MSBuild project file schema reference.)
--
-- An entry is no element by what it has itself. What stands below it, an entry says on its own.
use Rattle.std.specs.Prelude.{Option, Some, None, option_and_then, if◌then◌else◌, codes}
use Rattle.std.specs.Str.{bytes_eq}
use Rattle.msb_laws.specs.Words.{Name, Pairs, Text}
use Rattle.serde_json.specs.Data.{
  Data,
  null,
  boolean,
  number,
  string,
  array,
  object,
  Items,
  no_items,
  item,
  Members,
  no_members,
  member,
}
use Rattle.serde_json.specs.Find.{as_str}
use Rattle.msb_elements.specs.Forms.{
  has_element_members,
  name_in,
  attributes_in,
  text_in,
  texts_at,
  text_at,
}

-- an element's name, its attributes in byte order of their names, its text and the entries that
-- stand below it
mutual
  pub data Tree : Type 0 where
    no_element : Tree
    element : (name : Name) → (attributes : Pairs) → (text : Text)
        → (entries : Trees) → Tree

  pub data Trees : Type 0 where
    no_trees : Trees
    further : Tree → Trees → Trees

abbrev pub grown_of : Option Name → Option Pairs → Option Text
    → Option Trees → Tree
grown_of (Some name) (Some attributes) (Some text) (Some entries) = element name attributes text
    entries
grown_of None attributes text entries = no_element
grown_of (Some name) None text entries = no_element
grown_of (Some name) (Some attributes) None entries = no_element
grown_of (Some name) (Some attributes) (Some text) None = no_element

-- the entry of an object, given the entries below it
abbrev pub tree_from : Data → Option Trees → Tree
tree_from d entries = if has_element_members d then grown_of (name_in d) (attributes_in d)
    (text_in d) entries else no_element

-- what a value is as an element, if it is one
abbrev mutual
  pub tree_of : Data → Tree
  tree_of (object ms) = tree_from (object ms) (entries_in_members ms)
  tree_of null = no_element
  tree_of (boolean b) = no_element
  tree_of (number n) = no_element
  tree_of (string s) = no_element
  tree_of (array ds) = no_element

  -- the value of the member `c`
  pub entries_in_members : Members → Option Trees
  entries_in_members no_members = Some no_trees
  entries_in_members (member key d ms) = if bytes_eq (codes "c") key then entries_at d else
      entries_in_members ms

  pub entries_at : Data → Option Trees
  entries_at (array ds) = Some (trees_of ds)
  entries_at null = None
  entries_at (boolean b) = None
  entries_at (number n) = None
  entries_at (string s) = None
  entries_at (object ms) = None

  pub trees_of : Items → Trees
  trees_of no_items = no_trees
  trees_of (item d ds) = further (tree_of d) (trees_of ds)

-- of an absent value, no entries
abbrev pub entries_if : Option Data → Option Trees
entries_if None = Some no_trees
entries_if (Some d) = entries_at d

abbrev pub as_element : Tree → Option Tree
as_element no_element = None
as_element (element name attributes text entries) = Some (element name attributes text entries)

-- the element of an object that has only members of an element, and these values at their keys
abbrev pub of_values : Option Data → Option Data → Option Data → Option Data → Option Tree
of_values name attributes text entries = as_element
    (grown_of (option_and_then as_str name) (texts_at attributes) (text_at text)
    (entries_if entries))
