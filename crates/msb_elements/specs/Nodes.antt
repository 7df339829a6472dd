-- An element of a project file, as plain data. (MSBuild project file schema reference.)
use Rattle.std.specs.Prelude.{ℕ, List, [], ◌∷◌}
use Rattle.msb_laws.specs.Words.{Name, Pairs, Text}

-- its place, its name, its attributes in byte order of their names, its text and its children
mutual
  pub data Node : Type 0 where
    node : (place : List ℕ) → (name : Name) → (attributes : Pairs) → (text : Text)
        → (children : Nodes) → Node

  pub data Nodes : Type 0 where
    no_nodes : Nodes
    more : Node → Nodes → Nodes

abbrev pub place_of : Node → List ℕ
place_of (node place name attributes text children) = place

abbrev pub name_of : Node → Name
name_of (node place name attributes text children) = name

abbrev pub attributes_of : Node → Pairs
attributes_of (node place name attributes text children) = attributes

abbrev pub inner_text : Node → Text
inner_text (node place name attributes text children) = text

abbrev pub list_of : Nodes → List Node
list_of no_nodes = []
list_of (more n ns) = n ∷ list_of ns

abbrev pub children_in : Node → List Node
children_in (node place name attributes text children) = list_of children

-- the element alone
abbrev pub without_children : Node → Node
without_children (node place name attributes text children) = node place name attributes text
    no_nodes
