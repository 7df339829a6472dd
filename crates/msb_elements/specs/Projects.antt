-- The project that a file's bytes are, or why they are none. (MSBuild project file schema
-- reference.)
--
-- The elements are looked at in document order, parents first, and the first element with a fault
-- gives the refusal.
use Rattle.std.specs.Prelude.{
  ℕ,
  ◌+◌,
  List,
  [],
  ◌∷◌,
  ◌++◌,
  ◌||◌,
  Bool,
  true,
  false,
  Option,
  Some,
  None,
  Result,
  Ok,
  Err,
  if◌then◌else◌,
}
use Rattle.msb_laws.specs.Words.{Name, Pairs, Text}
use Rattle.serde_json.specs.Data.{Data}
use Rattle.msb_elements.specs.Nodes.{Node, node, Nodes, no_nodes, more}
use Rattle.msb_elements.specs.Forms.{json_in}
use Rattle.msb_elements.specs.Trees.{Tree, no_element, element, Trees, no_trees, further, tree_of}
use Rattle.msb_elements.specs.Stands.{child_kind, standing_of}
use Rattle.msb_elements.specs.Checks.{own_fault, is_on_error}
use Rattle.msb_elements.specs.declared.kind.Kind.{Kind}
use Rattle.msb_elements.specs.declared.kind.Kind.TheVariants.{ProjectExtensions}
use Rattle.msb_elements.specs.declared.kind.Standing.{Standing}
use Rattle.msb_elements.specs.declared.kind.Standing.TheVariants.{Stands}
use Rattle.msb_elements.specs.declared.errors.ReadFault.{ReadFault}
use Rattle.msb_elements.specs.declared.errors.ReadFault.TheVariants.{NotJson, NotElement}

abbrev pub is_looked_into : Kind → Bool
is_looked_into ProjectExtensions = false
is_looked_into _ = true

-- below ProjectExtensions nothing is looked at, nor below an element that may not stand there
abbrev pub looks_into : Standing → Bool
looks_into (Stands kind) = is_looked_into kind
looks_into _ = false

abbrev pub kind_standing : Standing → Option Kind
kind_standing (Stands kind) = Some kind
kind_standing _ = None

-- an element with these children, unless it has a fault itself or one of them has
abbrev pub with_children : List ℕ → Name → Pairs → Text → Option ReadFault
    → Result Nodes ReadFault → Result Node ReadFault
with_children place name attributes text (Some fault) children = Err fault
with_children place name attributes text None (Ok children) = Ok
    (node place name attributes text children)
with_children place name attributes text None (Err fault) = Err fault

abbrev pub in_front : Result Node ReadFault → Result Nodes ReadFault → Result Nodes ReadFault
in_front (Err fault) rest = Err fault
in_front (Ok n) (Ok ns) = Ok (more n ns)
in_front (Ok n) (Err fault) = Err fault

abbrev pub is_no_trees : Trees → Bool
is_no_trees no_trees = true
is_no_trees (further t ts) = false

-- an entry that is an OnError of its parent
abbrev pub is_on_error_below : Option Kind → Tree → Bool
is_on_error_below parent no_element = false
is_on_error_below parent (element name attributes text entries) = is_on_error
    (child_kind parent name)

-- the element at a place below such a parent, after an OnError or not, and as the last child or
-- not; and the place of its child i is its own with i at the end
unfoldable mutual
  pub element_or_fault : Option Kind → Bool → Bool → List ℕ → Tree → Result Node ReadFault
  element_or_fault parent after last place no_element = Err (NotElement place)
  element_or_fault parent after last place (element name attributes text entries) =
      with_children place name attributes text
      (own_fault (standing_of parent name) after last place name attributes text entries)
      (if looks_into (standing_of parent name) then children_or_fault
      (kind_standing (standing_of parent name)) false place 0 entries else Ok no_nodes)

  -- the elements from child i on
  pub children_or_fault : Option Kind → Bool → List ℕ → ℕ → Trees → Result Nodes ReadFault
  children_or_fault parent after place i no_trees = Ok no_nodes
  children_or_fault parent after place i (further t ts) =
      in_front (element_or_fault parent after (is_no_trees ts) (place ++ i ∷ []) t)
      (children_or_fault parent (after || is_on_error_below parent t) place (i + 1) ts)

-- what an element has below it
abbrev pub below_or_fault : Standing → List ℕ → Trees → Result Nodes ReadFault
below_or_fault standing place entries = if looks_into standing then children_or_fault
    (kind_standing standing) false place 0 entries else Ok no_nodes

abbrev pub root_or_fault : Option Data → Result Node ReadFault
root_or_fault None = Err NotJson
root_or_fault (Some d) = element_or_fault None false true [] (tree_of d)

-- the root element of a project file, or its first fault
unfoldable pub project_in : Text → Result Node ReadFault
project_in bytes = root_or_fault (json_in bytes)
