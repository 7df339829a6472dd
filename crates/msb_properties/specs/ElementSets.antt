-- That elements are a set, so that what bytes are read as is so in one way alone.
use mathlib.Core.HLevel.{collapsible→set}
use mathlib.Core.Sum.{⊎_set}
use Rattle.std.proofs.Common.{◌≡◌, ℕ, List, [], Result, Ok, refl, sym, ap, ◌∙◌}
use Rattle.std.proofs.Props.{props}
use Rattle.std.specs.Coded.{codes, Coded-set}
use Rattle.msb_laws.specs.Words.{Pairs, Text}
use Rattle.msb_elements.specs.Nodes.{Node, node, Nodes, no_nodes, more}
use Rattle.msb_elements.specs.Projects.{project_in}
use Rattle.msb_elements.specs.declared.errors.ReadFault.{ReadFault}

-- elements as one tree: each with its first child and its next neighbour
data Tree : Type 0 where
  end : Tree
  element : (place name : Text) → (attributes : Pairs) → (text : Text) →
      (children next : Tree) → Tree
  deriving IsSet as Tree-set

abbrev tree_of : Nodes → Tree
tree_of no_nodes = end
tree_of (more (node place name attributes text children) next) =
    element place name attributes text (tree_of children) (tree_of next)

abbrev nodes_of : Tree → Nodes
nodes_of end = no_nodes
nodes_of (element place name attributes text children next) =
    more (node place name attributes text (nodes_of children)) (nodes_of next)

same_nodes : (nodes : Nodes) → nodes_of (tree_of nodes) ≡ nodes
same_nodes no_nodes = refl
same_nodes (more (node place name attributes text children) next) =
    λ j. more (node place name attributes text (same_nodes children j)) (same_nodes next j)

-- what is got back from a set is one
pub taken_back : {A B : Type 0} (to : A → B) (from : B → A) → ((a : A) → from (to a) ≡ a) →
    IsSet B →
    IsSet A
taken_back to from back set = collapsible→set
    (λ x y p. sym (back x) ∙ (ap from (ap to p) ∙ back y))
    (λ x y p q. ap (λ (r : to x ≡ to y). sym (back x) ∙ (ap from r ∙ back y))
    (set (to x) (to y) (ap to p) (ap to q)))

abbrev first : Nodes → Node
first no_nodes = node [] [] [] [] no_nodes
first (more n next) = n

text-set : IsSet Text
text-set = hlevel (codes, Coded-set)

attributes-set : IsSet (Pairs)
attributes-set = hlevel (codes, Coded-set)

pub node-set : IsSet Node
node-set = taken_back (λ n. more n no_nodes) first (λ n. refl)
    (taken_back tree_of nodes_of same_nodes (hlevel (Tree-set, text-set, attributes-set)))

read-set : IsSet (Result Node ReadFault)
read-set = hlevel (⊎_set, node-set, codes, Coded-set, props)

pub read-once : (bytes : Text) (root : Node) → IsProp (project_in bytes ≡ Ok root)
read-once bytes root = read-set (project_in bytes) (Ok root)
