-- The element that an `Element` holds.
use Rattle.std.specs.Prelude.{List, [], ◌∷◌, map}
use Rattle.msb_elements.specs.Nodes.{Node, node, Nodes, no_nodes, more}
use Rattle.msb_elements.specs.declared.element.Element.{Element}
use Rattle.msb_elements.specs.declared.element.Element.TheOpen.{Element-F}
use Rattle.msb_elements.specs.declared.element.Element.TheFolds.{fold-Element}

abbrev pub nodes_from : List Node → Nodes
nodes_from [] = no_nodes
nodes_from (n ∷ ns) = more n (nodes_from ns)

-- one level, with each child already seen as its data
abbrev pub view_step : Element-F Node → Node
view_step e = node e.place e.name e.attributes.items e.text (nodes_from e.children.items)

abbrev pub view : Element → Node
view = fold-Element Node view_step

abbrev pub views : List Element → Nodes
views es = nodes_from (map view es)
