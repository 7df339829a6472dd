-- What an element's data is, one level deep.
use Rattle.std.proofs.Common.{
  ◌≡◌,
  ℕ,
  List,
  [],
  ◌∷◌,
  length,
  map,
  slice_get,
  Option,
  None,
  Some,
  option_map,
  Bor,
  refl,
  sym,
  ap,
  ◌∙◌,
}
use Rattle.std.proofs.lemmas.List.{length-map}
use Rattle.std.proofs.lemmas.Option.{slice_get-map, slice_get_past, slice_get_read}
use Rattle.std.specs.Slice.{IsItemAt}
use Rattle.std.specs.Option.{option_copied}
use Rattle.msb_elements.specs.Nodes.{Node, node, list_of, children_in}
use Rattle.msb_elements.specs.View.{nodes_from, view, view_step}
use Rattle.msb_elements.specs.declared.element.Element.{Element}
use Rattle.msb_elements.specs.declared.element.Element.TheViews.{out-Element}
use Rattle.msb_elements.specs.declared.element.Element.TheFolds.{fold_out-Element}

view_out : (e : Element)
    → view e ≡ node (out-Element e).place (out-Element e).name (out-Element e).attributes.items
    (out-Element e).text (nodes_from (map view (out-Element e).children.items))
view_out = fold_out-Element Node view_step

list_of-nodes_from : (xs : List Node) → list_of (nodes_from xs) ≡ xs
list_of-nodes_from [] = refl
list_of-nodes_from (x ∷ xs) = ap (λ ys. x ∷ ys) (list_of-nodes_from xs)

-- the children's data are the data of the children
pub children_out : (e : Element) → children_in (view e) ≡ map view (out-Element e).children.items
children_out e = ap children_in (view_out e) ∙ list_of-nodes_from _

-- as many data as there are children
pub count_seen : (es : List Element) (xs : List Node) → map view es ≡ xs → length es ≡ length xs
count_seen es xs seen = sym (length-map es view) ∙ ap length seen

-- an item that was found is that of its number
pub item_copied : (es : List Element) (at : ℕ) (found : Option (Bor Element)) → IsItemAt es at found
    → option_copied found ≡ slice_get es at
item_copied es at None is = sym (slice_get_past es at is.3)
item_copied es at (Some child) is = sym
    (slice_get_read es (length es) at child.now refl is.3.0 is.1)

behind : (found : Option (Bor Element)) → option_map (λ child. view child.now) found
    ≡ option_map view (option_copied found)
behind None = refl
behind (Some child) = refl

-- a child's data are those at its number
pub child_seen : (es : List Element) (xs : List Node) (at : ℕ) (found : Option (Bor Element))
    → map view es ≡ xs → option_copied found ≡ slice_get es at
    → option_map (λ child. view child.now) found ≡ slice_get xs at
child_seen es xs at found seen is = behind found ∙ ap (option_map view) is
    ∙ sym (slice_get-map view es at) ∙ ap (λ ys. slice_get ys at) seen
