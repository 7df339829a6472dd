-- What a loop has read so far, before what is left.
use Rattle.std.proofs.Common.{
  ◌≡◌,
  ℕ,
  ◌+◌,
  ◌<◌,
  ◌≤◌,
  List,
  [],
  ◌∷◌,
  ◌++◌,
  length,
  map,
  drop,
  get_or,
  Option,
  Some,
  None,
  option_map,
  String,
  Global,
  string_bytes,
  refl,
  sym,
  ap,
  ◌∙◌,
  append_assoc,
  add-one,
  drop-cons,
  arith,
  rules,
}
use Rattle.std.proofs.lemmas.List.{map-append}
use Rattle.std.proofs.lemmas.Grind.{common_steps}
use Rattle.serde_json.specs.Find.{as_str}
use Rattle.serde_json.specs.View.{view as value_of, items_view, members_view}
use Rattle.serde_json.specs.declared.value.Value as value
use Rattle.serde_json.specs.declared.value.Value.{Value, the_lemmas}
use Rattle.msb_elements.specs.Nodes.{Node, Nodes, no_nodes, more}
use Rattle.msb_elements.specs.Forms.{texts_of}
use Rattle.msb_elements.specs.View.{view, views, nodes_from}
use Rattle.msb_elements.specs.declared.element.Element.{Element}

abbrev pub Entry : Type 0
Entry = String Global × Value

abbrev Pair : Type 0
Pair = List ℕ × List ℕ

longer : {X : Type 0} (front : List X) (x : X) (o : Option (List X))
    → option_map (λ xs. front ++ xs) (option_map (λ xs. x ∷ xs) o)
    ≡ option_map (λ xs. (front ++ x ∷ []) ++ xs) o
longer front x None = refl
longer front x (Some xs) = ap Some (sym (append_assoc front (x ∷ []) xs))

pub text_of_string : (s : String Global) → as_str (value_of (value.String s))
    ≡ Some (string_bytes s)
text_of_string s = search (rules, the_lemmas)

-- one more member's text
pub texts_step : (es : List Entry) (e : Entry) (rest : List Entry) (front : List Pair)
    (text : List ℕ) (all : Option (List Pair))
    → es ≡ e ∷ rest → all ≡ option_map (λ texts. front ++ texts) (texts_of (members_view es))
    → as_str (value_of e.1) ≡ Some text
    → all ≡ option_map (λ texts. (front ++ (string_bytes e.0, text) ∷ []) ++ texts)
    (texts_of (members_view rest))
texts_step es e rest front text all is so_far some = so_far ∙ rw (is, some) (longer front _ _)

-- the nodes with others in front
abbrev pub onto : List Node → Nodes → Nodes
onto [] ns = ns
onto (x ∷ xs) ns = more x (onto xs ns)

pub onto-last : (front : List Node) (x : Node) (ns : Nodes)
    → onto front (more x ns) ≡ onto (front ++ x ∷ []) ns
onto-last [] x ns = refl
onto-last (y ∷ ys) x ns = ap (more y) (onto-last ys x ns)

pub onto-none : (xs : List Node) → onto xs no_nodes ≡ nodes_from xs
onto-none [] = refl
onto-none (x ∷ xs) = ap (more x) (onto-none xs)
