-- What the project's file evaluates to, computed.
use Rattle.std.proofs.Common.{
  ◌≡◌,
  ℕ,
  Bool,
  true,
  List,
  [],
  ◌++◌,
  Option,
  None,
  refl,
  ap,
  sym,
  ◌∙◌,
  arith,
  append-nil,
}
use Rattle.std.specs.Prelude.{Ok, codes, option_and_then, if◌then◌else◌}
use Rattle.std.specs.Char.{encode_utf8}
use Rattle.std.specs.Str.{chars, is_utf8}
use Rattle.json.specs.Json.{
  Json,
  string,
  array,
  object,
  no_items,
  item,
  Members,
  no_members,
  member,
  value,
  if_last,
}
use Rattle.json.specs.Lex.{tokens}
use Rattle.json.specs.Print.{print, print_from, escape_byte}
use Rattle.json.specs.Token.{Token}
use Rattle.json.specs.Tree.{json_tokens, HasNumbers}
use Rattle.json.proofs.Printed.Tokens.{tokens-print}
use Rattle.json.proofs.Printed.Trees.{value-json_tokens, ArePrintable-json_tokens}
use Rattle.serde_json.specs.Data.{Data}
use Rattle.serde_json.specs.Read.{read, of_json, max_depth}
use Rattle.msb_elements.specs.Forms.{json_in}
use Rattle.msb_elements.specs.Nodes.{Node, node, no_nodes, more}
use Rattle.msb_elements.specs.Projects.{
  element_or_fault,
  children_or_fault,
  root_or_fault,
  project_in,
}
use Rattle.msb_expression.specs.Machine.{run as read_on}
use Rattle.msb_properties.specs.Laid.{lay, lay_all, lay_chosen}
use Rattle.msb_instance.specs.Evaluated.{evaluated}
use Rattle.message_witness.specs.OneMessage.{target_element, project_bytes, files, instance, run}

-- ---- the file as a JSON value

abbrev named : List ℕ → Members → Json
named name members = object (member (codes "e") (string name) members)

abbrev with_attribute : List ℕ → List ℕ → Members → Members
with_attribute name text members =
    member (codes "a") (object (member name (string text) no_members)) members

abbrev with_child : Json → Members
with_child child = member (codes "c") (array (item child no_items)) no_members

abbrev message_json : Json
message_json = named (codes "Message") (with_attribute (codes "Text") (codes "hi") no_members)

abbrev target_json : Json
target_json =
    named (codes "Target") (with_attribute (codes "Name") (codes "Build") (with_child message_json))

abbrev project_json : Json
project_json = named (codes "Project") (with_child target_json)

-- ---- the file as it is read

written : print (json_tokens project_json) ≡ project_bytes
unfolding print_from escape_byte
written = refl

numbers : HasNumbers project_json
numbers = search

tokens-so : tokens project_bytes ≡ json_tokens project_json ++ []
tokens-so =
    ap tokens (sym written)
    ∙ (tokens-print (json_tokens project_json) (ArePrintable-json_tokens project_json numbers)
    ∙ sym (append-nil (json_tokens project_json)))

abbrev last_of : Option (Json × List Token) → Option Data
last_of found = option_and_then of_json (option_and_then (λ p. if_last p.0 p.1) found)

read-so : read project_bytes ≡ of_json project_json
read-so =
    ap (λ ts. last_of (value max_depth ts)) tokens-so
    ∙ ap last_of (value-json_tokens project_json max_depth [] (omega arith))

utf8-so : is_utf8 project_bytes ≡ true
unfolding is_utf8 chars encode_utf8
utf8-so = refl

abbrev project_element : Node
project_element = node [] (codes "Project") [] [] (more target_element no_nodes)

tree-so : root_or_fault (of_json project_json) ≡ Ok project_element
unfolding element_or_fault children_or_fault
tree-so = refl

reads-so : root_or_fault (json_in project_bytes) ≡ Ok project_element
unfolding json_in
reads-so =
    ap (λ (b : Bool). root_or_fault (if b then read project_bytes else None)) utf8-so
    ∙ (ap root_or_fault read-so ∙ tree-so)

project-so : project_in project_bytes ≡ Ok project_element
unfolding project_in
project-so = reads-so

-- ---- and as it is evaluated

pub evaluates : (stamp : ℕ) → evaluated (files stamp) run.instance ≡ Ok instance
unfolding read_on lay lay_all lay_chosen
evaluates stamp = rw project-so refl
