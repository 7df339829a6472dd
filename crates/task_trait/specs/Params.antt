-- What a task finds under the names of its parameters. (Task element; MSBuild tasks)
use Rattle.std.specs.Prelude.{
  ℕ,
  List,
  [],
  ◌∷◌,
  Bool,
  false,
  ◌==◌,
  map,
  find,
  fold,
  length,
  Option,
  Some,
  None,
  option_map,
  option_and_then,
  Result,
  Ok,
  Err,
  if◌then◌else◌,
}
use Rattle.std.specs.List.{list_any, before_first, after_first}
use Rattle.std.specs.Ordering.{nat_cmp, is_lt}
use Rattle.std.specs.Cmp.Lexicographic.{slice_cmp}
use Rattle.std.specs.Str.{bytes_eq}
use Rattle.msb_laws.specs.Words.{Text, Name}
use Rattle.msb_values.specs.Keys.{key_of}
use Rattle.msb_values.specs.Truths.{truth_of}
use Rattle.msb_values.specs.declared.item.Item.{Item}
use Rattle.task_trait.specs.Rows.{is_known}
use Rattle.task_trait.specs.declared.failures.Failure.{Failure}
use Rattle.task_trait.specs.declared.failures.Failure.TheVariants.{
  MissingParameter,
  UnknownParameter,
  BadParameter,
}
use Rattle.task_trait.specs.declared.tools.Param.{Param}

-- the parameter of a name
abbrev pub param_at : Name → List Param → Option Param
param_at name params = find (λ param. bytes_eq param.name name) params

abbrev pub items_in : Option Param → List Item
items_in (Some param) = param.items
items_in None = []

-- its items, which are none where it is not given
abbrev pub items_of : Name → List Param → List Item
items_of name params = items_in (param_at name params)

abbrev pub first_text : List Item → Text
first_text [] = []
first_text (item ∷ items) = item.ident

-- a text is handed as one item, an empty one also as none
abbrev pub text_of : Name → List Param → Text
text_of name params = first_text (items_of name params)

abbrev pub idents : List Item → List Text
idents items = map (λ item. item.ident) items

-- the lesser of two names in byte order
abbrev pub lesser : Option Name → Name → Name
lesser None name = name
lesser (Some other) name = if is_lt (slice_cmp nat_cmp name other) then name else other

-- the least name so far that a task does not have
abbrev pub least_unknown : (task : Name) → Option Name → Name → Option Name
least_unknown task least name = if is_known task name then least else Some (lesser least name)

-- of the parameters that a task does not have, the first in byte order of names
abbrev pub first_unknown : (task : Name) → List Param → Option Name
first_unknown task params = fold (least_unknown task) None (map (λ param. param.name) params)

abbrev pub check_known : (task : Name) → List Param → Option Failure
check_known task params = option_map UnknownParameter (first_unknown task params)

-- a failed check comes before all that follows
abbrev pub unless : {T : Type 0} → Option Failure → Result T Failure → Result T Failure
unless None next = next
unless (Some failure) next = Err failure

-- a required list is there, and may be empty; a required text is not empty
abbrev pub items_or_missing : Name → Option Param → Result (List Item) Failure
items_or_missing name (Some param) = Ok param.items
items_or_missing name None = Err (MissingParameter name)

abbrev pub needed_items : Name → List Param → Result (List Item) Failure
needed_items name params = items_or_missing name (param_at name params)

abbrev pub needed_text : Name → List Param → Result Text Failure
needed_text name params = let text = text_of name params in if length text == 0 then Err
    (MissingParameter name) else Ok text

-- a value that a parameter's text is, or the parameter is bad
abbrev pub or_bad : {T : Type 0} → Name → Option T → Result T Failure
or_bad name (Some value) = Ok value
or_bad name None = Err (BadParameter name)

-- a truth value, false by default
abbrev pub truth_at : Name → List Param → Result Bool Failure
truth_at name params = let text = text_of name params in if length text == 0 then Ok false else
    or_bad name (truth_of text)

-- what stands before the first `=`, and what stands after it
abbrev pub is_equals : ℕ → Bool
is_equals byte = byte == 61

abbrev pub cut_at_equals : Text → Option (Text × Text)
cut_at_equals text = if list_any is_equals text then Some
    (before_first is_equals text, after_first is_equals text) else None

-- an entry `N=V`: N is a name, and V may be any text
abbrev pub with_key : Text × Text → Option (Name × Text)
with_key parts = option_map (λ key. (key, parts.1)) (key_of parts.0)

abbrev pub pair_of : Text → Option (Name × Text)
pair_of text = option_and_then with_key (cut_at_equals text)
