-- The parameters of a task, as it is handed them. (Task element; MSBuild items, item metadata)
use Rattle.std.specs.Prelude.{
  List,
  [],
  ◌∷◌,
  map,
  Bool,
  true,
  false,
  Option,
  Some,
  None,
  Result,
  Ok,
  codes,
}
use Rattle.msb_laws.specs.Words.{Text, Name}
use Rattle.msb_laws.specs.Results.{map_ok}
use Rattle.msb_values.specs.Escapes.{unescaped}
use Rattle.msb_values.specs.Keys.{key_of}
use Rattle.msb_values.specs.declared.item.Item.{Item}
use Rattle.msb_elements.specs.Nodes.{attributes_of}
use Rattle.msb_expand.specs.Functions.{plain_item}
use Rattle.msb_expand.specs.declared.lens.Bucket.{Bucket}
use Rattle.build_world.specs.Elements.{At}
use Rattle.build_world.specs.declared.fault.EvalFault.{EvalFault}
use Rattle.msb_items.specs.Batched.{joined_ok, element_buckets}
use Rattle.msb_items.specs.Metadata.{is_one_of}
use Rattle.element_texts.specs.Contexts.{ElementContext, list_at, scene_in, text_at}
use Rattle.task_trait.specs.Escaping.{handed_item}
use Rattle.task_trait.specs.Rows.{takes_list}
use Rattle.task_trait.specs.declared.tools.Param.{Param}

-- the attributes of a task element that have no meaning, and those that are no parameters
abbrev pub ignored_attributes : List Text
ignored_attributes = codes "Label" ∷ codes "MSBuildArchitecture" ∷ codes "MSBuildRuntime" ∷ []

abbrev pub task_attributes : List Text
task_attributes = codes "Condition" ∷ codes "ContinueOnError" ∷ ignored_attributes

-- the buckets of a task element (MSBuild batching)
abbrev pub task_buckets : ElementContext → At → Result (List Bucket) EvalFault
task_buckets p e = element_buckets (scene_in p e.file) ignored_attributes e None

-- a text is one item, or none where it is empty
abbrev pub text_items : Text → List Item
text_items [] = []
text_items (byte ∷ bytes) = plain_item (byte ∷ bytes) ∷ []

-- the value of a parameter, without its escapes: a list or a text, by the task
abbrev pub items_of : Bool → ElementContext → At → Text → Result (List Item) EvalFault
items_of true p e written = map_ok (map handed_item) (list_at p e written)
items_of false p e written = map_ok (λ text. text_items (unescaped text)) (text_at p e written)

abbrev pub param : Name → List Item → Param
param name items = record { name = name; items = items }

abbrev pub param_named : Option Name → ElementContext → At → (task : Name)
    → (written : Text) → Result (List Param) EvalFault
param_named None p e task written = Ok []
param_named (Some name) p e task written = map_ok (λ items. param name items ∷ [])
    (items_of (takes_list task name) p e written)

abbrev pub param_if : Bool → ElementContext → At → (task : Name) → Text × Text
    → Result (List Param) EvalFault
param_if true p e task pair = Ok []
param_if false p e task pair = param_named (key_of pair.0) p e task pair.1

abbrev pub param_of : ElementContext → At → (task : Name) → Text × Text
    → Result (List Param) EvalFault
param_of p e task pair = param_if (is_one_of task_attributes pair.0) p e task pair

-- the parameters in byte order of their names as written, or the first fault
abbrev pub params_at : ElementContext → At → (task : Name) → Result (List Param) EvalFault
params_at p e task = joined_ok (param_of p e task) (attributes_of e.node)
