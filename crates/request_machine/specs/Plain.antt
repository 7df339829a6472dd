-- Projects whose requests are plain: no Condition of their targets or OnError elements has Exists.
-- (Target build order; OnError element; MSBuild conditions)
use Rattle.std.specs.Prelude.{
  ◌≡◌,
  List,
  Bool,
  true,
  not,
  ◌||◌,
  ◌&&◌,
  Result,
  Ok,
  Err,
  codes,
}
use Rattle.std.specs.List.{list_any}
use Rattle.std.specs.Str.{bytes_eq}
use Rattle.msb_values.specs.Pairs.{value_at}
use Rattle.file_store.specs.declared.tree.File.{File}
use Rattle.msb_elements.specs.Nodes.{Node, name_of, attributes_of, children_in}
use Rattle.request_machine.specs.ConditionFiles.{condition_asks}
use Rattle.build_world.specs.Instances.{Instance, UsedTarget}
use Rattle.result_cache.specs.declared.request.RequestKey.{RequestKey}
use Rattle.build_meaning.specs.Walk.{Reply}
use Rattle.request_machine.specs.Worlds.{instances_of}

-- the Condition of an element asks for files
abbrev pub element_asks : Node → Bool
element_asks element = condition_asks (value_at (codes "Condition") (attributes_of element))

-- of a child of a target, where it is an OnError element
abbrev pub error_asks : Node → Bool
error_asks element = bytes_eq (name_of element) (codes "OnError") && element_asks element

abbrev pub target_asks : UsedTarget → Bool
target_asks target =
    let element : Node = target.element.node in
    element_asks element || list_any error_asks (children_in element)

-- between its runs a request of a project asks for the files of its targets' Conditions alone
abbrev pub project_asks : Instance → Bool
project_asks instance = list_any target_asks instance.targets

-- a project that is not evaluated asks nothing
abbrev pub is_plain : Result Instance Reply → Bool
is_plain (Ok instance) = not (project_asks instance)
is_plain (Err reply) = true

abbrev pub IsPlainProject : List File → RequestKey → Type 0
IsPlainProject files key = is_plain (instances_of files key) ≡ true
