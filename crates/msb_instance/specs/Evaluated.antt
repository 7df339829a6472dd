-- The evaluated project, or its first fault: properties and imports, item definitions, items,
-- targets. (How MSBuild builds projects, evaluation phase)
use Rattle.std.specs.Prelude.{ℕ, List, [], map, Bool, Result}
use Rattle.file_store.specs.Files.{paths_of}
use Rattle.file_store.specs.declared.tree.File.{File}
use Rattle.msb_laws.specs.Results.{and_then, map_ok}
use Rattle.msb_values.specs.declared.key.InstanceKey.{InstanceKey}
use Rattle.msb_values.specs.declared.scope.Scope.{Scope}
use Rattle.target_order.specs.declared.row.TargetRow.{TargetRow}
use Rattle.build_world.specs.declared.fault.EvalFault.{EvalFault}
use Rattle.build_world.specs.Elements.{At}
use Rattle.element_texts.specs.Contexts.{item_context}
use Rattle.msb_properties.specs.Passed.{LaidOut, passed}
use Rattle.msb_properties.specs.Settings.{setting}
use Rattle.msb_items.specs.Definitions.{all_defined}
use Rattle.msb_items.specs.Items.{all_itemed}
pub use Rattle.build_world.specs.Instances.{Instance, UsedTarget, seen_instance, seen_target}
use Rattle.msb_instance.specs.Targets.{
  Target,
  targets_of,
  rows_of,
  file_has_returns,
  default_or_first,
}

abbrev pub used : List At → Target → UsedTarget
used elements target = record {
  name = target.name;
  element = target.element;
  file_has_returns = file_has_returns elements
      target.element.file;
}

abbrev pub instance : LaidOut → Scope → List TargetRow → Instance
instance laid scope rows = record {
  scope = scope;
  rows = rows;
  targets = map (used laid.elements) (targets_of laid.elements);
  initial = laid.initial;
  default = default_or_first laid.default (targets_of laid.elements);
  duplicates = laid.duplicates;
}

-- the final properties, and no items and no defaults yet
abbrev pub first_scope : InstanceKey → LaidOut → Scope
first_scope key laid = record
    { globals = key.globals; props = laid.props; items = []; defaults = [] }

abbrev pub with_targets : List File → InstanceKey → LaidOut → Scope → Result Instance EvalFault
with_targets files key laid scope = map_ok (instance laid scope)
    (rows_of (item_context (paths_of files) key.path scope) (targets_of laid.elements))

abbrev pub after_layout : List File → InstanceKey → LaidOut → Result Instance EvalFault
after_layout files key laid =
    and_then (all_defined (paths_of files) (first_scope key laid) laid.elements) (λ defined.
    and_then (all_itemed (paths_of files) defined laid.elements)
    (λ itemed. with_targets files key laid itemed))

abbrev pub evaluated : List File → InstanceKey → Result Instance EvalFault
evaluated files key = and_then (passed (setting files key)) (after_layout files key)
