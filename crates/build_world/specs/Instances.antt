-- An evaluated project, as the contracts see it. (How MSBuild builds projects, evaluation phase)
use Rattle.std.specs.Prelude.{List, map, Bool}
use Rattle.msb_laws.specs.Words.{Name, Path}
use Rattle.msb_values.specs.declared.scope.Scope.{Scope}
use Rattle.target_order.specs.declared.row.TargetRow.{TargetRow}
use Rattle.build_world.specs.declared.instance.Instance.{Instance as CodeInstance}
use Rattle.build_world.specs.declared.instance.UsedTarget.{UsedTarget as CodeTarget}
use Rattle.build_world.specs.Elements.{At, seen_placed}

-- the element that is used of a target's name, and whether any Target element of its file has
-- Returns
pub record UsedTarget : Type 0 where
  pub name : Name
  pub element : At
  pub file_has_returns : Bool

pub record Instance : Type 0 where
  pub scope : Scope
  pub rows : List TargetRow
  pub targets : List UsedTarget
  pub initial : List Name
  pub default : List Name
  pub duplicates : List Path

-- the instance that the code gives
abbrev pub seen_target : CodeTarget → UsedTarget
seen_target target = record {
  name = target.name;
  element = seen_placed target.at;
  file_has_returns = target.file_has_returns;
}

abbrev pub seen_instance : CodeInstance → Instance
seen_instance instance = record {
  scope = instance.scope;
  rows = instance.rows;
  targets = map seen_target instance.targets;
  initial = instance.initial;
  default = instance.default;
  duplicates = instance.duplicates;
}
