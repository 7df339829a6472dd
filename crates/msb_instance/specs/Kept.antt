-- The instances that a node keeps, with their keys, and those that nodes share.
-- (MSBuild task; Build projects in parallel: a project is evaluated once for each set of global
-- properties)
use Rattle.std.specs.Prelude.{◌≡◌, ◌⊎◌, List, [], ◌∷◌, Ok, Option, IfSome}
use Rattle.file_store.specs.declared.tree.File.{File}
use Rattle.msb_values.specs.declared.key.InstanceKey.{InstanceKey}
use Rattle.once_table.specs.Looked.{AllFit}
use Rattle.build_world.specs.declared.instance.Instance.{Instance}
use Rattle.msb_instance.specs.Evaluated.{evaluated, seen_instance}

-- instances with their keys; and where nodes share others, the files by which those are evaluated
abbrev pub Kept : Type 0
Kept = List (InstanceKey × Instance) × Option (List File)

-- the key's project evaluates to the instance by these files
abbrev pub IsEvaluated : List File → InstanceKey → Instance → Type 0
IsEvaluated files key instance = evaluated files key ≡ Ok (seen_instance instance)

-- so does the project of each key
abbrev pub AllEvaluated : List File → List (InstanceKey × Instance) → Type 0
AllEvaluated files = AllFit (IsEvaluated files)

-- those that are kept are evaluated by these files, which are the files of those that are shared
abbrev pub AreEvaluated : List File → Kept → Type 0
AreEvaluated files kept = AllEvaluated files kept.0 × IfSome kept.1 (λ shared. shared ≡ files)

-- the instance is kept under the key
abbrev pub Keeps : InstanceKey → Instance → List (InstanceKey × Instance) → Type 0
Keeps key instance [] = ⊥
Keeps key instance (kept ∷ more) = (kept ≡ (key, instance)) ⊎ Keeps key instance more
