-- That kept instances are what their projects evaluate to is true in one way alone.
use mathlib.Core.Sum.{⊎_set}
use Rattle.std.proofs.Common.{◌≡◌, List, [], ◌∷◌, IfSome, None, Ok, Option, Result, Some}
use Rattle.std.proofs.Props.{props}
use Rattle.std.specs.Coded.{codes, Coded-set, ×_prop, Unit-prop}
use Rattle.file_store.specs.declared.tree.File.{File}
use Rattle.msb_values.specs.declared.key.InstanceKey.{InstanceKey}
use Rattle.build_world.specs.declared.fault.EvalFault.{EvalFault}
use Rattle.build_world.specs.declared.instance.Instance.{Instance as Made}
pub use Rattle.msb_properties.specs.ElementSets.{node-set, taken_back}
use Rattle.msb_instance.specs.Evaluated.{Instance, evaluated, seen_instance}
use Rattle.msb_instance.specs.Kept.{AllEvaluated, AreEvaluated, Kept}

pub result-set : IsSet (Result Instance EvalFault)
result-set = hlevel (⊎_set, node-set, codes, Coded-set, props)

all-once : (files : List File) (kept : List (InstanceKey × Made)) →
    IsProp (AllEvaluated files kept)
all-once files [] = Unit-prop
all-once files (entry ∷ entries) =
    ×_prop (result-set (evaluated files entry.0) (Ok (seen_instance entry.1)))
    (all-once files entries)

files-set : IsSet (List File)
files-set = hlevel (codes, Coded-set)

shared-once : (files : List File) (shared : Option (List File)) →
    IsProp (IfSome shared (λ s. s ≡ files))
shared-once files None = Unit-prop
shared-once files (Some shared) = files-set shared files

pub evaluated-once : (files : List File) (kept : Kept) → IsProp (AreEvaluated files kept)
evaluated-once files kept = ×_prop (all-once files kept.0) (shared-once files kept.1)
