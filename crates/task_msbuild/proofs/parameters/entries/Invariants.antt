use Rattle.std.proofs.Common.{◌≡◌, take}
use Rattle.task_trait.specs.Params.{idents}
use Rattle.task_msbuild.proofs.parameters.entries.Given as goal

abbrev pub invariant-loop-item : goal.invariant-loop-item
invariant-loop-item l = l.entries ≡ idents (take l.item-index l.items)
