use Rattle.std.proofs.Common.{◌≡◌, drop}
use Rattle.msb_values.specs.Pairs.{all_put}
use Rattle.task_kit.proofs.included.put_all.Given as goal

abbrev pub invariant-loop-name : goal.invariant-loop-name
invariant-loop-name l = all_put l.meta (drop l.name-index l.metadata)
    ≡ all_put l.initial.meta l.metadata
