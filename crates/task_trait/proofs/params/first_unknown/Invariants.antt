use Rattle.std.proofs.Common.{◌≡◌, map, drop, option_copied, fold}
use Rattle.task_trait.specs.Params.{least_unknown, first_unknown}
use Rattle.task_trait.proofs.params.first_unknown.Given as goal

abbrev pub invariant-loop-param : goal.invariant-loop-param
invariant-loop-param l =
    fold (least_unknown l.task) (option_copied l.least)
    (map (λ param. param.name) (drop l.param-index l.params)) ≡ first_unknown l.task l.params
