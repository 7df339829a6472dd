use Rattle.std.proofs.Common.{◌≡◌, ◌+◌, ◌-◌}
use Rattle.msb_values.specs.Pairs.{all_put}
use Rattle.trial_set.specs.Sets.{projects_from}
use Rattle.trial_set.proofs.sets.put_projects.Given as goal

abbrev pub invariant-loop-number : goal.invariant-loop-number
invariant-loop-number l =
    all_put l.set.entries (projects_from (l.size + 1 - l.number) l.number l.draws.state)
    ≡ all_put l.initial.set.entries (projects_from l.size 1 l.fn.seed)
