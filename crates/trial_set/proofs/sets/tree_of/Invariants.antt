use Rattle.std.proofs.Common.{◌≡◌, ◌++◌, map}
use Rattle.trial_set.specs.Sets.{file_at_stamp}
use Rattle.trial_set.proofs.sets.tree_of.Given as goal

abbrev pub invariant-loop-path : goal.invariant-loop-path
invariant-loop-path l = l.files ++ map file_at_stamp l.path-iterator
    ≡ map file_at_stamp l.fn.set.entries
