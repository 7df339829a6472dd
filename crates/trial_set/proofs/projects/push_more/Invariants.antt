use Rattle.std.proofs.Common.{◌≡◌, ◌++◌, drop, string_bytes}
use Rattle.std.specs.List.{flat_map}
use Rattle.trial_set.specs.Projects.{next_file}
use Rattle.trial_set.proofs.projects.push_more.Given as goal

abbrev pub invariant-loop-number : goal.invariant-loop-number
invariant-loop-number l = string_bytes l.list ++ flat_map next_file (drop l.number-index l.numbers)
    ≡ string_bytes l.initial.list ++ flat_map next_file l.numbers
