use Rattle.std.proofs.Common.{◌≡◌, ◌++◌, map, drop}
use Rattle.task_kit.specs.Included.{item_matched}
use Rattle.task_kit.proofs.included.push_each.Given as goal

abbrev pub invariant-loop-found : goal.invariant-loop-found
invariant-loop-found l = l.items ++ map (item_matched l.entry) (drop l.found-index l.matches)
    ≡ l.initial.items ++ map (item_matched l.entry) l.matches
