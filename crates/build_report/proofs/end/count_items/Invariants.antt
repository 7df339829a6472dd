use Rattle.std.proofs.Common.{◌≡◌, ◌+◌, drop, length}
use Rattle.build_report.specs.Shown.{items_returned}
use Rattle.build_report.proofs.end.count_items.Given as goal

abbrev pub invariant-loop-one : goal.invariant-loop-one
invariant-loop-one l =
    l.count + length (items_returned (drop l.one-index l.returned))
    ≡ length (items_returned l.returned)
