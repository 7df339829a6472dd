use Rattle.std.proofs.Common.{◌≡◌, ◌++◌, drop, string_bytes}
use Rattle.std.specs.List.{flat_map}
use Rattle.build_report.specs.Shown.{items_returned, item_line}
use Rattle.build_report.proofs.end.push_lists.Given as goal

abbrev pub invariant-loop-one : goal.invariant-loop-one
invariant-loop-one l =
    string_bytes l.shown ++ flat_map item_line (items_returned (drop l.one-index l.returned))
    ≡ string_bytes l.fn.shown ++ flat_map item_line (items_returned l.returned)
