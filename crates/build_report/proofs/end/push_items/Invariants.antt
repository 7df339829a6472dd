use Rattle.std.proofs.Common.{◌≡◌, ◌++◌, drop, string_bytes}
use Rattle.std.specs.List.{flat_map}
use Rattle.build_report.specs.Shown.{item_line}
use Rattle.build_report.proofs.end.push_items.Given as goal

abbrev pub invariant-loop-item : goal.invariant-loop-item
invariant-loop-item l =
    string_bytes l.shown ++ flat_map item_line (drop l.item-index l.items)
    ≡ string_bytes l.fn.shown ++ flat_map item_line l.items
