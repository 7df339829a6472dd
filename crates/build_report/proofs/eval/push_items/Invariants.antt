use Rattle.std.proofs.Common.{◌≡◌, [], ◌++◌, drop, string_bytes, option_copied}
use Rattle.std.specs.List.{flat_map}
use Rattle.std.specs.Option.{unwrap_or}
use Rattle.build_report.specs.Eval.{item_lines}
use Rattle.build_report.proofs.eval.push_items.Given as goal

abbrev pub invariant-loop-item : goal.invariant-loop-item
invariant-loop-item l =
    string_bytes l.shown ++ flat_map (item_lines l.kind (unwrap_or (option_copied l.defaults) []))
    (drop l.item-index l.items) ≡ string_bytes l.fn.shown
    ++ flat_map (item_lines l.kind (unwrap_or (option_copied l.defaults) [])) l.items
