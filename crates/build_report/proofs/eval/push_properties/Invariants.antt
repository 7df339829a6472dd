use Rattle.std.proofs.Common.{◌≡◌, ◌++◌, string_bytes}
use Rattle.std.specs.List.{flat_map}
use Rattle.build_report.specs.Eval.{property_line}
use Rattle.build_report.proofs.eval.push_properties.Given as goal

abbrev pub invariant-loop-name : goal.invariant-loop-name
invariant-loop-name l =
    string_bytes l.shown ++ flat_map property_line l.name-iterator
    ≡ string_bytes l.initial.shown ++ flat_map property_line l.props
