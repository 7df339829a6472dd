use Rattle.std.proofs.Common.{◌≡◌, ◌++◌, map, drop, string_bytes}
use Rattle.std.specs.List.{flat_map}
use Rattle.trial_set.specs.Elements.{next_child}
use Rattle.trial_set.proofs.elements.push_more_children.Given as goal

abbrev pub invariant-loop-child : goal.invariant-loop-child
invariant-loop-child l =
    string_bytes l.text ++ flat_map next_child (map string_bytes (drop l.child-index l.children))
    ≡ string_bytes l.initial.text ++ flat_map next_child (map string_bytes l.children)
