use Rattle.std.proofs.Common.{◌≡◌, ◌++◌, map, drop, string_bytes}
use Rattle.std.specs.List.{flat_map}
use Rattle.trial_set.specs.Elements.{next_pair}
use Rattle.trial_set.proofs.elements.push_more_pairs.Given as goal

abbrev pub invariant-loop-name : goal.invariant-loop-name
invariant-loop-name l =
    string_bytes l.text ++ flat_map next_pair
    (map (λ p. (p.0.now, p.1.now)) (drop l.name-index l.attributes))
    ≡ string_bytes l.initial.text ++ flat_map next_pair (map (λ p. (p.0.now, p.1.now)) l.attributes)
