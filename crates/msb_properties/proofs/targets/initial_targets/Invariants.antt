use Rattle.std.proofs.Common.{◌≡◌, [], map, drop}
use Rattle.msb_laws.specs.Results.{fold_ok}
use Rattle.build_world.specs.Elements.{seen_placed}
use Rattle.msb_properties.specs.Passed.{with_initial}
use Rattle.msb_properties.specs.Seen.{seen_setting, seen_properties}
use Rattle.msb_properties.proofs.targets.initial_targets.Given as goal

abbrev pub invariant-loop-placed : goal.invariant-loop-placed
invariant-loop-placed l =
    fold_ok (with_initial (seen_setting l.setting) (seen_properties l.properties)) l.names
    (map seen_placed (drop l.placed-index l.elements))
    ≡ fold_ok (with_initial (seen_setting l.setting) (seen_properties l.properties)) []
    (map seen_placed l.elements)
