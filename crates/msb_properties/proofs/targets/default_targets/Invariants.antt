use Rattle.std.proofs.Common.{◌≡◌, map, drop}
use Rattle.build_world.specs.Elements.{seen_placed}
use Rattle.msb_properties.specs.Passed.{default_of}
use Rattle.msb_properties.specs.Seen.{seen_setting, seen_properties}
use Rattle.msb_properties.proofs.targets.default_targets.Given as goal

abbrev pub invariant-loop-placed : goal.invariant-loop-placed
invariant-loop-placed l = default_of (seen_setting l.setting) (seen_properties l.properties)
    (map seen_placed (drop l.placed-index l.elements))
    ≡ default_of (seen_setting l.setting) (seen_properties l.properties)
    (map seen_placed l.elements)
