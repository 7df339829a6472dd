use Rattle.std.proofs.Common.{◌≡◌, map, drop}
use Rattle.std.specs.List.{list_any}
use Rattle.build_world.specs.Instances.{seen_target}
use Rattle.request_machine.specs.Plain.{target_asks}
use Rattle.request_machine.proofs.plain.any_target_asks.Given as goal

abbrev pub invariant-loop-target : goal.invariant-loop-target
invariant-loop-target l =
    list_any target_asks (map seen_target l.targets)
    ≡ list_any target_asks (map seen_target (drop l.target-index l.targets))
