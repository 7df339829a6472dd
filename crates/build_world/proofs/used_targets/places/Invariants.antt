use Rattle.std.proofs.Common.{take}
use Rattle.build_world.specs.Places.{HasPlaces}
use Rattle.build_world.proofs.used_targets.places.Given as goal

abbrev pub invariant-loop-place : goal.invariant-loop-place
invariant-loop-place l = HasPlaces (take l.place l.targets) l.places
