use Rattle.std.proofs.Common.{◌≡◌, ◌++◌, drop, reverse}
use Rattle.msb_files.specs.Places.{places_of}
use Rattle.msb_files.proofs.sorted.places_of.Given as goal

abbrev pub invariant-loop-at : goal.invariant-loop-at
invariant-loop-at l = l.places.items ++ places_of (drop l.at (reverse l.entries))
    ≡ places_of (reverse l.entries)
