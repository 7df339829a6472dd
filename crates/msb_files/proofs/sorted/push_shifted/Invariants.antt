use Rattle.std.proofs.Common.{◌≡◌, ◌+◌, ◌++◌, map, take}
use Rattle.msb_files.proofs.sorted.push_shifted.Given as goal

abbrev pub invariant-loop-at : goal.invariant-loop-at
invariant-loop-at l = l.places.items
    ≡ l.initial.places.items ++ map (λ at. at + l.shift) (take l.at-index l.newer)
