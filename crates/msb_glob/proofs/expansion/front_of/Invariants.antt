use Rattle.std.proofs.Common.{◌≡◌, ◌++◌, drop}
use Rattle.msb_glob.specs.Front.{front_of}
use Rattle.msb_glob.proofs.expansion.front_of.Given as goal

abbrev pub invariant-loop-at : goal.invariant-loop-at
invariant-loop-at l = l.front ++ front_of (drop l.at l.parts) ≡ front_of l.parts
