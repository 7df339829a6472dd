use Rattle.std.proofs.Common.{◌≡◌, map, take}
use Rattle.msb_glob.specs.Expanded.{match_of}
use Rattle.msb_glob.proofs.expansion.matches_of.Given as goal

abbrev pub invariant-loop-path : goal.invariant-loop-path
invariant-loop-path l = l.matches ≡ map (match_of l.pattern)
    (map (λ path. path.now) (take l.path-index l.found))
