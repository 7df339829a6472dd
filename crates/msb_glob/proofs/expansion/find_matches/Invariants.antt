use Rattle.std.proofs.Common.{◌≡◌, map, take, filter}
use Rattle.msb_glob.specs.Expanded.{is_match}
use Rattle.msb_glob.proofs.expansion.find_matches.Given as goal

abbrev pub invariant-loop-path : goal.invariant-loop-path
invariant-loop-path l = map (λ path. path.now) l.found.items
    ≡ filter (is_match l.pattern) (take l.path-index l.paths)
