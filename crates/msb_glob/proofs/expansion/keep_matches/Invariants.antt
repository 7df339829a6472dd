use Rattle.std.proofs.Common.{◌≡◌, map, take, filter}
use Rattle.msb_glob.specs.Expanded.{is_match}
use Rattle.msb_glob.proofs.expansion.keep_matches.Given as goal

abbrev pub invariant-loop-entry : goal.invariant-loop-entry
invariant-loop-entry g l =
    map (λ path. path.now) l.found.items
    ≡ filter (is_match l.pattern) (map g.P.HasPath.path (take l.entry-index l.entries))
