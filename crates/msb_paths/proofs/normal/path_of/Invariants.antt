use Rattle.std.proofs.Common.{◌≡◌, ◌++◌, ◌∷◌, map, drop}
use Rattle.std.specs.List.{flat_map, join_with_byte}
use Rattle.msb_paths.proofs.normal.path_of.Given as goal

-- what is left puts `/` and a name at a time behind the path so far
abbrev pub invariant-loop-name : goal.invariant-loop-name
invariant-loop-name l =
    l.path ++ flat_map (λ name. 47 ∷ name) (map (λ name. name.now) (drop l.name-index l.rest))
    ≡ join_with_byte 47 (map (λ name. name.now) l.fn.names)
