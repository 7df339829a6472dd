use Rattle.std.proofs.Common.{◌≡◌, map, length, drop}
use Rattle.std.specs.List.{slice_split, flat_map}
use Rattle.msb_paths.specs.Normal.{walked}
use Rattle.msb_paths.specs.Segments.{is_slash, segments}
use Rattle.msb_paths.proofs.Walks.{cut}
use Rattle.msb_paths.proofs.normal.walk.Given as goal

-- what is left of the walk ends where the whole walk ends
abbrev pub invariant-loop-part : goal.invariant-loop-part
invariant-loop-part l =
    walked (flat_map cut (drop (length l.yielded) (slice_split is_slash l.text)))
    (map (λ name. name.now) l.names.items)
    ≡ walked (segments l.text) (map (λ name. name.now) l.initial.names.items)
