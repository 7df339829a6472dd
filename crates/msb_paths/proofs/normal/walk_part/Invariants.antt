use Rattle.std.proofs.Common.{◌≡◌, map, length, drop}
use Rattle.std.specs.List.{slice_split}
use Rattle.msb_paths.specs.Normal.{walked}
use Rattle.msb_paths.specs.Segments.{is_backslash}
use Rattle.msb_paths.proofs.normal.walk_part.Given as goal

-- what is left of the walk ends where the whole walk ends
abbrev pub invariant-loop-segment : goal.invariant-loop-segment
invariant-loop-segment l =
    walked (drop (length l.yielded) (slice_split is_backslash l.part))
    (map (λ name. name.now) l.names.items)
    ≡ walked (slice_split is_backslash l.part) (map (λ name. name.now) l.initial.names.items)
