-- Paths in byte order.
use Rattle.std.specs.Prelude.{List, [], ◌∷◌, Bool, true, ◌&&◌}
use Rattle.std.specs.List.{list_all}
use Rattle.std.specs.Ordering.{is_lt, nat_cmp}
use Rattle.std.specs.Cmp.Lexicographic.{slice_cmp}
use Rattle.msb_laws.specs.Words.{Path}

-- a path stands before another one
abbrev pub is_before : Path → Path → Bool
is_before p q = is_lt (slice_cmp nat_cmp p q)

-- each path stands before all later ones, so that they are distinct
abbrev pub are_rising : List Path → Bool
are_rising [] = true
are_rising (p ∷ ps) = list_all (is_before p) ps && are_rising ps
