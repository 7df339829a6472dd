use Rattle.std.proofs.Common.{map, option_copied}
use Rattle.msb_glob.specs.Match.{segment_token, segments_left}
use Rattle.msb_glob.specs.Search.{Searching, effort}
use Rattle.msb_glob.proofs.parts.fits_left.Given as goal

abbrev pub invariant-loop-segment : goal.invariant-loop-segment
invariant-loop-segment l =
    Searching (map segment_token l.parts) (segments_left (option_copied l.left)) l.place.at
    (segments_left (option_copied l.place.rest)) l.place.star
    (segments_left (option_copied l.place.from))

abbrev pub decreases-loop-segment : goal.decreases-loop-segment
decreases-loop-segment l = effort (map segment_token l.parts) l.place.at
    (segments_left (option_copied l.place.from))
