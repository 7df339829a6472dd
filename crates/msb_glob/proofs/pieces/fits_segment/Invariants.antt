use Rattle.std.proofs.Common.{map}
use Rattle.std.specs.Str.{chars}
use Rattle.msb_glob.specs.Match.{character_token}
use Rattle.msb_glob.specs.Search.{Searching, effort}
use Rattle.msb_glob.proofs.pieces.fits_segment.Given as goal

abbrev pub invariant-loop-character : goal.invariant-loop-character
invariant-loop-character l =
    Searching (map character_token l.pieces) (chars l.segment) l.place.at (chars l.place.rest.now)
    l.place.star (chars l.place.from.now)

abbrev pub decreases-loop-character : goal.decreases-loop-character
decreases-loop-character l = effort (map character_token l.pieces) l.place.at
    (chars l.place.from.now)
