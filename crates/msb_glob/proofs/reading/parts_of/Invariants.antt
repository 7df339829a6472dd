use Rattle.std.proofs.Common.{◌≡◌, ◌++◌, map, length, option_copied}
use Rattle.std.specs.List.{slice_split}
use Rattle.msb_paths.specs.Segments.{is_slash}
use Rattle.msb_glob.specs.Match.{segments_left}
use Rattle.msb_glob.specs.Parsed.{part_of}
use Rattle.msb_glob.proofs.reading.parts_of.Given as goal

abbrev pub invariant-loop-segment : goal.invariant-loop-segment
invariant-loop-segment l = l.parts ++ map part_of (segments_left (option_copied l.left))
    ≡ map part_of (slice_split is_slash l.path)

abbrev pub decreases-loop-segment : goal.decreases-loop-segment
decreases-loop-segment l = length (segments_left (option_copied l.left))
