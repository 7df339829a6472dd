use Rattle.std.proofs.Common.{◌≡◌, map, drop, option_copied}
use Rattle.std.specs.List.{slice_split}
use Rattle.msb_paths.specs.Segments.{is_slash}
use Rattle.msb_glob.specs.Match.{segment_token, segments_left}
use Rattle.msb_glob.specs.Tokens.{first_gap}
use Rattle.msb_glob.proofs.expansion.recursive_dir.Given as goal

abbrev pub invariant-loop-at : goal.invariant-loop-at
invariant-loop-at l =
    first_gap (map segment_token (drop l.at l.parts)) (segments_left (option_copied l.left))
    ≡ first_gap (map segment_token l.parts) (slice_split is_slash l.path)
