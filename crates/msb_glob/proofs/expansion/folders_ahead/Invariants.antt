use Rattle.std.proofs.Common.{◌≡◌, ◌++◌, map, length, option_copied}
use Rattle.std.specs.List.{flat_map}
use Rattle.msb_glob.specs.Expanded.{folder_text}
use Rattle.msb_glob.specs.Match.{segment_token, segments_left}
use Rattle.msb_glob.specs.Tokens.{ahead_of, fits}
use Rattle.msb_glob.proofs.expansion.folders_ahead.Given as goal

abbrev pub invariant-loop-folder : goal.invariant-loop-folder
invariant-loop-folder l =
    l.folders
    ++ flat_map folder_text
    (ahead_of (fits (map segment_token l.parts)) (segments_left (option_copied l.left)))
    ≡ flat_map folder_text
    (ahead_of (fits (map segment_token l.parts)) (segments_left (option_copied l.place)))

abbrev pub decreases-loop-folder : goal.decreases-loop-folder
decreases-loop-folder l = length (segments_left (option_copied l.left))
