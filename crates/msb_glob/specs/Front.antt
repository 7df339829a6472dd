-- What every path that a pattern stands for begins with.
use Rattle.std.specs.Prelude.{Bool, List, [], ◌∷◌, ◌++◌, if◌then◌else◌}
use Rattle.std.specs.List.{list_all}
use Rattle.msb_laws.specs.Words.{Text}
use Rattle.msb_glob.specs.Match.{segment_token}
use Rattle.msb_glob.specs.Search.{is_gap}
use Rattle.msb_glob.specs.declared.parts.Part.{Part}
use Rattle.msb_glob.specs.declared.parts.Part.TheVariants.{AnyFolders, Exact, Segment}

-- parts that stand for no segment at all, too
abbrev pub are_gaps : List Part → Bool
are_gaps parts = list_all (λ part. is_gap (segment_token part)) parts

-- the first segments, as far as they are without wildcards, each with `/` where another segment
-- follows
abbrev pub front_of : List Part → Text
front_of [] = []
front_of (AnyFolders ∷ parts) = []
front_of (Segment pieces ∷ parts) = []
front_of (Exact text ∷ parts) = if are_gaps parts then text else text ++ 47 ∷ front_of parts
