-- Match: which paths a pattern stands for. (MSBuild items, wildcards to specify items)
use Rattle.std.specs.Prelude.{ℕ, Bool, true, ◌==◌, List, [], map, Option, Some, None}
use Rattle.std.specs.List.{slice_split}
use Rattle.std.specs.Str.{bytes_eq, chars}
use Rattle.msb_laws.specs.Words.{Text, Path}
use Rattle.msb_paths.specs.Segments.{is_slash}
use Rattle.msb_glob.specs.Tokens.{Token, gap, one, fits}
use Rattle.msb_glob.specs.declared.pieces.Piece.{Piece}
use Rattle.msb_glob.specs.declared.pieces.Piece.TheVariants.{AnyCharacters, AnyCharacter, Character}
use Rattle.msb_glob.specs.declared.parts.Part.{Part}
use Rattle.msb_glob.specs.declared.parts.Part.TheVariants.{AnyFolders, Exact, Segment}

-- `*` stands for any characters of one segment, `?` for one, and every other character for itself
abbrev pub character_token : Piece → Token ℕ
character_token AnyCharacters = gap
character_token AnyCharacter = one (λ _. true)
character_token (Character c) = one (λ d. d == c)

abbrev pub fits_segment : List Piece → Text → Bool
fits_segment pieces segment = fits (map character_token pieces) (chars segment)

-- `**` stands for any number of whole folders, a segment without wildcards for itself, and every
-- other for one of its form
abbrev pub segment_token : Part → Token Text
segment_token AnyFolders = gap
segment_token (Exact text) = one (bytes_eq text)
segment_token (Segment pieces) = one (fits_segment pieces)

-- a pattern's parts stand for the segments of the whole path
abbrev pub fits_path : List Part → Path → Bool
fits_path parts path = fits (map segment_token parts) (slice_split is_slash path)

-- the segments of what is left of a path, which may be nothing
abbrev pub segments_left : Option Path → List Text
segments_left None = []
segments_left (Some path) = slice_split is_slash path
