-- Normal paths, and how a text is made one.
use Rattle.std.specs.Prelude.{
  ◌-◌,
  Bool,
  false,
  ◌==◌,
  List,
  [],
  ◌∷◌,
  ◌++◌,
  length,
  take,
  Option,
  Some,
  None,
  option_and_then,
  Result,
  Ok,
  Err,
  if◌then◌else◌,
}
use Rattle.std.specs.List.{list_all, slice_split, join_with_byte}
use Rattle.msb_laws.specs.Words.{Path, Text}
use Rattle.msb_paths.specs.Segments.{
  is_slash,
  is_separator,
  segments,
  is_printable,
  is_here,
  is_parent,
  is_normal_segment,
}
use Rattle.msb_paths.specs.declared.errors.PathFault.{PathFault}
use Rattle.msb_paths.specs.declared.errors.PathFault.TheVariants.{AboveRoot, Empty}

-- one or more normal segments joined by `/`
abbrev pub is_normal : Text → Bool
is_normal path = list_all is_normal_segment (slice_split is_slash path)

-- no character below U+0020 stands in the text
abbrev pub is_clean : Text → Bool
is_clean text = list_all is_printable text

-- a text that begins with a separator starts at the root
abbrev pub is_rooted : Text → Bool
is_rooted [] = false
is_rooted (byte ∷ rest) = is_separator byte

-- where a text starts: at the root, or else at the base
abbrev pub start_of : Path → Text → Path
start_of base text = if is_rooted text then [] else base

-- the folder around the last one; the root has none
abbrev pub parent_of : List Text → Option (List Text)
parent_of names = if length names == 0 then None else Some (take (length names - 1) names)

-- the place that one segment leads to, as the names from the root down
abbrev pub entered : List Text → Text → Option (List Text)
entered names segment =
    if is_here segment then Some names else
    (if is_parent segment then parent_of names else Some (names ++ segment ∷ []))

-- the place that the segments lead to, taken from the left
abbrev pub walked : List Text → List Text → Option (List Text)
walked [] names = Some names
walked (segment ∷ rest) names = option_and_then (walked rest) (entered names segment)

-- the path of a place, which is neither above the root nor the root itself
abbrev pub path_of : Option (List Text) → Result Path PathFault
path_of None = Err AboveRoot
path_of (Some []) = Err Empty
path_of (Some (name ∷ names)) = Ok (join_with_byte 47 (name ∷ names))

-- the text on the base folder, made normal
abbrev pub normalized : Path → Text → Result Path PathFault
normalized base text = path_of (walked (segments (start_of base text) ++ segments text) [])
