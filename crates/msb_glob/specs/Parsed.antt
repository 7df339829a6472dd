-- What a pattern's text says. (MSBuild items, wildcards to specify items)
use Rattle.std.specs.Prelude.{
  ℕ,
  ◌-◌,
  Bool,
  true,
  false,
  ◌||◌,
  ◌&&◌,
  not,
  ◌==◌,
  List,
  [],
  ◌∷◌,
  ◌++◌,
  map,
  length,
  slice_get,
  codes,
  Option,
  Some,
  None,
  Result,
  Ok,
  Err,
  if◌then◌else◌,
}
use Rattle.std.specs.List.{slice_split, list_any, before_first}
use Rattle.std.specs.Str.{bytes_eq, chars}
use Rattle.msb_laws.specs.Words.{Text, Path}
use Rattle.msb_paths.specs.Segments.{is_slash, is_backslash, segments}
use Rattle.msb_paths.specs.Normal.{normalized}
use Rattle.msb_paths.specs.Parts.{relative_dir}
use Rattle.msb_paths.specs.declared.errors.PathFault.{PathFault}
use Rattle.msb_values.specs.Escapes.{escaped, unescaped}
use Rattle.msb_glob.specs.declared.errors.GlobFault.{GlobFault}
use Rattle.msb_glob.specs.declared.errors.GlobFault.TheVariants.{StarsInSegment, Path as BadPath}
use Rattle.msb_glob.specs.declared.pieces.Piece.{Piece}
use Rattle.msb_glob.specs.declared.pieces.Piece.TheVariants.{AnyCharacters, AnyCharacter, Character}
use Rattle.msb_glob.specs.declared.parts.Part.{Part}
use Rattle.msb_glob.specs.declared.parts.Part.TheVariants.{AnyFolders, Exact, Segment}

-- the fixed part as written, what the paths below the folder that it leads to begin with, and the
-- parts of the whole
pub record Reading : Type 0 where
  pub fixed : Text
  pub folder : Text
  pub parts : List Part

abbrev pub is_star : ℕ → Bool
is_star byte = byte == 42

abbrev pub is_question : ℕ → Bool
is_question byte = byte == 63

-- the lists one after another, with x between them
abbrev pub parted_by : {A : Type 0} → A → List (List A) → List A
parted_by x [] = []
parted_by x (list ∷ []) = list
parted_by x (list ∷ next ∷ lists) = list ++ x ∷ parted_by x (next ∷ lists)

-- a text around its wildcards, with `plain` of each text between them
abbrev pub around_questions : {A : Type 0} → A → (Text → List A) → Text → List A
around_questions question plain text = parted_by question (map plain (slice_split is_question text))

abbrev pub around_wildcards : {A : Type 0} → A → A → (Text → List A) → Text → List A
around_wildcards star question plain text = parted_by star
    (map (around_questions question plain) (slice_split is_star text))

-- a text that has its wildcards, and each other character as itself or as the escape of a special
-- one
abbrev pub literal : Text → Text
literal text = escaped (unescaped text)

abbrev pub cleared : Text → Text
cleared text = around_wildcards 42 63 literal text

-- two stars in a row, the first of which may stand ahead of the text
abbrev pub doubles_star : Bool → Text → Bool
doubles_star before [] = false
doubles_star before (byte ∷ bytes) = (before && is_star byte) || doubles_star (is_star byte) bytes

-- `**` beside other characters
abbrev pub has_stars_inside : Text → Bool
has_stars_inside segment = doubles_star false segment && not (bytes_eq segment (codes "**"))

-- a segment's pieces, and a path's parts
abbrev pub characters : Text → List Piece
characters text = map Character (chars (unescaped text))

abbrev pub pieces_of : Text → List Piece
pieces_of segment = around_wildcards AnyCharacters AnyCharacter characters segment

abbrev pub is_wildcard : ℕ → Bool
is_wildcard byte = is_star byte || is_question byte

-- an entry of a list is a pattern if it has a wildcard that is not escaped
abbrev pub is_pattern : Text → Bool
is_pattern text = list_any is_wildcard text

-- a segment without wildcards stands for itself
abbrev pub part_of : Text → Part
part_of segment = if bytes_eq segment (codes "**") then AnyFolders else if is_pattern segment then
    Segment (pieces_of segment) else Exact (unescaped segment)

abbrev pub is_folders : Option Part → Bool
is_folders None = false
is_folders (Some AnyFolders) = true
is_folders (Some (Exact text)) = false
is_folders (Some (Segment pieces)) = false

-- as a last segment, `**` stands for folders and one more segment
abbrev pub closed : List Part → List Part
closed parts = if is_folders (slice_get parts (length parts - 1)) then parts
    ++ Segment (AnyCharacters ∷ []) ∷ [] else parts

abbrev pub parts_of : Path → List Part
parts_of path = closed (map part_of (slice_split is_slash path))

-- the folders ahead of the first segment with a wildcard, as written
abbrev pub fixed_text : Text → Text
fixed_text text = relative_dir (before_first is_question (before_first is_star text))

-- the text with `/` for each `\`
abbrev pub with_slashes : Text → Text
with_slashes text = map (λ byte. if is_backslash byte then 47 else byte) text

-- what the paths below a folder begin with, which is nothing for the root
abbrev pub below : Result Path PathFault → Text
below (Ok folder) = folder ++ 47 ∷ []
below (Err fault) = []

-- the folder that the fixed part leads to from the base
abbrev pub fixed_folder : Path → Text → Result Path PathFault
fixed_folder base text = normalized base (unescaped (fixed_text text))

abbrev pub reading_of : Path → Text → Path → Reading
reading_of base text path = record {
  fixed = with_slashes (fixed_text text);
  folder = below (fixed_folder base text);
  parts = parts_of path;
}

abbrev pub read_path : Path → Text → Result Path PathFault → Result Reading GlobFault
read_path base text (Ok path) = Ok (reading_of base text path)
read_path base text (Err fault) = Err (BadPath fault)

-- a text on a base folder as a pattern: made normal like a path, its wildcards kept
abbrev pub parsed : Path → Text → Result Reading GlobFault
parsed base text = if list_any has_stars_inside (segments text) then Err StarsInSegment else
    read_path base text (normalized (escaped base) (cleared text))
