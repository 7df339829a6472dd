-- The parts of an item's identity: RelativeDir, Filename and Extension.
-- (MSBuild well-known item metadata)
use Rattle.std.specs.Prelude.{ℕ, ◌-◌, Bool, ◌==◌, length, take, drop, if◌then◌else◌}
use Rattle.std.specs.List.{list_any, before_last, after_last}
use Rattle.msb_laws.specs.Words.{Text}
use Rattle.msb_paths.specs.Segments.{is_separator}

abbrev pub is_dot : ℕ → Bool
is_dot byte = byte == 46

-- what follows the last separator, or all of it without one
abbrev pub file_of : Text → Text
file_of text = after_last is_separator text

-- the text through its last separator, or nothing without one
abbrev pub relative_dir : Text → Text
relative_dir text = take (length text - length (file_of text)) text

-- a file's name up to its last dot, or all of it without one
abbrev pub file_name : Text → Text
file_name file = if list_any is_dot file then before_last is_dot file else file

abbrev pub filename : Text → Text
filename text = file_name (file_of text)

-- the file's name from its last dot on, or nothing without one
abbrev pub extension : Text → Text
extension text = drop (length (filename text)) (file_of text)
