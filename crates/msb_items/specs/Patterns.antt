-- Which entries of a list are patterns. (MSBuild items, wildcards to specify items)
use Rattle.std.specs.Prelude.{Bool, ◌&&◌, Result, Ok, Err}
use Rattle.msb_laws.specs.Words.{Text}
use Rattle.msb_values.specs.declared.cause.Cause.{Cause}
use Rattle.msb_values.specs.declared.cause.Cause.TheVariants as cause
use Rattle.msb_expand.specs.Reserved.{folder_of}
use Rattle.msb_glob.specs.Parsed.{Reading, parsed, is_pattern}
use Rattle.msb_glob.specs.declared.errors.GlobFault.{GlobFault}
use Rattle.msb_glob.specs.declared.errors.GlobFault.TheVariants.{StarsInSegment, Path, Memory}
use Rattle.msb_expand.specs.declared.entry.Entry.{Entry}

-- an entry that is written is a pattern if it has a wildcard that is not escaped; what a reference
-- gives is none
abbrev pub is_pattern_entry : Entry → Bool
is_pattern_entry entry = entry.written && is_pattern entry.item.ident

abbrev pub pattern_cause : Text → GlobFault → Cause
pattern_cause text StarsInSegment = cause.StarsInSegment
pattern_cause text (Path fault) = cause.BadPath text
pattern_cause text Memory = cause.Memory

abbrev pub pattern_or_cause : Text → Result Reading GlobFault → Result Reading Cause
pattern_or_cause text (Ok pattern) = Ok pattern
pattern_or_cause text (Err fault) = Err (pattern_cause text fault)

-- a pattern of the project at a path
abbrev pub pattern_of : Text → Entry → Result Reading Cause
pattern_of project entry = pattern_or_cause entry.item.ident
    (parsed (folder_of project) entry.item.ident)
