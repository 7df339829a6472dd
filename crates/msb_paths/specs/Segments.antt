-- The segments of a text, which `/` and `\` part.
use Rattle.std.specs.Prelude.{ℕ, Bool, ◌||◌, ◌&&◌, not, ◌==◌, nat_le, List, length, codes}
use Rattle.std.specs.List.{list_all, slice_split}
use Rattle.std.specs.Str.{bytes_eq}
use Rattle.msb_laws.specs.Words.{Text}

-- `/`
abbrev pub is_slash : ℕ → Bool
is_slash byte = byte == 47

-- `\`, which is read as `/`
abbrev pub is_backslash : ℕ → Bool
is_backslash byte = byte == 92

abbrev pub is_separator : ℕ → Bool
is_separator byte = is_slash byte || is_backslash byte

abbrev pub segments : Text → List Text
segments text = slice_split is_separator text

-- no character below U+0020, in UTF-8
abbrev pub is_printable : ℕ → Bool
is_printable byte = nat_le 32 byte

-- a byte of a segment: no separator and no control character
abbrev pub is_plain : ℕ → Bool
is_plain byte = is_printable byte && not (is_separator byte)

-- a segment that stays where it is: empty, or `.`
abbrev pub is_here : Text → Bool
is_here segment = length segment == 0 || bytes_eq segment (codes ".")

-- the segment `..`
abbrev pub is_parent : Text → Bool
is_parent segment = bytes_eq segment (codes "..")

-- not empty, not `.` or `..`, and of plain bytes
abbrev pub is_normal_segment : Text → Bool
is_normal_segment segment = not (is_here segment) && not (is_parent segment)
    && list_all is_plain segment
