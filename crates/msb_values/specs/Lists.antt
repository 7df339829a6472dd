-- The list that a text holds. (MSBuild items.)
use Rattle.std.specs.Prelude.{ℕ, List, ◌-◌, ◌||◌, ◌==◌, Bool, not, map, filter, length, take, drop}
use Rattle.std.specs.List.{slice_split, prefix_len, suffix_len}
use Rattle.msb_laws.specs.Words.{Text}

-- space, tab, CR or LF
abbrev pub is_list_space : ℕ → Bool
is_list_space b = b == 32 || b == 9 || b == 13 || b == 10

-- the text without these at its start
abbrev pub trimmed_start : Text → Text
trimmed_start text = drop (prefix_len is_list_space text) text

-- and at its end
abbrev pub trimmed_end : Text → Text
trimmed_end text = take (length text - suffix_len is_list_space text) text

abbrev pub trimmed : Text → Text
trimmed text = trimmed_end (trimmed_start text)

abbrev pub entries_of : List Text → List Text
entries_of pieces = filter (λ entry. not (length entry == 0)) (map trimmed pieces)

-- the pieces between `;`, trimmed, without the empty ones
abbrev pub list_of : Text → List Text
list_of text = entries_of (slice_split (λ b. b == 59) text)
