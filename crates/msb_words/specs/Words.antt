-- The words that a parse may take: values, and options that have no value or one. (MSBuild
-- command-line reference.)
use Rattle.std.specs.Prelude.{◌||◌, Bool, true, false, Option, Some, None}
use Rattle.msb_laws.specs.Words.{Text}
use Rattle.msb_words.specs.Given.{is_value, option_of}

abbrev pub is_value_if : Option Text → Bool
is_value_if None = true
is_value_if (Some value) = is_value value

-- `--NAME`, or `--NAME=VALUE` where the value may be one
abbrev pub is_option_word : Option (Text × Option Text) → Bool
is_option_word None = false
is_option_word (Some cut) = is_value_if cut.1

abbrev pub is_word : Text → Bool
is_word word = is_value word || is_option_word (option_of word)
