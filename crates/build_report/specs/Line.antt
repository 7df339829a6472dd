-- A line of printed text. (MSBuild command-line reference.)
use Rattle.std.specs.Prelude.{[], ◌∷◌, ◌++◌}
use Rattle.msb_laws.specs.Words.{Text}

-- a line, ended by LF
abbrev pub line : Text → Text
line text = text ++ 10 ∷ []
