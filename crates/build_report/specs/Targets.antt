-- The targets of a project, line by line. (MSBuild command-line reference; Target build order.)
use Rattle.std.specs.Prelude.{List, [], ◌∷◌, ◌++◌, codes}
use Rattle.std.specs.List.{flat_map, join_by}
use Rattle.msb_laws.specs.Words.{Name, Text}
use Rattle.target_order.specs.declared.row.TargetRow.{TargetRow}
use Rattle.build_report.specs.Line.{line}

-- names behind a word, with a `;` between each two
abbrev pub trailing_names : List Name → Text
trailing_names [] = []
trailing_names (name ∷ names) = codes " " ++ join_by (λ n. n) (codes ";") (name ∷ names)

-- a word, and the names if there are any
abbrev pub names_line : Text → List Name → Text
names_line word names = line (word ++ trailing_names names)

abbrev pub target_line : TargetRow → Text
target_line row = line (codes "target " ++ row.name)

-- the targets that come first, the default targets and all of the project
abbrev pub targets_text : List TargetRow → List Name → List Name → Text
targets_text rows initial default =
    names_line (codes "initial") initial
    ++ names_line (codes "default") default
    ++ flat_map target_line rows
