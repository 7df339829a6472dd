-- The command line: an action and a project, options with a value each, and a flag. (MSBuild
-- command-line reference.)
use Rattle.std.specs.Prelude.{Some, true, codes}
use Rattle.msb_laws.specs.Words.{Text}
use Rattle.clap.specs.Walk.{Rule}
use Rattle.clap.specs.Simple.{App, Shape, new_app, new_rule, on_top, with_rule}
use Rattle.clap.specs.declared.builder.action.ArgAction.TheVariants.{SetTrue}

-- a word that has to be there
abbrev pub positional : Text → Rule
positional name = record (new_rule name) { required = true }

-- a word `--NAME` with a value, which may be left out
abbrev pub option : Text → Rule
option name = record (new_rule name) { long = Some name }

-- a word `--NAME` that has no value
abbrev pub flag : Text → Rule
flag name = record (new_rule name) { long = Some name; action = Some SetTrue }

-- no word is the program's name, and none asks for help
abbrev pub plain : Shape → Shape
plain shape = record shape { no_binary_name = true; disable_help_flag = true }

abbrev pub grammar : App
grammar =
    with_rule (with_rule (with_rule (with_rule (with_rule (with_rule (with_rule (with_rule
    (on_top plain (new_app (codes "msb")))
    (positional (codes "action")))
    (positional (codes "project")))
    (option (codes "target")))
    (option (codes "property")))
    (option (codes "nodes")))
    (option (codes "show")))
    (option (codes "size")))
    (flag (codes "clean"))
