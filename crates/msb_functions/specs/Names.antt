-- The functions by their names, in lower case.
use Rattle.std.specs.Prelude.{List, [], ◌∷◌, Option, Some, None, codes, if◌then◌else◌}
use Rattle.std.specs.Str.{bytes_eq, str_to_ascii_lowercase}
use Rattle.msb_laws.specs.Words.{Name}
use Rattle.msb_functions.specs.declared.names.TextFunction.{TextFunction}
use Rattle.msb_functions.specs.declared.names.TextFunction.TheVariants.{
  Replace,
  Substring,
  StartsWith,
  EndsWith,
  Contains,
  Trim,
}
use Rattle.msb_functions.specs.declared.names.BuildFunction.{BuildFunction}
use Rattle.msb_functions.specs.declared.names.BuildFunction.TheVariants.{
  Add,
  Subtract,
  Multiply,
  ValueOrDefault,
}

-- what has a name, in whatever case
abbrev pub at_name : {T : Type 0} → Name → List (Name × T) → Option T
at_name key [] = None
at_name key (p ∷ ps) = if bytes_eq key p.0 then Some p.1 else at_name key ps

abbrev pub named : {T : Type 0} → List (Name × T) → Name → Option T
named pairs name = at_name (str_to_ascii_lowercase name) pairs

-- of a text, with parentheses
abbrev pub text_functions : List (Name × TextFunction)
text_functions =
    (codes "replace", Replace) ∷
    (codes "substring", Substring) ∷
    (codes "startswith", StartsWith) ∷
    (codes "endswith", EndsWith) ∷
    (codes "contains", Contains) ∷
    (codes "trim", Trim) ∷ []

-- of `[MSBuild]`, with parentheses
abbrev pub build_functions : List (Name × BuildFunction)
build_functions =
    (codes "add", Add) ∷
    (codes "subtract", Subtract) ∷
    (codes "multiply", Multiply) ∷
    (codes "valueordefault", ValueOrDefault) ∷ []
