-- Whether a condition is true, from the left, or its first fault. (MSBuild conditions.)
use Rattle.std.specs.Prelude.{
  Bool,
  true,
  false,
  not,
  ◌&&◌,
  ◌==◌,
  List,
  [],
  ◌∷◌,
  length,
  codes,
  slice_index,
  Option,
  Some,
  None,
  Result,
  Ok,
  Err,
}
use Rattle.msb_laws.specs.Words.{Text, Path}
use Rattle.msb_paths.specs.Presence.{is_there}
use Rattle.msb_paths.specs.Refused.{normal_path}
use Rattle.msb_paths.specs.Segments.{is_separator}
use Rattle.msb_paths.specs.declared.errors.NormalFault.{NormalFault}
use Rattle.msb_values.specs.Escapes.{unescaped}
use Rattle.msb_values.specs.Same.{is_same_text}
use Rattle.msb_values.specs.Truths.{truth_of as boolean_of}
use Rattle.msb_expand.specs.declared.faults.ExpandFault.{ExpandFault}
use Rattle.msb_expand.specs.Scenes.{Scene}
use Rattle.msb_expand.specs.Values.{text_value}
use Rattle.msb_laws.specs.Results.{and_then, map_ok}
use Rattle.msb_condition.specs.declared.condition.Comparison.{Comparison}
use Rattle.msb_condition.specs.declared.condition.Comparison.TheVariants.{
  Equal,
  NotEqual,
  Less,
  Greater,
  LessOrEqual,
  GreaterOrEqual,
}
use Rattle.msb_condition.specs.declared.condition.Function.{Function}
use Rattle.msb_condition.specs.declared.condition.Function.TheVariants.{Exists, HasTrailingSlash}
use Rattle.msb_condition.specs.declared.faults.CondFault.{CondFault}
use Rattle.msb_condition.specs.declared.faults.CondFault.TheVariants.{
  NotBoolean,
  NotNumbers,
  Expand,
}
use Rattle.msb_condition.specs.declared.numbers.Number.{Number}
use Rattle.msb_condition.specs.Numbers.{number_of, is_less, is_equal}
use Rattle.msb_condition.specs.Trees.{
  Operand,
  text,
  call,
  Tree,
  empty,
  either,
  both,
  negated,
  compared,
  truth,
}

-- what a condition sees: the scope, the folder that Exists starts from, and the paths of the files
pub record View : Type 0 where
  pub scene : Scene
  pub folder : Path
  pub files : List Path

-- a path of a file, or of a folder that a file lies below
abbrev pub is_found : List Path → Result Path NormalFault → Bool
is_found files (Ok path) = is_there files path
is_found files (Err fault) = false

abbrev pub exists_in : (folder : Path) (files : List Path) → Text → Bool
exists_in folder files path = not (length path == 0) && is_found files (normal_path folder path)

-- `/` or `\`
abbrev pub has_trailing_slash : Text → Bool
has_trailing_slash [] = false
has_trailing_slash (b ∷ bs) = is_separator (slice_index (b ∷ bs) (length bs))

abbrev pub function_result : View → Function → Text → Bool
function_result view Exists path = exists_in view.folder view.files path
function_result view HasTrailingSlash path = has_trailing_slash path

abbrev pub shown : Bool → Text
shown true = codes "true"
shown false = codes "false"

abbrev pub unescaped_text : Result Text ExpandFault → Result Text CondFault
unescaped_text (Ok value) = Ok (unescaped value)
unescaped_text (Err fault) = Err (Expand fault)

-- an operand as a text, without its escapes
abbrev pub operand_text : View → Operand → Result Text CondFault
operand_text view (text expr) = unescaped_text (text_value view.scene expr.parts)
operand_text view (call function inner) = map_ok
    (λ value. shown (function_result view function value)) (operand_text view inner)

abbrev pub boolean_or_fault : Text → Option Bool → Result Bool CondFault
boolean_or_fault value (Some b) = Ok b
boolean_or_fault value None = Err (NotBoolean value)

abbrev pub is_true : Text → Result Bool CondFault
is_true value = boolean_or_fault value (boolean_of value)

abbrev pub same_bool : Bool → Bool → Bool
same_bool true b = b
same_bool false b = not b

-- equal as truth values, or else as texts without case
abbrev pub same_values : Text → Text → Option Bool → Option Bool → Bool
same_values left right (Some a) (Some b) = same_bool a b
same_values left right (Some a) None = is_same_text left right
same_values left right None b = is_same_text left right

-- equal as numbers, or else so
abbrev pub same_or_equal : Text → Text → Option Number → Option Number → Bool
same_or_equal left right (Some a) (Some b) = is_equal a b
same_or_equal left right (Some a) None = same_values left right (boolean_of left) (boolean_of right)
same_or_equal left right None b = same_values left right (boolean_of left) (boolean_of right)

abbrev pub equal : Text → Text → Bool
equal left right = same_or_equal left right (number_of left) (number_of right)

abbrev pub in_order : Comparison → Number → Number → Bool
in_order Less a b = is_less a b
in_order Greater a b = is_less b a
in_order LessOrEqual a b = not (is_less b a)
in_order GreaterOrEqual a b = not (is_less a b)
in_order Equal a b = is_equal a b
in_order NotEqual a b = not (is_equal a b)

-- the order comparisons need two numbers
abbrev pub ordered : Comparison → Text → Text → Option Number → Option Number
    → Result Bool CondFault
ordered comparison left right (Some a) (Some b) = Ok (in_order comparison a b)
ordered comparison left right (Some a) None = Err (NotNumbers left right)
ordered comparison left right None b = Err (NotNumbers left right)

abbrev pub compare : Comparison → Text → Text → Result Bool CondFault
compare Equal left right = Ok (equal left right)
compare NotEqual left right = Ok (not (equal left right))
compare comparison left right = ordered comparison left right (number_of left) (number_of right)

-- the right side counts only where the left one doesn't settle it
abbrev pub or_else : Result Bool CondFault → Result Bool CondFault → Result Bool CondFault
or_else (Ok true) right = Ok true
or_else (Ok false) right = right
or_else (Err fault) right = Err fault

abbrev pub and_also : Result Bool CondFault → Result Bool CondFault → Result Bool CondFault
and_also (Ok true) right = right
and_also (Ok false) right = Ok false
and_also (Err fault) right = Err fault

abbrev pub truth_of : View → Tree → Result Bool CondFault
truth_of view empty = Ok true
truth_of view (either left right) = or_else (truth_of view left) (truth_of view right)
truth_of view (both left right) = and_also (truth_of view left) (truth_of view right)
truth_of view (negated tree) = map_ok not (truth_of view tree)
truth_of view (compared comparison left right) =
    and_then (operand_text view left)
    (λ a. and_then (operand_text view right) (λ b. compare comparison a b))
truth_of view (truth operand) = and_then (operand_text view operand) is_true

-- the truth of several conditions, of which any is enough
abbrev pub any_truth : View → List Tree → Result Bool CondFault
any_truth view [] = Ok false
any_truth view (tree ∷ trees) = or_else (truth_of view tree) (any_truth view trees)

-- or all are needed
abbrev pub every_truth : View → List Tree → Result Bool CondFault
every_truth view [] = Ok true
every_truth view (tree ∷ trees) = and_also (truth_of view tree) (every_truth view trees)
