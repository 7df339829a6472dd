-- An expression as a text without the spaces that the grammar allows.
use Rattle.std.specs.Prelude.{List, [], ◌∷◌, ◌++◌, Option, Some, None, codes}
use Rattle.std.specs.List.{flat_map}
use Rattle.msb_laws.specs.Words.{Text, Name}
use Rattle.msb_expression.specs.declared.expression.Part.{Part}
use Rattle.msb_expression.specs.declared.expression.Part.TheVariants.{
  Plain,
  Prop,
  Func,
  Meta,
  Items,
}
use Rattle.msb_expression.specs.declared.expression.Call.{Call as PropertyCall}
use Rattle.msb_expression.specs.declared.expression.Step.{Step}
use Rattle.msb_expression.specs.declared.expression.Step.TheVariants.{Transform, Call}
use Rattle.msb_expression.specs.declared.expression.Piece.{Piece}
use Rattle.msb_expression.specs.declared.expression.Piece.TheVariants.{
  Plain as PlainPiece,
  Prop as PropPiece,
  Meta as MetaPiece,
}

abbrev pub piece_text : Piece → Text
piece_text (PlainPiece plain) = plain
piece_text (PropPiece name) = codes "$(" ++ name ++ codes ")"
piece_text (MetaPiece name) = codes "%(" ++ name ++ codes ")"

abbrev pub quoted_text : List Piece → Text
quoted_text pieces = codes "'" ++ flat_map piece_text pieces ++ codes "'"

abbrev pub listed_text : List Piece → Text
listed_text pieces = codes "," ++ quoted_text pieces

abbrev pub args_text : List (List Piece) → Text
args_text [] = []
args_text (arg ∷ args) = quoted_text arg ++ flat_map listed_text args

-- a call of a property function, whose arguments are written in quotes
abbrev pub parenthesized_text : Option (List (List Piece)) → Text
parenthesized_text None = []
parenthesized_text (Some args) = codes "(" ++ args_text args ++ codes ")"

abbrev pub call_text : PropertyCall → Text
call_text call = call.name ++ parenthesized_text call.args

abbrev pub dotted_text : PropertyCall → Text
dotted_text call = codes "." ++ call_text call

-- behind `::` the first call has no `.` before it
abbrev pub build_calls_text : List PropertyCall → Text
build_calls_text [] = []
build_calls_text (call ∷ calls) = call_text call ++ flat_map dotted_text calls

abbrev pub function_text : Option Name → List PropertyCall → Text
function_text (Some name) calls = codes "$(" ++ name ++ flat_map dotted_text calls ++ codes ")"
function_text None calls = codes "$([MSBuild]::" ++ build_calls_text calls ++ codes ")"

abbrev pub step_text : Step → Text
step_text (Transform pieces) = codes "->" ++ quoted_text pieces
step_text (Call function args) = codes "->" ++ function ++ codes "(" ++ args_text args ++ codes ")"

abbrev pub separator_text : Option (List Piece) → Text
separator_text None = []
separator_text (Some pieces) = listed_text pieces

abbrev pub part_text : Part → Text
part_text (Plain plain) = plain
part_text (Prop name) = codes "$(" ++ name ++ codes ")"
part_text (Func subject calls) = function_text subject calls
part_text (Meta None name) = codes "%(" ++ name ++ codes ")"
part_text (Meta (Some kind) name) = codes "%(" ++ kind ++ codes "." ++ name ++ codes ")"
part_text (Items kind steps separator) = codes
    "@(" ++ kind ++ flat_map step_text steps ++ separator_text separator ++ codes ")"

abbrev pub text_of : List Part → Text
text_of = flat_map part_text
