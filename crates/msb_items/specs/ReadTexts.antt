-- The texts of an element as the code reads them.
use Rattle.std.specs.Prelude.{List, [], ◌∷◌}
use Rattle.std.specs.List.{flat_map}
use Rattle.msb_expression.specs.declared.expression.Expr.{Expr}
use Rattle.msb_condition.specs.Texts.{texts_of}
use Rattle.msb_condition.specs.View.{tree_of}
use Rattle.msb_items.specs.declared.batched.ReadText.{ReadText}
use Rattle.msb_items.specs.declared.batched.ReadText.TheVariants.{Text, Condition}

abbrev pub exprs_of : ReadText → List Expr
exprs_of (Text expr) = expr ∷ []
exprs_of (Condition condition) = texts_of (tree_of condition)

abbrev pub exprs_in : List ReadText → List Expr
exprs_in read = flat_map exprs_of read
