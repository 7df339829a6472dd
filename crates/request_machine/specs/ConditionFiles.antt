-- Whether a condition asks for files: whether it has Exists. (MSBuild conditions)
use Rattle.std.specs.Prelude.{Bool, true, false, ◌||◌, Option, None, Some, Result, Ok, Err}
use Rattle.msb_laws.specs.Words.{Text}
use Rattle.msb_condition.specs.declared.condition.Function.{Function}
use Rattle.msb_condition.specs.declared.condition.Function.TheVariants.{Exists, HasTrailingSlash}
use Rattle.msb_condition.specs.Machine.{Refusal}
use Rattle.msb_condition.specs.Reading.{condition_of}
use Rattle.msb_condition.specs.Trees.{
  Operand,
  text,
  call,
  Tree,
  empty,
  either,
  both,
  negated,
  compared,
  truth,
}

abbrev pub is_exists : Function → Bool
is_exists Exists = true
is_exists HasTrailingSlash = false

abbrev pub operand_asks : Operand → Bool
operand_asks (text expr) = false
operand_asks (call function inner) = is_exists function || operand_asks inner

abbrev pub tree_asks : Tree → Bool
tree_asks empty = false
tree_asks (either left right) = tree_asks left || tree_asks right
tree_asks (both left right) = tree_asks left || tree_asks right
tree_asks (negated tree) = tree_asks tree
tree_asks (compared comparison left right) = operand_asks left || operand_asks right
tree_asks (truth operand) = operand_asks operand

-- one that can't be read asks nothing: it has the same fault whatever the files are
abbrev pub reading_asks : Result Tree Refusal → Bool
reading_asks (Ok tree) = tree_asks tree
reading_asks (Err refusal) = false

-- as it is written; an absent one asks nothing
abbrev pub condition_asks : Option Text → Bool
condition_asks None = false
condition_asks (Some written) = reading_asks (condition_of written)
