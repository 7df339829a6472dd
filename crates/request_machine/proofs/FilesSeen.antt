-- Conditions see files by Exists alone.
use Rattle.std.proofs.Common.{
  ◌≡◌,
  ℕ,
  Bool,
  true,
  false,
  ◌||◌,
  not,
  List,
  [],
  ◌∷◌,
  Option,
  None,
  Some,
  Result,
  Ok,
  Err,
  refl,
  sym,
  ap,
  ◌∙◌,
}
use Rattle.std.specs.List.{fold, list_any}
use Rattle.msb_laws.specs.Results.{and_then, map_ok}
use Rattle.msb_expand.specs.Values.{text_value}
use Rattle.msb_condition.specs.declared.condition.Function.TheVariants.{Exists, HasTrailingSlash}
use Rattle.request_machine.specs.ConditionFiles.{
  condition_asks,
  operand_asks,
  reading_asks,
  tree_asks,
}
use Rattle.msb_condition.specs.Machine.{Refusal}
use Rattle.msb_condition.specs.Reading.{condition_of}
use Rattle.msb_condition.specs.Trees.{
  Operand,
  text,
  call,
  Tree,
  empty,
  either,
  both,
  negated,
  compared,
  truth,
}
use Rattle.msb_condition.specs.Truth.{
  View,
  and_also,
  compare,
  function_result,
  is_true,
  operand_text,
  or_else,
  shown,
  truth_of,
  unescaped_text,
}
use Rattle.msb_condition.specs.Written.{condition_holds, or_cause, read_holds}

none-left : (a b : Bool) → (a || b) ≡ false → a ≡ false
none-left true b e = e
none-left false b e = refl

none-right : (a b : Bool) → (a || b) ≡ false → b ≡ false
none-right true b e = absurd (let x : true ≡ false = e in cc)
none-right false b e = e

module _ (view other : View) (same : view.scene ≡ other.scene) where
  operands-alike : (o : Operand) → operand_asks o ≡ false →
      operand_text view o ≡ operand_text other o
  operands-alike (text expr) e = ap (λ scene. unescaped_text (text_value scene expr.parts)) same
  operands-alike (call Exists inner) e = absurd (let x : true ≡ false = e in cc)
  operands-alike (call HasTrailingSlash inner) e =
      ap (map_ok (λ value. shown (function_result view HasTrailingSlash value)))
      (operands-alike inner e)

  trees-alike : (t : Tree) → tree_asks t ≡ false → truth_of view t ≡ truth_of other t
  trees-alike empty e = refl
  trees-alike (either left right) e =
      let a = trees-alike left (none-left (tree_asks left) (tree_asks right) e) in
      let b = trees-alike right (none-right (tree_asks left) (tree_asks right) e) in
      (λ i. or_else (a i) (b i))
  trees-alike (both left right) e =
      let a = trees-alike left (none-left (tree_asks left) (tree_asks right) e) in
      let b = trees-alike right (none-right (tree_asks left) (tree_asks right) e) in
      (λ i. and_also (a i) (b i))
  trees-alike (negated tree) e = ap (map_ok not) (trees-alike tree e)
  trees-alike (compared comparison left right) e =
      let a = operands-alike left (none-left (operand_asks left) (operand_asks right) e) in
      let b = operands-alike right (none-right (operand_asks left) (operand_asks right) e) in
      (λ i. and_then (a i) (λ x. and_then (b i) (λ y. compare comparison x y)))
  trees-alike (truth operand) e = ap (λ x. and_then x is_true) (operands-alike operand e)

  readings-alike : (read : Result Tree Refusal) → reading_asks read ≡ false →
      read_holds view read ≡ read_holds other read
  readings-alike (Ok tree) e = ap or_cause (trees-alike tree e)
  readings-alike (Err refusal) e = refl

  conditions-alike : (written : Option (List ℕ)) → condition_asks written ≡ false →
      condition_holds view written ≡ condition_holds other written
  conditions-alike None e = refl
  conditions-alike (Some written) e = readings-alike (condition_of written) e

pub conditions_see_files_by_exists : (view other : View) (written : Option (List ℕ)) →
    condition_asks written ≡ false → view.scene ≡ other.scene →
    condition_holds view written ≡ condition_holds other written
conditions_see_files_by_exists view other written e same =
    conditions-alike view other same written e

-- of several conditions, of which the code holds the first apart
or-false : (a : Bool) → (a || false) ≡ a
or-false true = refl
or-false false = refl

or-assoc : (a b c : Bool) → ((a || b) || c) ≡ (a || (b || c))
or-assoc true b c = refl
or-assoc false b c = refl

pub either_asks : (first : Tree) (others : List Tree) →
    tree_asks (fold either first others) ≡ (tree_asks first || list_any tree_asks others)
either_asks first [] = sym (or-false (tree_asks first))
either_asks first (other ∷ others) =
    either_asks (either first other) others
    ∙ or-assoc (tree_asks first) (tree_asks other) (list_any tree_asks others)

pub both_asks : (first : Tree) (others : List Tree) →
    tree_asks (fold both first others) ≡ (tree_asks first || list_any tree_asks others)
both_asks first [] = sym (or-false (tree_asks first))
both_asks first (other ∷ others) =
    both_asks (both first other) others
    ∙ or-assoc (tree_asks first) (tree_asks other) (list_any tree_asks others)
