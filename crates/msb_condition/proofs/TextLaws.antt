-- The texts of several conditions, one after another.
use Rattle.std.proofs.Common.{
  ◌≡◌,
  List,
  [],
  ◌∷◌,
  ◌++◌,
  map,
  Bor,
  OnOk,
  Result,
  Ok,
  Err,
  sym,
  ap,
  ◌∙◌,
  append_assoc,
}
use Rattle.std.specs.Global.{Box, Vec}
use Rattle.std.specs.List.{fold, flat_map}
use Rattle.std.proofs.lemmas.List.{append-nil, map-append}
use Rattle.std.proofs.lemmas.List.Concat.{flat_map-cons}
use Rattle.msb_expression.specs.declared.expression.Expr.{Expr}
use Rattle.msb_condition.specs.declared.condition.Comparison.{Comparison}
use Rattle.msb_condition.specs.declared.condition.Operand.{Operand}
use Rattle.msb_condition.specs.declared.condition.Cond.{Cond}
use Rattle.msb_condition.specs.declared.condition.Cond.TheFolds.{fold-roll-Cond}
use Rattle.msb_condition.specs.declared.condition.Cond.TheOpen as open_cond
use Rattle.msb_condition.specs.declared.condition.Cond.TheVariants.{
  Compare,
  Truth,
  rolls-Or,
  rolls-And,
  rolls-Compare,
}
use Rattle.msb_condition.specs.declared.condition.Cond.TheViews.{Or, And}
use Rattle.msb_condition.specs.Texts.{expr_of, texts_of}
use Rattle.msb_condition.specs.Trees.{Tree, either, both}
use Rattle.msb_condition.specs.View.{operand_of, tree_of, view_step}
use Rattle.msb_condition.proofs.TreeLaws.{truth_tree}

either_texts : (first : Tree) (others : List Tree)
    → texts_of (fold either first others) ≡ texts_of first ++ flat_map texts_of others
either_texts first [] = sym (append-nil (texts_of first))
either_texts first (other ∷ others) =
    either_texts (either first other) others
    ∙ append_assoc (texts_of first) (texts_of other) (flat_map texts_of others)
    ∙ ap (λ texts. texts_of first ++ texts) (sym (flat_map-cons texts_of other others))

both_texts : (first : Tree) (others : List Tree)
    → texts_of (fold both first others) ≡ texts_of first ++ flat_map texts_of others
both_texts first [] = sym (append-nil (texts_of first))
both_texts first (other ∷ others) =
    both_texts (both first other) others
    ∙ append_assoc (texts_of first) (texts_of other) (flat_map texts_of others)
    ∙ ap (λ texts. texts_of first ++ texts) (sym (flat_map-cons texts_of other others))

or_texts : (first : Box Cond) (others : Vec Cond)
    → texts_of (tree_of (Or first others)) ≡ texts_of (tree_of first.value)
    ++ flat_map texts_of (map tree_of others.items)
or_texts first others =
    ap (λ cond. texts_of (tree_of cond)) (sym (rolls-Or first others))
    ∙ ap texts_of (fold-roll-Cond Tree view_step (open_cond.Or first others))
    ∙ either_texts (tree_of first.value) (map tree_of others.items)

and_texts : (first : Box Cond) (others : Vec Cond)
    → texts_of (tree_of (And first others)) ≡ texts_of (tree_of first.value)
    ++ flat_map texts_of (map tree_of others.items)
and_texts first others =
    ap (λ cond. texts_of (tree_of cond)) (sym (rolls-And first others))
    ∙ ap texts_of (fold-roll-Cond Tree view_step (open_cond.And first others))
    ∙ both_texts (tree_of first.value) (map tree_of others.items)

pub or_parts : (all : Cond) (first : Box Cond) (others : Vec Cond) (left : Cond) (right : List Cond)
    → all ≡ Or first others → left ≡ first.value → right ≡ others.items
    → texts_of (tree_of all) ≡ texts_of (tree_of left) ++ flat_map texts_of (map tree_of right)
or_parts all first others left right is left_is right_is =
    ap (λ cond. texts_of (tree_of cond)) is
    ∙ or_texts first others
    ∙ ap (λ cond. texts_of (tree_of cond) ++ flat_map texts_of (map tree_of others.items))
    (sym left_is)
    ∙ ap (λ conds. texts_of (tree_of left) ++ flat_map texts_of (map tree_of conds)) (sym right_is)

pub and_parts : (all : Cond) (first : Box Cond) (others : Vec Cond) (left : Cond)
    (right : List Cond) → all ≡ And first others → left ≡ first.value → right ≡ others.items
    → texts_of (tree_of all) ≡ texts_of (tree_of left) ++ flat_map texts_of (map tree_of right)
and_parts all first others left right is left_is right_is =
    ap (λ cond. texts_of (tree_of cond)) is
    ∙ and_texts first others
    ∙ ap (λ cond. texts_of (tree_of cond) ++ flat_map texts_of (map tree_of others.items))
    (sym left_is)
    ∙ ap (λ conds. texts_of (tree_of left) ++ flat_map texts_of (map tree_of conds)) (sym right_is)

-- the texts of a condition behind others, by those of its parts
pub put_all : {T E : Type 0} (r : Result T E) (old mid new : List Expr) (first : Cond)
    (others : List Cond) (all : Cond)
    → texts_of (tree_of all) ≡ texts_of (tree_of first) ++ flat_map texts_of (map tree_of others)
    → mid ≡ old ++ texts_of (tree_of first)
    → OnOk r (new ≡ mid ++ flat_map texts_of (map tree_of others))
    → OnOk r (new ≡ old ++ texts_of (tree_of all))
put_all (Ok x) old mid new first others all parts mid_is new_is =
    new_is
    ∙ ap (λ texts. texts ++ flat_map texts_of (map tree_of others)) mid_is
    ∙ append_assoc old (texts_of (tree_of first)) (flat_map texts_of (map tree_of others))
    ∙ ap (λ texts. old ++ texts) (sym parts)
put_all (Err e) old mid new first others all parts mid_is new_is = tt

put : (old new : List (Bor Expr)) (text : Bor Expr) → new ≡ old ++ (text ∷ [])
    → map (λ (t : Bor Expr). t.now) new ≡ map (λ (t : Bor Expr). t.now) old ++ (text.now ∷ [])
put old new text is = ap (map (λ (t : Bor Expr). t.now)) is
    ∙ map-append (λ (t : Bor Expr). t.now) old (text ∷ [])

pub put_one : (old new : List (Bor Expr)) (text : Bor Expr) (all : Cond) (operand : Operand)
    → all ≡ Truth operand → new ≡ old ++ (text ∷ []) → text.now ≡ expr_of (operand_of operand)
    → map (λ (t : Bor Expr). t.now) new ≡ map (λ (t : Bor Expr). t.now) old
    ++ texts_of (tree_of all)
put_one old new text all operand is new_is text_is =
    put old new text new_is
    ∙ ap (λ t. map (λ (u : Bor Expr). u.now) old ++ (t ∷ [])) text_is
    ∙ ap (λ tree. map (λ (u : Bor Expr). u.now) old ++ texts_of tree)
    (sym (ap tree_of is ∙ truth_tree operand))

compare_tree : (comparison : Comparison) (left right : Operand)
    → texts_of (tree_of (Compare comparison left right))
    ≡ expr_of (operand_of left) ∷ expr_of (operand_of right) ∷ []
compare_tree comparison left right =
    ap (λ cond. texts_of (tree_of cond)) (sym (rolls-Compare comparison left right))
    ∙ ap texts_of (fold-roll-Cond Tree view_step (open_cond.Compare comparison left right))

pub put_two : (old mid new : List (Bor Expr)) (first second : Bor Expr) (all : Cond)
    (comparison : Comparison) (left right : Operand) → all ≡ Compare comparison left right
    → mid ≡ old ++ (first ∷ []) → new ≡ mid ++ (second ∷ []) → first.now ≡ expr_of (operand_of left)
    → second.now ≡ expr_of (operand_of right)
    → map (λ (t : Bor Expr). t.now) new ≡ map (λ (t : Bor Expr). t.now) old
    ++ texts_of (tree_of all)
put_two old mid new first second all comparison left right is mid_is new_is first_is second_is =
    put mid new second new_is
    ∙ ap (λ ts. ts ++ (second.now ∷ [])) (put old mid first mid_is)
    ∙ append_assoc (map (λ (u : Bor Expr). u.now) old) (first.now ∷ []) (second.now ∷ [])
    ∙ ap (λ t. map (λ (u : Bor Expr). u.now) old ++ (t ∷ second.now ∷ [])) first_is
    ∙ ap (λ t. map (λ (u : Bor Expr). u.now) old ++ (expr_of (operand_of left) ∷ t ∷ [])) second_is
    ∙ ap (λ ts. map (λ (u : Bor Expr). u.now) old ++ ts)
    (sym (ap (λ cond. texts_of (tree_of cond)) is ∙ compare_tree comparison left right))
