-- The truth of several conditions, one after another.
use Rattle.std.proofs.Common.{
  ◌≡◌,
  Bool,
  true,
  false,
  List,
  [],
  ◌∷◌,
  Result,
  Ok,
  Err,
  refl,
  sym,
  ap,
  ◌∙◌,
}
use Rattle.std.specs.List.{fold}
use Rattle.msb_condition.specs.declared.faults.CondFault.{CondFault}
use Rattle.msb_condition.specs.declared.faults.CondFault.TheVariants.{
  Syntax,
  NotBoolean,
  NotNumbers,
  Expand,
  Memory,
}
use Rattle.msb_condition.specs.Answers.{Gives}
use Rattle.msb_condition.specs.Trees.{Tree, either, both}
use Rattle.msb_condition.specs.Truth.{View, truth_of, or_else, and_also, any_truth, every_truth}

or_false : (a : Result Bool CondFault) → or_else a (Ok false) ≡ a
or_false (Ok true) = refl
or_false (Ok false) = refl
or_false (Err fault) = refl

or_assoc : (a b c : Result Bool CondFault) → or_else (or_else a b) c ≡ or_else a (or_else b c)
or_assoc (Ok true) b c = refl
or_assoc (Ok false) b c = refl
or_assoc (Err fault) b c = refl

and_true : (a : Result Bool CondFault) → and_also a (Ok true) ≡ a
and_true (Ok true) = refl
and_true (Ok false) = refl
and_true (Err fault) = refl

and_assoc : (a b c : Result Bool CondFault) → and_also (and_also a b) c ≡ and_also a (and_also b c)
and_assoc (Ok true) b c = refl
and_assoc (Ok false) b c = refl
and_assoc (Err fault) b c = refl

pub or_chain : (view : View) (first : Tree) (others : List Tree)
    → truth_of view (fold either first others)
    ≡ or_else (truth_of view first) (any_truth view others)
or_chain view first [] = sym (or_false (truth_of view first))
or_chain view first (other ∷ others) = or_chain view (either first other) others
    ∙ or_assoc (truth_of view first) (truth_of view other) (any_truth view others)

pub and_chain : (view : View) (first : Tree) (others : List Tree)
    → truth_of view (fold both first others) ≡ and_also (truth_of view first)
    (every_truth view others)
and_chain view first [] = sym (and_true (truth_of view first))
and_chain view first (other ∷ others) = and_chain view (both first other) others
    ∙ and_assoc (truth_of view first) (truth_of view other) (every_truth view others)

-- a fault from the left stays
pub or_fault : (result : Result Bool CondFault) (fault : CondFault) (a b : Result Bool CondFault)
    → result ≡ Err fault → Gives result a → Gives result (or_else a b)
or_fault (Ok value) fault a b e h = cc
or_fault (Err (Syntax place)) fault a b e h = ap (λ x. or_else x b) h
or_fault (Err (NotBoolean text)) fault a b e h = ap (λ x. or_else x b) h
or_fault (Err (NotNumbers left right)) fault a b e h = ap (λ x. or_else x b) h
or_fault (Err (Expand inner)) fault a b e h = ap (λ x. or_else x b) h
or_fault (Err Memory) fault a b e h = tt

pub and_fault : (result : Result Bool CondFault) (fault : CondFault) (a b : Result Bool CondFault)
    → result ≡ Err fault → Gives result a → Gives result (and_also a b)
and_fault (Ok value) fault a b e h = cc
and_fault (Err (Syntax place)) fault a b e h = ap (λ x. and_also x b) h
and_fault (Err (NotBoolean text)) fault a b e h = ap (λ x. and_also x b) h
and_fault (Err (NotNumbers left right)) fault a b e h = ap (λ x. and_also x b) h
and_fault (Err (Expand inner)) fault a b e h = ap (λ x. and_also x b) h
and_fault (Err Memory) fault a b e h = tt
