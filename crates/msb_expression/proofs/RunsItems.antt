-- The machine over an item reference.
use Rattle.std.proofs.Common.{
  ◌≡◌,
  ℕ,
  List,
  [],
  ◌∷◌,
  ◌++◌,
  Option,
  Some,
  None,
  refl,
  sym,
  ap,
  ◌∙◌,
  subst,
  append_assoc,
  inl,
  inr,
}
use Rattle.std.proofs.lemmas.List.{append-nil}
use Rattle.std.proofs.lemmas.Bool.{eqb-true}
use Rattle.msb_expression.specs.declared.expression.Part.{Part}
use Rattle.msb_expression.specs.declared.expression.Part.TheVariants.{Items}
use Rattle.msb_expression.specs.declared.expression.Step.{Step}
use Rattle.msb_expression.specs.declared.expression.Step.TheVariants.{Transform as Transforms, Call}
use Rattle.msb_expression.specs.declared.expression.Piece.{Piece}
use Rattle.msb_expression.specs.declared.sorts.Sort.TheVariants.{Space, Greater}
use Rattle.msb_expression.specs.Grammar.{
  IsSpaces,
  Joins,
  IsListed,
  IsArgs,
  IsAct,
  IsStep,
  IsSeparator,
  IsPart,
}
use Rattle.msb_expression.specs.Machine.{
  is_name_sort,
  sort_of,
  Heads,
  in_transform,
  in_separator,
  in_argument,
  whole,
  unmarked,
  in_text,
  type_opened,
  stepping,
  dashed,
  arrow,
  function_ended,
  args_opened,
  arg_ended,
  arg_wanted,
  separator_wanted,
  separator_ended,
  heads_of,
  with_step,
  with_steps,
  closed,
  run,
}
use Rattle.msb_expression.proofs.Runs.{run-go, run-spaces, run-function_named}
use Rattle.msb_expression.specs.Answers.{EndsType}
use Rattle.msb_expression.proofs.TypeNames.{run-type}
use Rattle.msb_expression.proofs.RunsText.{reach_items}
use Rattle.msb_expression.proofs.RunsPieces.{quoted_runs}

-- the other arguments
listed_runs : (heads : Heads) (function : List ℕ) (had args : List (List Piece))
    (text rest : List ℕ) → Joins IsListed text args
    → run (text ++ rest) (arg_ended heads function had)
    ≡ run rest (arg_ended heads function (had ++ args))
listed_runs heads function had [] text rest h =
    ap (λ t. run (t ++ rest) (arg_ended heads function had)) h
    ∙ ap (λ list. run rest (arg_ended heads function list)) (sym (append-nil had))
listed_runs heads function had (arg ∷ args) text rest h =
    ap (λ t. run t (arg_ended heads function had))
    (ap (λ t. t ++ rest) (h.2 ∙ ap (λ t. t ++ h.1) h.3.4) ∙ simp append_assoc)
    ∙ run-spaces (arg_ended heads function had) h.3.0 (44 ∷ (h.3.1 ++ (h.1 ++ rest))) refl h.3.2
    ∙ run-go 44 (h.3.1 ++ (h.1 ++ rest)) (arg_ended heads function had)
    (arg_wanted heads function had) refl
    ∙ quoted_runs (arg_wanted heads function had) (in_argument heads function had) h.3.1 arg
    (h.1 ++ rest) refl refl h.3.3 (λ e. cc)
    ∙ listed_runs heads function (had ++ arg ∷ []) args h.1 rest h.4
    ∙ ap (λ list. run rest (arg_ended heads function list)) (append_assoc had (arg ∷ []) args)

pub args_run : (heads : Heads) (function : List ℕ) (args : List (List Piece)) (text rest : List ℕ)
    → IsArgs text args → run (text ++ 41 ∷ rest) (args_opened heads function)
    ≡ run rest (stepping (with_step heads (Call function args)))
args_run heads function [] text rest h =
    run-spaces (args_opened heads function) text (41 ∷ rest) refl h
    ∙ run-go 41 rest (args_opened heads function) (stepping (with_step heads (Call function [])))
    refl
args_run heads function (arg ∷ args) text rest h =
    ap (λ t. run t (args_opened heads function)) (ap (λ t. t ++ 41 ∷ rest) h.6 ∙ simp append_assoc)
    ∙ quoted_runs (args_opened heads function) (in_argument heads function []) h.0 arg
    (h.1 ++ (h.2 ++ 41 ∷ rest)) refl refl h.3 (λ e. cc)
    ∙ listed_runs heads function (arg ∷ []) args h.1 (h.2 ++ 41 ∷ rest) h.4
    ∙ run-spaces (arg_ended heads function (arg ∷ args)) h.2 (41 ∷ rest) refl h.5
    ∙ run-go 41 rest (arg_ended heads function (arg ∷ args))
    (stepping (with_step heads (Call function (arg ∷ args)))) refl

act_runs : (heads : Heads) (step : Step) (text rest : List ℕ) → IsAct text step
    → run (text ++ rest) (arrow heads) ≡ run rest (stepping (with_step heads step))
act_runs heads (Transforms pieces) text rest h =
    quoted_runs (arrow heads) (in_transform heads) text pieces rest refl refl h (λ e. cc)
act_runs heads (Call function args) text rest h =
    ap (λ t. run t (arrow heads)) (ap (λ t. t ++ rest) h.4 ∙ simp append_assoc)
    ∙ run-function_named heads h.0 function (40 ∷ (h.1 ++ 41 ∷ rest)) h.2 refl
    ∙ run-go 40 (h.1 ++ 41 ∷ rest) (function_ended heads function) (args_opened heads function) refl
    ∙ args_run heads function args h.1 rest h.3

pub step_runs : (heads : Heads) (step : Step) (text rest : List ℕ) → IsStep text step
    → run (text ++ rest) (stepping heads) ≡ run rest (stepping (with_step heads step))
step_runs heads step text rest h =
    ap (λ t. run t (stepping heads)) (ap (λ t. t ++ rest) h.4 ∙ simp append_assoc)
    ∙ run-spaces (stepping heads) h.0 (45 ∷ 62 ∷ (h.1 ++ rest)) refl h.2
    ∙ run-go 45 (62 ∷ (h.1 ++ rest)) (stepping heads) (dashed heads) refl
    ∙ run-go 62 (h.1 ++ rest) (dashed heads) (arrow heads) refl
    ∙ act_runs heads step h.1 rest h.3

pub steps_run : (heads : Heads) (steps : List Step) (text rest : List ℕ) → Joins IsStep text steps
    → run (text ++ rest) (stepping heads) ≡ run rest (stepping (with_steps heads steps))
steps_run heads [] text rest h =
    ap (λ t. run (t ++ rest) (stepping heads)) h
    ∙ ap
    (λ list.
    run rest (stepping (record { parts = heads.parts; kind = heads.kind; steps = list })))
    (sym (append-nil heads.steps))
steps_run heads (step ∷ steps) text rest h =
    ap (λ t. run t (stepping heads)) (ap (λ t. t ++ rest) h.2 ∙ append_assoc h.0 h.1 rest)
    ∙ step_runs heads step h.0 (h.1 ++ rest) h.3
    ∙ steps_run (with_step heads step) steps h.1 rest h.4
    ∙ ap
    (λ list.
    run rest (stepping (record { parts = heads.parts; kind = heads.kind; steps = list })))
    (append_assoc heads.steps (step ∷ []) steps)

pub separator_runs : (heads : Heads) (separator : Option (List Piece)) (text after rest : List ℕ)
    → IsSeparator text separator → IsSpaces after
    → run (text ++ (after ++ 41 ∷ rest)) (stepping heads) ≡ run rest (closed heads separator)
separator_runs heads None text after rest h s =
    ap (λ t. run (t ++ (after ++ 41 ∷ rest)) (stepping heads)) h
    ∙ run-spaces (stepping heads) after (41 ∷ rest) refl s
    ∙ run-go 41 rest (stepping heads) (closed heads None) refl
separator_runs heads (Some pieces) text after rest h s =
    ap (λ t. run t (stepping heads)) (ap (λ t. t ++ (after ++ 41 ∷ rest)) h.4 ∙ simp append_assoc)
    ∙ run-spaces (stepping heads) h.0 (44 ∷ (h.1 ++ (after ++ 41 ∷ rest))) refl h.2
    ∙ run-go 44 (h.1 ++ (after ++ 41 ∷ rest)) (stepping heads) (separator_wanted heads) refl
    ∙ quoted_runs (separator_wanted heads) (in_separator heads) h.1 pieces
    (after ++ 41 ∷ rest) refl refl h.3 (λ e. cc)
    ∙ run-spaces (separator_ended heads pieces) after (41 ∷ rest) refl s
    ∙ run-go 41 rest (separator_ended heads pieces) (closed heads (Some pieces)) refl

spaced_ends : (kind spaces rest : List ℕ) → IsSpaces spaces → EndsType kind rest
    → EndsType kind (spaces ++ rest)
spaced_ends kind [] rest s e = e
spaced_ends kind (b ∷ bs) rest s e =
    let p : b ≡ 32 = eqb-true b 32 s.0 in
    inl (
      ap (λ c. is_name_sort (sort_of c)) p,
      λ front f g. let k : Space
          ≡ Greater = ap sort_of (sym p) ∙ g in cc,
    )

separator_ends : (kind text after rest : List ℕ) (separator : Option (List Piece))
    → IsSeparator text separator → IsSpaces after → EndsType kind (text ++ (after ++ 41 ∷ rest))
separator_ends kind text after rest None h s =
    subst (λ t. EndsType kind (t ++ (after ++ 41 ∷ rest))) (sym h)
    (spaced_ends kind after (41 ∷ rest) s (inl (refl, λ front f g. cc)))
separator_ends kind text after rest (Some pieces) h s =
    let split : text ++ (after ++ 41 ∷ rest) ≡ h.0 ++ 44
    ∷ (h.1 ++ (after ++ 41 ∷ rest)) = ap (λ t. t ++ (after ++ 41 ∷ rest)) h.4
    ∙ simp append_assoc in
    subst (λ t. EndsType kind t) (sym split)
    (spaced_ends kind h.0 (44 ∷ (h.1 ++ (after ++ 41 ∷ rest))) h.2
    (inl (refl, λ front f g. cc)))

steps_end : (kind text more : List ℕ) (steps : List Step) → Joins IsStep text steps
    → EndsType kind more → EndsType kind (text ++ more)
steps_end kind text more [] h e = subst (λ t. EndsType kind (t ++ more)) (sym h) e
steps_end kind text more (step ∷ steps) h e =
    let split : text ++ more ≡ h.3.0 ++ 45 ∷ 62
    ∷ (h.3.1 ++ (h.1 ++ more)) = ap (λ t. t ++ more) (h.2 ∙ ap (λ t. t ++ h.1) h.3.4)
    ∙ simp append_assoc in
    subst (λ t. EndsType kind t) (sym split)
    (spaced_ends kind h.3.0 (45 ∷ 62 ∷ (h.3.1 ++ (h.1 ++ more))) h.3.2
    (inr (h.3.1 ++ (h.1 ++ more), refl)))

pub items_run : (parts : List Part) (kind : List ℕ) (steps : List Step)
    (separator : Option (List Piece)) (text rest : List ℕ)
    → IsPart text (Items kind steps separator)
    → run (text ++ rest) (in_text (whole parts) [] unmarked)
    ≡ run rest (in_text (whole (parts ++ Items kind steps separator ∷ [])) [] unmarked)
items_run parts kind steps separator text rest h =
    let behind : List ℕ = h.2 ++ (h.3 ++ 41 ∷ rest) in
    ap (λ t. run t (in_text (whole parts) [] unmarked))
    (ap (λ t. t ++ rest) h.9 ∙ simp append_assoc)
    ∙ reach_items parts [] unmarked (h.0 ++ (kind ++ (h.1 ++ behind)))
    ∙ run-spaces (type_opened parts) h.0 (kind ++ (h.1 ++ behind)) refl h.4
    ∙ run-type parts kind (h.1 ++ behind) h.5
    (steps_end kind h.1 behind steps h.6 (separator_ends kind h.2 h.3 rest separator h.7 h.8))
    ∙ steps_run (heads_of parts kind) steps h.1 behind h.6
    ∙ separator_runs (with_steps (heads_of parts kind) steps) separator h.2 h.3 rest h.7 h.8
