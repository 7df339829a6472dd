-- What is written without spaces is read again.
use Rattle.std.proofs.Common.{
  ◌≡◌,
  ℕ,
  true,
  List,
  [],
  ◌∷◌,
  ◌++◌,
  Option,
  Some,
  None,
  refl,
  sym,
  subst,
  append_assoc,
  inl,
  inr,
}
use Rattle.std.specs.Prelude.{codes}
use Rattle.std.specs.List.{flat_map}
use Rattle.std.proofs.lemmas.List.{append-nil}
use Rattle.msb_expression.specs.declared.starts.Inside.{Inside}
use Rattle.msb_expression.specs.declared.starts.Inside.TheVariants.{Transform, Quoted, Loose}
use Rattle.msb_expression.specs.declared.expression.Part.{Part}
use Rattle.msb_expression.specs.declared.expression.Part.TheVariants.{
  Plain,
  Prop,
  Func,
  Meta,
  Items,
}
use Rattle.msb_expression.specs.declared.expression.Call.{Call as PropertyCall}
use Rattle.msb_expression.specs.declared.expression.Step.{Step}
use Rattle.msb_expression.specs.declared.expression.Step.TheVariants.{Transform as Transforms, Call}
use Rattle.msb_expression.specs.declared.expression.Piece.{Piece}
use Rattle.msb_expression.specs.declared.expression.Piece.TheVariants.{
  Plain as PlainPiece,
  Prop as PropPiece,
  Meta as MetaPiece,
}
use Rattle.msb_expression.specs.Grammar.{
  IsNamed,
  Joins,
  Apart,
  IsPiece,
  is_plain_piece,
  trimmed_pieces,
  IsArgument,
  IsNextArgument,
  IsArguments,
  IsParenthesized,
  IsCall,
  IsNextCall,
  IsQuoted,
  IsListed,
  IsArgs,
  IsStep,
  IsSeparator,
  IsPart,
  IsReading,
}
use Rattle.msb_expression.specs.Written.{
  piece_text,
  quoted_text,
  listed_text,
  args_text,
  parenthesized_text,
  call_text,
  dotted_text,
  step_text,
  separator_text,
  part_text,
  text_of,
}
use Rattle.msb_expression.proofs.Trimmed.{trimmed_quote, trimmed_apart}

Joins-again : {A : Type 0} (Is : List ℕ → A → Type 0) (write : A → List ℕ)
    → ((text : List ℕ) (x : A) → Is text x → Is (write x) x) → (text : List ℕ) (xs : List A)
    → Joins Is text xs → Joins Is (flat_map write xs) xs
Joins-again Is write again text [] h = refl
Joins-again Is write again text (x ∷ xs) h =
    (write x, flat_map write xs, refl, again h.0 x h.3, Joins-again Is write again h.1 xs h.4)

named : (text name : List ℕ) → IsNamed text name → IsNamed name name
named text name n = ([], [], tt, n.3, tt, sym (append-nil name))

piece_again : (inside : Inside) (text : List ℕ) (piece : Piece) → IsPiece inside text piece
    → IsPiece inside (piece_text piece) piece
piece_again inside text (PlainPiece plain) h = (h.0, refl)
piece_again inside text (PropPiece name) h = (name, named h.0 name h.1, refl)
piece_again inside text (MetaPiece name) h = (h.0, name, named h.1 name h.2, refl)

quoted_again : (inside : Inside) (text : List ℕ) (pieces : List Piece) → IsQuoted inside text pieces
    → IsQuoted inside (quoted_text pieces) pieces
quoted_again inside text pieces h = (
  [],
  flat_map piece_text pieces,
  tt,
  Joins-again (IsPiece inside) piece_text
      (piece_again inside) h.1 pieces h.3,
  h.4,
  refl,
)

listed_again : (text : List ℕ) (pieces : List Piece) → IsListed text pieces
    → IsListed (listed_text pieces) pieces
listed_again text pieces h = ([], quoted_text pieces, tt, quoted_again Quoted h.1 pieces h.3, refl)

args_again : (text : List ℕ) (args : List (List Piece)) → IsArgs text args
    → IsArgs (args_text args) args
args_again text [] h = tt
args_again text (arg ∷ args) h = (
  quoted_text arg,
  flat_map listed_text args,
  [],
  quoted_again Quoted h.0 arg h.3,
  Joins-again
      IsListed listed_text listed_again h.1 args h.4,
  tt,
  sym
      (append-nil (quoted_text arg ++ flat_map listed_text args)),
)

step_again : (text : List ℕ) (step : Step) → IsStep text step → IsStep (step_text step) step
step_again text (Transforms pieces) h =
    ([], quoted_text pieces, tt, quoted_again Transform h.1 pieces h.3, refl)
step_again text (Call function args) h = (
  [],
  (function ++ 40 ∷ []) ++ (args_text args ++ 41 ∷ []),
  tt,
  (
    function,
    args_text args,
    named h.3.0 function h.3.2,
    args_again h.3.1 args h.3.3,
    simp
        append_assoc,
  ),
  simp append_assoc,
)

separator_again : (text : List ℕ) (separator : Option (List Piece)) → IsSeparator text separator
    → IsSeparator (separator_text separator) separator
separator_again text None h = refl
separator_again text (Some pieces) h = listed_again text pieces h

-- calls of property functions
loose_again : (inner : List ℕ) (read pieces : List Piece) → Joins (IsPiece Loose) inner read
    → Apart is_plain_piece read
    → trimmed_pieces read ≡ pieces → IsQuoted Quoted (quoted_text pieces) pieces
loose_again inner read pieces j p e =
    subst (λ x. IsQuoted Quoted (quoted_text x) x) e (
      [],
      flat_map piece_text (trimmed_pieces read),
      tt,
      trimmed_quote true inner read j,
      trimmed_apart true read p,
      refl,
    )

argument_again : (text : List ℕ) (pieces : List Piece) → IsArgument text pieces
    → IsArgument (quoted_text pieces) pieces
argument_again text pieces (inl q) =
    inl (
      quoted_text pieces,
      [],
      quoted_again Quoted q.0 pieces q.2,
      tt,
      sym (append-nil (quoted_text pieces)),
    )
argument_again text pieces (inr l) =
    inl (
      quoted_text pieces,
      [],
      loose_again l.1 l.2 pieces l.6 l.7 l.8,
      tt,
      sym (append-nil (quoted_text pieces)),
    )

next_again : (text : List ℕ) (pieces : List Piece) → IsNextArgument text pieces
    → IsNextArgument (listed_text pieces) pieces
next_again text pieces h = (quoted_text pieces, argument_again h.0 pieces h.1, refl)

arguments_again : (text : List ℕ) (args : List (List Piece)) → IsArguments text args
    → IsArguments (args_text args) args
arguments_again text [] h = tt
arguments_again text (arg ∷ args) h = (
  quoted_text arg,
  flat_map listed_text args,
  argument_again h.0 arg h.2,
  Joins-again IsNextArgument listed_text next_again h.1 args h.3,
  (λ s. let k = s.0 in cc),
  refl,
)

parens_again : (text : List ℕ) (args : Option (List (List Piece))) → IsParenthesized text args
    → IsParenthesized (parenthesized_text args) args
parens_again text None h = refl
parens_again text (Some args) h = (
  args_text args,
  [],
  arguments_again h.0 args h.2,
  tt,
  sym (append-nil (parenthesized_text (Some args))),
)

call_again : (text : List ℕ) (call : PropertyCall) → IsCall text call → IsCall (call_text call) call
call_again text call h = (
  call.name,
  parenthesized_text call.args,
  named h.0 call.name h.2,
  parens_again h.1 call.args h.3,
  refl,
)

next_call_again : (text : List ℕ) (call : PropertyCall) → IsNextCall text call
    → IsNextCall (dotted_text call) call
next_call_again text call h = (call_text call, call_again h.0 call h.1, refl)

calls_again : (text : List ℕ) (calls : List PropertyCall) → Joins IsNextCall text calls
    → Joins IsNextCall (flat_map dotted_text calls) calls
calls_again text calls h = Joins-again IsNextCall dotted_text next_call_again text calls h

function_again : (text : List ℕ) (subject : Option (List ℕ)) (calls : List PropertyCall)
    → IsPart text (Func subject calls)
    → IsPart (part_text (Func subject calls)) (Func subject calls)
function_again text (Some name) calls h = (
  name ++ flat_map dotted_text calls,
  (
    name,
    flat_map dotted_text calls,
    named h.1.0 name h.1.2,
    calls_again h.1.1 calls h.1.3,
    h.1.4,
    refl,
  ),
  simp append_assoc,
)
function_again text None [] h = absurd h.1
function_again text None (call ∷ calls) h = (
  codes "[MSBuild]::" ++ (call_text call ++ flat_map dotted_text calls),
  (
    codes "[MSBuild]::",
    call_text call,
    flat_map dotted_text calls,
    refl,
    call_again h.1.1 call h.1.4,
    h.1.5,
    calls_again h.1.2 calls h.1.6,
    refl,
  ),
  simp append_assoc,
)

part_again : (text : List ℕ) (part : Part) → IsPart text part → IsPart (part_text part) part
part_again text (Plain plain) h = (h.0, refl)
part_again text (Prop name) h = (name, named h.0 name h.1, refl)
part_again text (Func subject calls) h = function_again text subject calls h
part_again text (Meta None name) h = (name, named h.0 name h.1, refl)
part_again text (Meta (Some kind) name) h =
    (kind, name, named h.0 kind h.2, named h.1 name h.3, refl)
part_again text (Items kind steps separator) h = (
  [],
  flat_map step_text steps,
  separator_text separator,
  [],
  tt,
  h.5,
  Joins-again IsStep
      step_text step_again h.1 steps h.6,
  separator_again h.2 separator h.7,
  tt,
  simp
      append_assoc,
)

pub text_again : (text : List ℕ) (parts : List Part) → IsReading text parts
    → IsReading (text_of parts) parts
text_again text parts h = (Joins-again IsPart part_text part_again text parts h.0, h.1)
