-- What the first fault of a value that is read again is for the whole.
use Rattle.std.proofs.Common.{◌≡◌, refl, ◌∙◌, List, [], ◌∷◌, map, Result, Ok, Err, ap}
use Rattle.msb_expression.specs.declared.expression.Part.{Part}
use Rattle.msb_expression.specs.declared.faults.ExprFault.{ExprFault}
use Rattle.msb_expand.specs.declared.faults.ExpandFault.{ExpandFault}
use Rattle.msb_expand.specs.declared.faults.ExpandFault.TheVariants.{
  ItemsHere,
  MetadataHere,
  UnknownFunction,
  BadArgument,
  Overflow,
  TooLong,
  MixedList,
  BadPath,
  Expr,
  Memory,
}
use Rattle.msb_expand.specs.Again.{read_again}
use Rattle.msb_expand.specs.Answers.{Gives}
use Rattle.msb_expand.specs.Taken.{Takes}
use Rattle.msb_expand.specs.Tokens.{Token, faulty, again_token, again_tokens}

-- the tokens by what is read again
tokens_of : Result (List Part) ExpandFault → List Token
tokens_of (Ok parts) = map again_token parts
tokens_of (Err fault) = faulty fault ∷ []

are_these : (r : Result (List Part) ExprFault) → again_tokens r ≡ tokens_of (read_again r)
unfolding tokens_of
are_these (Ok parts) = refl
are_these (Err fault) = refl

-- a fault stands in place of the value
pub again_stops : (e : ExpandFault) (r : Result (List Part) ExprFault)
    → Gives {T = List Part} (Err e) (read_again r) → Takes (Err e) (again_tokens r)
unfolding tokens_of
again_stops ItemsHere r h = are_these r ∙ ap tokens_of h
again_stops MetadataHere r h = are_these r ∙ ap tokens_of h
again_stops (UnknownFunction name) r h = are_these r ∙ ap tokens_of h
again_stops (BadArgument name) r h = are_these r ∙ ap tokens_of h
again_stops (Overflow name) r h = are_these r ∙ ap tokens_of h
again_stops TooLong r h = are_these r ∙ ap tokens_of h
again_stops MixedList r h = are_these r ∙ ap tokens_of h
again_stops (BadPath ident) r h = are_these r ∙ ap tokens_of h
again_stops (Expr fault) r h = are_these r ∙ ap tokens_of h
again_stops Memory r h = tt
