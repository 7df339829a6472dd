-- What the first fault of the calls of a property function is for the whole.
use Rattle.std.proofs.Common.{◌≡◌, ℕ, List, [], ◌∷◌, Result, Ok, Err, ap}
use Rattle.msb_expand.specs.declared.faults.ExpandFault.{ExpandFault}
use Rattle.msb_expand.specs.declared.faults.ExpandFault.TheVariants.{
  ItemsHere,
  MetadataHere,
  UnknownFunction,
  BadArgument,
  Overflow,
  TooLong,
  MixedList,
  BadPath,
  Expr,
  Memory,
}
use Rattle.msb_expand.specs.Answers.{Gives}
use Rattle.msb_expand.specs.Taken.{Takes}
use Rattle.msb_expand.specs.Tokens.{token_of}

-- a fault stands in place of the reference
pub token_stops : (e : ExpandFault) (r : Result (List ℕ) ExpandFault) → Gives {T = List ℕ} (Err e) r
    → Takes (Err e) (token_of r ∷ [])
token_stops ItemsHere r h = ap (λ x. token_of x ∷ []) h
token_stops MetadataHere r h = ap (λ x. token_of x ∷ []) h
token_stops (UnknownFunction name) r h = ap (λ x. token_of x ∷ []) h
token_stops (BadArgument name) r h = ap (λ x. token_of x ∷ []) h
token_stops (Overflow name) r h = ap (λ x. token_of x ∷ []) h
token_stops TooLong r h = ap (λ x. token_of x ∷ []) h
token_stops MixedList r h = ap (λ x. token_of x ∷ []) h
token_stops (BadPath ident) r h = ap (λ x. token_of x ∷ []) h
token_stops (Expr fault) r h = ap (λ x. token_of x ∷ []) h
token_stops Memory r h = tt
