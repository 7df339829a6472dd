-- What stands in place of a part, as it is handed on.
use Rattle.std.specs.Prelude.{◌≡◌, List, [], ◌∷◌, map, option_copied, Result, Ok, Err}
use Rattle.msb_expand.specs.declared.tokens.Reference.{Reference}
use Rattle.msb_expand.specs.declared.tokens.Token.{Token as Taken}
use Rattle.msb_expand.specs.declared.tokens.Token.TheVariants.{Plain, Value, Kept, Items, Again}
use Rattle.msb_expand.specs.declared.faults.ExpandFault.{ExpandFault}
use Rattle.msb_expand.specs.declared.faults.ExpandFault.TheVariants.{
  ItemsHere,
  MetadataHere,
  UnknownFunction,
  BadArgument,
  Overflow,
  TooLong,
  MixedList,
  BadPath,
  Expr,
  Memory,
}
use Rattle.msb_expand.specs.CowTexts.{cow_text}
use Rattle.msb_expand.specs.Tokens.{Token, written, referred, faulty, again_token}

abbrev pub reference_token : Reference → Token
reference_token reference = referred reference.kind.now reference.steps.now
    (option_copied reference.separator)

abbrev pub taken_tokens : Taken → List Token
taken_tokens (Plain text) = written text.now ∷ []
taken_tokens (Value text) = written (cow_text text) ∷ []
taken_tokens (Kept text) = written text ∷ []
taken_tokens (Items reference) = reference_token reference ∷ []
taken_tokens (Again expr) = map again_token expr.parts

-- what is handed on is these tokens, but for want of memory
abbrev pub Takes : Result Taken ExpandFault → List Token → Type 0
Takes (Ok taken) tokens = tokens ≡ taken_tokens taken
Takes (Err ItemsHere) tokens = tokens ≡ faulty ItemsHere ∷ []
Takes (Err MetadataHere) tokens = tokens ≡ faulty MetadataHere ∷ []
Takes (Err (UnknownFunction name)) tokens = tokens ≡ faulty (UnknownFunction name) ∷ []
Takes (Err (BadArgument name)) tokens = tokens ≡ faulty (BadArgument name) ∷ []
Takes (Err (Overflow name)) tokens = tokens ≡ faulty (Overflow name) ∷ []
Takes (Err TooLong) tokens = tokens ≡ faulty TooLong ∷ []
Takes (Err MixedList) tokens = tokens ≡ faulty MixedList ∷ []
Takes (Err (BadPath ident)) tokens = tokens ≡ faulty (BadPath ident) ∷ []
Takes (Err (Expr fault)) tokens = tokens ≡ faulty (Expr fault) ∷ []
Takes (Err Memory) tokens = Unit {0}
