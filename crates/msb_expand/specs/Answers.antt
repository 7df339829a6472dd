-- How an answer is the one that a definition gives, but for want of memory.
use Rattle.std.specs.Prelude.{◌≡◌, Result, Ok, Err}
use Rattle.msb_laws.specs.Results.{map_ok}
use Rattle.msb_expand.specs.declared.faults.ExpandFault.{ExpandFault}
use Rattle.msb_expand.specs.declared.faults.ExpandFault.TheVariants.{
  ItemsHere,
  MetadataHere,
  UnknownFunction,
  BadArgument,
  Overflow,
  TooLong,
  MixedList,
  BadPath,
  Expr,
  Memory,
}

abbrev pub Gives : {T : Type 0} → Result T ExpandFault → Result T ExpandFault → Type 0
Gives (Ok value) answer = answer ≡ Ok value
Gives (Err ItemsHere) answer = answer ≡ Err ItemsHere
Gives (Err MetadataHere) answer = answer ≡ Err MetadataHere
Gives (Err (UnknownFunction name)) answer = answer ≡ Err (UnknownFunction name)
Gives (Err (BadArgument name)) answer = answer ≡ Err (BadArgument name)
Gives (Err (Overflow name)) answer = answer ≡ Err (Overflow name)
Gives (Err TooLong) answer = answer ≡ Err TooLong
Gives (Err MixedList) answer = answer ≡ Err MixedList
Gives (Err (BadPath ident)) answer = answer ≡ Err (BadPath ident)
Gives (Err (Expr fault)) answer = answer ≡ Err (Expr fault)
Gives (Err Memory) answer = Unit {0}

-- the same of what the answer is seen as
abbrev pub GivesAs : {T U : Type 0} → (T → U) → Result T ExpandFault → Result U ExpandFault → Type 0
GivesAs view result answer = Gives (map_ok view result) answer
