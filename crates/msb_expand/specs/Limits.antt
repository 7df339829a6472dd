-- How long an expansion may be: 4 MiB.
use Rattle.std.specs.Prelude.{
  ℕ,
  nat_lt,
  List,
  [],
  ◌∷◌,
  ◌++◌,
  length,
  Result,
  Ok,
  Err,
  if◌then◌else◌,
}
use Rattle.msb_laws.specs.Words.{Text}
use Rattle.msb_expand.specs.declared.faults.ExpandFault.{ExpandFault}
use Rattle.msb_expand.specs.declared.faults.ExpandFault.TheVariants.{TooLong}
use Rattle.msb_laws.specs.Results.{and_then}

abbrev pub limit : ℕ
limit = 4194304

-- the text, where it is not too long
abbrev pub if_short : Text → Result Text ExpandFault
if_short text = if nat_lt limit (length text) then Err TooLong else Ok text

-- a text and what is put behind it
abbrev pub grown : Text → Result Text ExpandFault → Result Text ExpandFault
grown text (Ok more) = if_short (text ++ more)
grown text (Err fault) = Err fault

-- a text that grows by the values of some parts, from the left
abbrev pub grown_by : {X : Type 0} → (X → Result Text ExpandFault) → Text → List X
    → Result Text ExpandFault
grown_by value text [] = Ok text
grown_by value text (x ∷ xs) = and_then (grown text (value x)) (λ longer. grown_by value longer xs)
