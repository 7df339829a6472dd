-- How an answer of the code is a step of the machine over the text.
use Rattle.std.specs.Prelude.{
  ◌≡◌,
  ℕ,
  ◌<◌,
  ◌≤◌,
  false,
  List,
  [],
  ◌∷◌,
  ◌++◌,
  Result,
  Ok,
  Err,
  length,
  drop,
  ◌⊎◌,
}
use Rattle.msb_laws.specs.Words.{Text, Name}
use Rattle.msb_expression.specs.declared.faults.ExprFault.{ExprFault}
use Rattle.msb_expression.specs.declared.faults.ExprFault.TheVariants.{
  Unclosed,
  BadName,
  BadTransform,
  NestedTransform,
  Memory,
}
use Rattle.msb_expression.specs.declared.sorts.Kind.TheVariants as kinds
use Rattle.msb_expression.specs.declared.sorts.Sort.TheVariants.{
  Letter,
  Digit,
  Dash,
  Greater,
  Space,
}
use Rattle.msb_expression.specs.Grammar.{IsName}
use Rattle.msb_expression.specs.declared.expression.Part.{Part}
use Rattle.msb_expression.specs.declared.sorts.Sort.{Sort}
use Rattle.msb_expression.specs.Machine.{
  Outcome,
  done,
  bad,
  early,
  first_sort,
  is_name_sort,
  Host,
  Named,
  dot_step,
  Mode,
  go,
  stop,
  step_of,
  finish,
  run,
  begin,
}

-- the fault is the outcome's, with its place in the text
abbrev pub Refuses : Text → ExprFault → Outcome → Type 0
Refuses bytes (Unclosed place) outcome = (outcome ≡ early) × (place ≡ length bytes)
Refuses bytes (BadName place) outcome = (outcome ≡ bad kinds.Name (drop place bytes))
    × (place < length bytes)
Refuses bytes (BadTransform place) outcome = (outcome ≡ bad kinds.Transform (drop place bytes))
    × (place < length bytes)
Refuses bytes (NestedTransform place) outcome = (outcome ≡ bad kinds.Nested (drop place bytes))
    × (place < length bytes)
Refuses bytes Memory outcome = Unit {0}

-- what was found leads on to an outcome of what is left, or the fault is the outcome's
abbrev pub Leads : {X : Type 0} → Text → Result (X × ℕ) ExprFault → Outcome
    → (X → Text → Outcome) → Type 0
Leads bytes (Ok found) outcome go_on = outcome ≡ go_on found.0 (drop found.1 bytes)
Leads bytes (Err fault) outcome go_on = Refuses bytes fault outcome

-- the machine goes on in a mode at a place, or the fault is the outcome's
abbrev pub GoesOn : Text → Result ℕ ExprFault → Outcome → Mode → Type 0
GoesOn bytes (Ok place) outcome mode = outcome ≡ run (drop place bytes) mode
GoesOn bytes (Err fault) outcome mode = Refuses bytes fault outcome

-- spaces may stand there, then comes a byte of this sort, and no other
pub record Wants (wanted : Sort) (mode next : Mode) : Type 0 where
  pub stays : step_of mode Space 32 ≡ go mode
  pub opens : (byte : ℕ) → step_of mode wanted byte ≡ go next
  pub stops : (sort : Sort) (byte : ℕ) → (sort ≡ Space → ⊥) → (sort ≡ wanted → ⊥)
      → step_of mode sort byte ≡ stop kinds.Transform
  pub ends : finish mode ≡ early

-- spaces and a name may stand there, and no other byte; a mode grows by each byte of the name
pub record TakesName (mode : Mode) (named : Name → Mode) : Type 0 where
  pub stays : step_of mode Space 32 ≡ go mode
  pub opens : (byte : ℕ) → step_of mode Letter byte ≡ go (named (byte ∷ []))
  pub at_letter : (name : Name) (byte : ℕ)
      → step_of (named name) Letter byte ≡ go (named (name ++ byte ∷ []))
  pub at_digit : (name : Name) (byte : ℕ)
      → step_of (named name) Digit byte ≡ go (named (name ++ byte ∷ []))
  pub at_dash : (name : Name) (byte : ℕ)
      → step_of (named name) Dash byte ≡ go (named (name ++ byte ∷ []))
  pub stops : (sort : Sort) (byte : ℕ) → (sort ≡ Space → ⊥) → (sort ≡ Letter → ⊥)
      → step_of mode sort byte ≡ stop kinds.Name
  pub ends : finish mode ≡ early

-- what was read of a text, to its end
abbrev pub Reads : Text → Result (List Part) ExprFault → Type 0
Reads bytes (Ok parts) = run bytes begin ≡ done parts
Reads bytes (Err fault) = Refuses bytes fault (run bytes begin)

-- no `.` may follow such a name
abbrev pub TakesNoDot : Host → Named → Type 0
TakesNoDot host which = (name : Name) → dot_step host which name ≡ stop kinds.Name

-- a name stands from this place to another
pub record IsNameAt (bytes : Text) (start : ℕ) (name : Name) (end : ℕ) : Type 0 where
  pub is_name : IsName name
  pub split : drop start bytes ≡ name ++ drop end bytes
  pub after : start < end
  pub within : end ≤ length bytes

-- what may stand behind a type name: no byte of a name, and behind a last `-` no `>`; or `->`
abbrev pub EndsType : Name → Text → Type 0
EndsType kind rest =
    ((is_name_sort (first_sort rest) ≡ false)
    × ((front : Text) → front ++ 45 ∷ [] ≡ kind → first_sort rest ≡ Greater → ⊥))
    ⊎ ((more : Text) × (rest ≡ 45 ∷ 62 ∷ more))
