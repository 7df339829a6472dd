-- What a text is read as: its parts, or its refusal with the place.
use Rattle.std.specs.Prelude.{◌≡◌, ℕ, ◌-◌, List, Result, Ok, Err, length}
use Rattle.msb_laws.specs.Words.{Text}
use Rattle.msb_expression.specs.declared.expression.Part.{Part}
use Rattle.msb_expression.specs.declared.expression.Expr.{Expr}
use Rattle.msb_expression.specs.declared.sorts.Kind.{Kind}
use Rattle.msb_expression.specs.declared.sorts.Kind.TheVariants.{Name, Transform, Nested}
use Rattle.msb_expression.specs.declared.faults.ExprFault.{ExprFault}
use Rattle.msb_expression.specs.declared.faults.ExprFault.TheVariants.{
  Unclosed,
  BadName,
  BadTransform,
  NestedTransform,
  Memory,
}
use Rattle.msb_expression.specs.Machine.{Outcome, done, bad, early, run, begin}

-- the refusal of a bad byte of this kind at a place
abbrev pub fault_at : Kind → ℕ → ExprFault
fault_at Name place = BadName place
fault_at Transform place = BadTransform place
fault_at Nested place = NestedTransform place

-- of a text of this length
abbrev pub read_as : ℕ → Outcome → Result (List Part) ExprFault
read_as len (done parts) = Ok parts
read_as len (bad kind rest) = Err (fault_at kind (len - length rest))
read_as len early = Err (Unclosed len)

abbrev pub reading : Text → Result (List Part) ExprFault
reading text = read_as (length text) (run text begin)

-- the answer is this reading, but for want of memory
abbrev pub IsRead : Result Expr ExprFault → Result (List Part) ExprFault → Type 0
IsRead (Ok expr) read = read ≡ Ok expr.parts
IsRead (Err (Unclosed place)) read = read ≡ Err (Unclosed place)
IsRead (Err (BadName place)) read = read ≡ Err (BadName place)
IsRead (Err (BadTransform place)) read = read ≡ Err (BadTransform place)
IsRead (Err (NestedTransform place)) read = read ≡ Err (NestedTransform place)
IsRead (Err Memory) read = Unit {0}
