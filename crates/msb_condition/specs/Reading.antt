-- What a condition is read as: its tree, or its refusal. (MSBuild conditions.)
use Rattle.std.specs.Prelude.{◌≡◌, ℕ, List, [], ◌∷◌, Result, Ok, Err, length}
use Rattle.msb_laws.specs.Words.{Text}
use Rattle.msb_condition.specs.declared.condition.Cond.{Cond}
use Rattle.msb_condition.specs.declared.faults.CondFault.{CondFault}
use Rattle.msb_condition.specs.declared.faults.CondFault.TheVariants.{
  Syntax,
  NotBoolean,
  NotNumbers,
  Expand,
}
use Rattle.msb_condition.specs.declared.faults.CondFault.TheVariants as fault
use Rattle.msb_expand.specs.declared.faults.ExpandFault.TheVariants.{Expr}
use Rattle.msb_condition.specs.Tokens.{Token, tokens_of}
use Rattle.msb_condition.specs.Trees.{Tree, empty}
use Rattle.msb_condition.specs.View.{tree_of}
use Rattle.msb_condition.specs.Machine.{Refusal, syntax, inside, wants, run}

abbrev pub read_tokens : ℕ → List Token → Result Tree Refusal
read_tokens len [] = Ok empty
read_tokens len (token ∷ tokens) = run len (token ∷ tokens) [] wants

abbrev pub condition_of : Text → Result Tree Refusal
condition_of text = read_tokens (length text) (tokens_of text)

-- the fault is the refusal, but for want of memory
abbrev pub IsRefused : CondFault → Result Tree Refusal → Type 0
IsRefused (Syntax place) read = read ≡ Err (syntax place)
IsRefused (Expand (Expr fault)) read = read ≡ Err (inside fault)
IsRefused (Expand _) read = ⊥
IsRefused (NotBoolean text) read = ⊥
IsRefused (NotNumbers left right) read = ⊥
IsRefused fault.Memory read = Unit {0}

-- the answer is this tree or this refusal
abbrev pub IsRead : Result Cond CondFault → Result Tree Refusal → Type 0
IsRead (Ok cond) read = read ≡ Ok (tree_of cond)
IsRead (Err fault) read = IsRefused fault read
