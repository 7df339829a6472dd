-- How an answer of the code is a step of the machine over the tokens of the text.
use Rattle.std.specs.Prelude.{
  ◌≡◌,
  ℕ,
  ◌+◌,
  ◌<◌,
  ◌≤◌,
  Bool,
  true,
  false,
  List,
  [],
  ◌∷◌,
  length,
  Result,
  Ok,
  Err,
}
use Rattle.msb_laws.specs.Words.{Text}
use Rattle.msb_expression.specs.declared.faults.ExprFault.{ExprFault}
use Rattle.msb_expression.specs.declared.faults.ExprFault.TheVariants.{
  Unclosed,
  BadName,
  BadTransform,
  NestedTransform,
  Memory as NoRoom,
}
use Rattle.msb_expand.specs.declared.faults.ExpandFault.TheVariants.{Expr}
use Rattle.msb_condition.specs.declared.faults.CondFault.{CondFault}
use Rattle.msb_condition.specs.declared.faults.CondFault.TheVariants.{Expand, Memory}
use Rattle.msb_condition.specs.declared.tokens.Kind.{Kind}
use Rattle.msb_condition.specs.declared.tokens.Kind.TheVariants.{Open, Word}
use Rattle.msb_condition.specs.declared.tokens.Token as code
use Rattle.msb_condition.specs.Machine.{
  Refusal,
  Frame,
  or_of,
  group_of,
  State,
  Next,
  on,
  run,
  depth,
  moved,
}
use Rattle.msb_condition.specs.Places.{tokens_at, token_in}
use Rattle.msb_condition.specs.Reading.{IsRefused}
use Rattle.msb_condition.specs.Tokens.{Token, is_and, is_or}
use Rattle.msb_condition.specs.Trees.{Tree}

-- what was found leads on to an outcome of the tokens that are left, or the fault is the outcome's
abbrev pub Leads : {X : Type 0} → Text → Result (X × ℕ) CondFault → Result Tree Refusal
    → (X → List Token → Result Tree Refusal) → Type 0
Leads text (Ok found) outcome go_on = outcome ≡ go_on found.0 (tokens_at found.1 text)
Leads text (Err fault) outcome go_on = IsRefused fault outcome

-- the same where only a place was found
abbrev pub GoesOn : Text → Result ℕ CondFault → Result Tree Refusal
    → (List Token → Result Tree Refusal) → Type 0
GoesOn text (Ok place) outcome go_on = outcome ≡ go_on (tokens_at place text)
GoesOn text (Err fault) outcome go_on = IsRefused fault outcome

-- the machine over the tokens of a text that are left
abbrev pub run_on : Text → List Token → List Frame → State → Result Tree Refusal
run_on text tokens frames state = run (length text) tokens frames state

abbrev pub run_at : Text → ℕ → List Frame → State → Result Tree Refusal
run_at text place frames state = run_on text (tokens_at place text) frames state

-- and from a step on
abbrev pub step_on : Text → Next → List Token → Result Tree Refusal
step_on text next tokens = on next (run (length text) tokens)

abbrev pub step_at : Text → Next → ℕ → Result Tree Refusal
step_at text next place = step_on text next (tokens_at place text)

abbrev pub bytes_in : Text → code.Token → Text
bytes_in text token = (token_in text token).bytes

-- there is room for so many more `!` and `(`
abbrev pub HasRoom : List Frame → ℕ → Type 0
HasRoom frames room = depth frames + room ≡ 64

-- an `or` can begin: at the start, or in parentheses
abbrev pub takes_or : List Frame → Bool
takes_or [] = true
takes_or (group_of ∷ frames) = true
takes_or (frame ∷ frames) = false

-- or an `and` in it, behind an `Or` too
abbrev pub takes_and : List Frame → Bool
takes_and (or_of left ∷ frames) = true
takes_and frames = takes_or frames

abbrev pub is_word : (Text → Bool) → Kind → Text → Bool
is_word test Word bytes = test bytes
is_word test _ bytes = false

-- the next token is `And`
abbrev pub starts_and : List Token → Bool
starts_and [] = false
starts_and (token ∷ tokens) = is_word is_and token.kind token.bytes

abbrev pub starts_or : List Token → Bool
starts_or [] = false
starts_or (token ∷ tokens) = is_word is_or token.kind token.bytes

-- the fault of the code is that of an expression that begins at a place
abbrev pub IsMoved : ℕ → ExprFault → CondFault → Type 0
IsMoved start NoRoom fault = fault ≡ Memory
IsMoved start inner fault = fault ≡ Expand (Expr (moved start inner))

abbrev pub is_open : Kind → Bool
is_open Open = true
is_open _ = false

-- the next token is `(`
abbrev pub starts_open : List Token → Bool
starts_open [] = false
starts_open (token ∷ tokens) = is_open token.kind

pub record IsOpenAt (text : Text) (at place end : ℕ) : Type 0 where
  pub bytes : Text
  pub next : tokens_at at text ≡ record { kind = Open; place = place; bytes = bytes }
      ∷ tokens_at end text
  pub order : place < end
  pub after : at < end
  pub within : end ≤ length text

-- an `Or` or an `And` stands behind a place and ends at another
pub record IsAt (test : Text → Bool) (text : Text) (at end : ℕ) : Type 0 where
  pub place : ℕ
  pub bytes : Text
  pub next : tokens_at at text ≡ record { kind = Word; place = place; bytes = bytes }
      ∷ tokens_at end text
  pub passes : test bytes ≡ true
  pub after : at < end
  pub within : end ≤ length text

abbrev pub IsOrAt : Text → ℕ → ℕ → Type 0
IsOrAt = IsAt is_or

abbrev pub IsAndAt : Text → ℕ → ℕ → Type 0
IsAndAt = IsAt is_and

-- its place is such
abbrev pub IsPlaced : (ℕ → Type 0) → ExprFault → Type 0
IsPlaced Is (Unclosed place) = Is place
IsPlaced Is (BadName place) = Is place
IsPlaced Is (BadTransform place) = Is place
IsPlaced Is (NestedTransform place) = Is place
IsPlaced Is NoRoom = Unit {0}
