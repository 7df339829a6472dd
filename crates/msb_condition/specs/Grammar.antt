-- The grammar of a condition's tokens, with room for so many nested `!` and `(`.
-- (MSBuild conditions.)
--
--   condition = [ or ]
--   or        = and { "Or" and }
--   and       = unary { "And" unary }
--   unary     = "!" unary | "(" or ")" | operand [ comparison operand ]
--   operand   = "'" text "'" | property | items | metadata | word | function "(" operand ")"
--   function  = "Exists" | "HasTrailingSlash"
use Rattle.std.specs.Prelude.{
  ◌≡◌,
  ℕ,
  suc,
  ◌-◌,
  true,
  false,
  List,
  [],
  ◌∷◌,
  ◌++◌,
  length,
  take,
  drop,
  codes,
  Option,
  Some,
  None,
  Ok,
  if◌then◌else◌,
}
use Rattle.std.specs.Str.{str_eq_ignore_ascii_case}
use Rattle.msb_laws.specs.Words.{Text}
use Rattle.msb_expression.specs.declared.expression.Part.{Part}
use Rattle.msb_expression.specs.declared.expression.Part.TheVariants.{Plain}
use Rattle.msb_expression.specs.Reading.{reading}
use Rattle.msb_condition.specs.declared.condition.Comparison.{Comparison}
use Rattle.msb_condition.specs.declared.condition.Function.{Function}
use Rattle.msb_condition.specs.declared.condition.Function.TheVariants.{Exists, HasTrailingSlash}
use Rattle.msb_condition.specs.declared.tokens.Kind.TheVariants.{
  Bang,
  Compare,
  Open,
  Close,
  Word,
  Quoted,
  Reference,
}
use Rattle.msb_condition.specs.Tokens.{Token, is_and, is_or, tokens_of}
use Rattle.msb_condition.specs.Trees.{
  Operand,
  text,
  call,
  Tree,
  empty,
  either,
  both,
  negated,
  compared,
  truth,
}

abbrev pub function_of : Text → Option Function
function_of word =
    if str_eq_ignore_ascii_case word (codes "Exists") then Some Exists else
    if str_eq_ignore_ascii_case word (codes "HasTrailingSlash") then Some HasTrailingSlash else None

abbrev pub of_parts : List Part → Operand
of_parts parts = text (record { parts = parts })

-- the text between the quotes
abbrev pub inner_of : Text → Text
inner_of bytes = take (length bytes - 2) (drop 1 bytes)

-- `and` and `or` are no operands outside quotes
pub record IsPlainWord (token : Token) : Type 0 where
  pub kind : token.kind ≡ Word
  pub not_and : is_and token.bytes ≡ false
  pub not_or : is_or token.bytes ≡ false

pub data IsOperand : ℕ → List Token → Operand → Type 0 where
  a_word : {room : ℕ} (token : Token) → IsPlainWord token
      → IsOperand room (token ∷ []) (of_parts (Plain token.bytes ∷ []))
  a_quoted : {room : ℕ} (token : Token) {parts : List Part} → token.kind ≡ Quoted
      → reading (inner_of token.bytes) ≡ Ok parts
      → IsOperand room (token ∷ []) (of_parts parts)
  a_reference : {room : ℕ} (token : Token) {parts : List Part} → token.kind ≡ Reference
      → reading token.bytes ≡ Ok parts
      → IsOperand room (token ∷ []) (of_parts parts)
  a_call : {room : ℕ} (word opening closing : Token) {function : Function} {inner : List Token}
      {operand : Operand}
      → word.kind ≡ Word → function_of word.bytes ≡ Some function → opening.kind ≡ Open
      → IsOperand room inner operand → closing.kind ≡ Close
      → IsOperand (suc room) (word ∷ opening ∷ inner ++ closing ∷ []) (call function operand)

mutual
  pub data IsOr : ℕ → List Token → Tree → Type 0 where
    one_and : {room : ℕ} {tokens : List Token} {tree : Tree} → IsAnd room tokens tree
        → IsOr room tokens tree
    more_or : {room : ℕ} {first second : List Token} (word : Token) {left right : Tree}
        → IsOr room first left → word.kind ≡ Word → is_or word.bytes ≡ true
        → IsAnd room second right
        → IsOr room (first ++ word ∷ second) (either left right)

  pub data IsAnd : ℕ → List Token → Tree → Type 0 where
    one_unary : {room : ℕ} {tokens : List Token} {tree : Tree} → IsUnary room tokens tree
        → IsAnd room tokens tree
    more_and : {room : ℕ} {first second : List Token} (word : Token) {left right : Tree}
        → IsAnd room first left → word.kind ≡ Word → is_and word.bytes ≡ true
        → IsUnary room second right
        → IsAnd room (first ++ word ∷ second) (both left right)

  pub data IsUnary : ℕ → List Token → Tree → Type 0 where
    a_not : {room : ℕ} (bang : Token) {inner : List Token} {tree : Tree}
        → bang.kind ≡ Bang → IsUnary room inner tree
        → IsUnary (suc room) (bang ∷ inner) (negated tree)
    a_group : {room : ℕ} (opening closing : Token) {inner : List Token} {tree : Tree}
        → opening.kind ≡ Open → IsOr room inner tree → closing.kind ≡ Close
        → IsUnary (suc room) (opening ∷ inner ++ closing ∷ []) tree
    a_truth : {room : ℕ} {tokens : List Token} {operand : Operand} → IsOperand room tokens operand
        → IsUnary room tokens (truth operand)
    a_comparison : {room : ℕ} {first second : List Token} (sign : Token) {comparison : Comparison}
        {left right : Operand}
        → IsOperand room first left → sign.kind ≡ Compare comparison → IsOperand room second right
        → IsUnary room (first ++ sign ∷ second) (compared comparison left right)

pub data IsCondition : Text → Tree → Type 0 where
  no_condition : {text : Text} → tokens_of text ≡ [] → IsCondition text empty
  a_condition : {text : Text} {tree : Tree} → IsOr 64 (tokens_of text) tree
      → IsCondition text tree
