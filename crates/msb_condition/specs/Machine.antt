-- How the grammar takes the tokens of a condition one after another: what is open around each
-- place, and what may follow.
use Rattle.std.specs.Prelude.{
  ℕ,
  ◌+◌,
  ◌-◌,
  Bool,
  true,
  false,
  nat_lt,
  ◌||◌,
  List,
  [],
  ◌∷◌,
  length,
  drop,
  Option,
  Some,
  None,
  Result,
  Ok,
  Err,
  if◌then◌else◌,
}
use Rattle.msb_laws.specs.Words.{Text}
use Rattle.msb_expression.specs.declared.expression.Part.{Part}
use Rattle.msb_expression.specs.declared.expression.Part.TheVariants.{Plain}
use Rattle.msb_expression.specs.declared.faults.ExprFault.{ExprFault}
use Rattle.msb_expression.specs.declared.faults.ExprFault.TheVariants.{
  Unclosed,
  BadName,
  BadTransform,
  NestedTransform,
  Memory,
}
use Rattle.msb_expression.specs.Reading.{reading}
use Rattle.msb_condition.specs.declared.condition.Comparison.{Comparison}
use Rattle.msb_condition.specs.declared.condition.Comparison.TheVariants.{NotEqual}
use Rattle.msb_condition.specs.declared.condition.Function.{Function}
use Rattle.msb_condition.specs.declared.tokens.Kind.{Kind}
use Rattle.msb_condition.specs.declared.tokens.Kind.TheVariants.{
  Bang,
  Equals,
  Compare,
  Open,
  Close,
  Word,
  Quoted,
  Unended,
  Reference,
  Sign,
}
use Rattle.msb_condition.specs.Tokens.{Token, is_and, is_or, keyword_len}
use Rattle.msb_condition.specs.Grammar.{function_of, of_parts, inner_of}
use Rattle.msb_condition.specs.Trees.{Operand, call, Tree, either, both, negated, compared, truth}

-- why a condition is not read: a byte that can't stand there, or the fault of an expression in it,
-- with its place
pub data Refusal : Type 0 where
  syntax : ℕ → Refusal
  inside : ExprFault → Refusal

-- what waits for its end: `left Or`, `left And`, `!`, `(`, `left ==` and `Exists(`
pub data Frame : Type 0 where
  or_of : (left : Tree) → Frame
  and_of : (left : Tree) → Frame
  not_of : Frame
  group_of : Frame
  comparison_of : Comparison → (left : Operand) → Frame
  call_of : Function → Frame

-- what is read last: nothing or what wants an operand; the name of a function, which may also be a
-- word; an operand; a tree that no comparison can be a part of
pub data State : Type 0 where
  wants : State
  named : Function → (word : Text) → State
  operand : Operand → State
  done : Tree → State

pub data Next : Type 0 where
  go : List Frame → State → Next
  stop : Refusal → Next

-- `!` and `(`
abbrev pub is_nested : Frame → Bool
is_nested not_of = true
is_nested group_of = true
is_nested (call_of function) = true
is_nested _ = false

abbrev pub depth : List Frame → ℕ
depth [] = 0
depth (frame ∷ frames) = if is_nested frame then depth frames + 1 else depth frames

abbrev pub has_room : List Frame → Bool
has_room frames = nat_lt (depth frames) 64

-- behind a comparison and in a function no `!` and no `(` can stand
abbrev pub wants_operand : List Frame → Bool
wants_operand [] = false
wants_operand (comparison_of comparison left ∷ frames) = true
wants_operand (call_of function ∷ frames) = true
wants_operand (frame ∷ frames) = false

-- a unary ends the `!` before it, and an `And`
abbrev pub end_unary : List Frame → Tree → Next
end_unary (not_of ∷ frames) tree = end_unary frames (negated tree)
end_unary (and_of left ∷ frames) tree = go frames (done (both left tree))
end_unary frames tree = go frames (done tree)

-- an operand ends the comparison before it
abbrev pub end_operand : List Frame → Operand → Next
end_operand (comparison_of comparison left ∷ frames) right = end_unary frames
    (compared comparison left right)
end_operand frames right = go frames (operand right)

-- the fault of a text that begins at a place
abbrev pub moved : ℕ → ExprFault → ExprFault
moved place (Unclosed n) = Unclosed (place + n)
moved place (BadName n) = BadName (place + n)
moved place (BadTransform n) = BadTransform (place + n)
moved place (NestedTransform n) = NestedTransform (place + n)
moved place Memory = Memory

abbrev pub end_text : List Frame → ℕ → Result (List Part) ExprFault → Next
end_text frames place (Ok parts) = end_operand frames (of_parts parts)
end_text frames place (Err fault) = stop (inside (moved place fault))

-- a text without its last quote, which goes on to the end
abbrev pub end_unended : ℕ → ℕ → Result (List Part) ExprFault → Next
end_unended place size (Ok parts) = stop (syntax (place + size))
end_unended place size (Err fault) = stop (inside (moved place fault))

abbrev pub end_word : List Frame → Text → Option Function → Next
end_word frames word None = end_operand frames (of_parts (Plain word ∷ []))
end_word frames word (Some function) = go frames (named function word)

-- `and` and `or` may go on as longer words, so the byte behind them is bad
abbrev pub word_step : List Frame → ℕ → Text → Next
word_step frames place word =
    if is_and word || is_or word then stop (syntax (place + length word)) else end_word frames word
    (function_of word)

-- where an operand is wanted
abbrev pub operand_step : List Frame → Kind → ℕ → Text → Next
operand_step frames Word place bytes = word_step frames place bytes
operand_step frames Quoted place bytes = end_text frames (place + 1) (reading (inner_of bytes))
operand_step frames Unended place bytes = end_unended (place + 1) (length bytes - 1)
    (reading (drop 1 bytes))
operand_step frames Reference place bytes = end_text frames place (reading bytes)
operand_step frames Sign place bytes = stop (syntax (place + 1))
operand_step frames _ place bytes = stop (syntax place)

-- one more `!` or `(`, where there is room
abbrev pub nested : List Frame → Frame → ℕ → Next
nested frames frame place = if has_room frames then go (frame ∷ frames) wants else stop
    (syntax place)

-- `!=` begins with a `!`
abbrev pub nested_not_equal : List Frame → ℕ → Next
nested_not_equal frames place = stop (syntax (if has_room frames then place + 1 else place))

-- where a unary is wanted
abbrev pub unary_step : List Frame → Kind → ℕ → Text → Next
unary_step frames Bang place bytes = nested frames not_of place
unary_step frames (Compare NotEqual) place bytes = nested_not_equal frames place
unary_step frames Open place bytes = nested frames group_of place
unary_step frames kind place bytes = operand_step frames kind place bytes

abbrev pub wants_step : List Frame → Kind → ℕ → Text → Next
wants_step frames kind place bytes = if wants_operand frames then operand_step frames kind place
    bytes else unary_step frames kind place bytes

-- an `or` ends what stands before its `Or`
abbrev pub end_or : List Frame → Tree → List Frame × Tree
end_or (or_of left ∷ frames) tree = (frames, either left tree)
end_or frames tree = (frames, tree)

abbrev pub more_or : List Frame × Tree → Next
more_or ended = go (or_of ended.1 ∷ ended.0) wants

abbrev pub end_group : List Frame × Tree → ℕ → Next
end_group (group_of ∷ frames, tree) place = end_unary frames tree
end_group (frames, tree) place = stop (syntax place)

-- behind a whole tree
abbrev pub tree_step : List Frame → Tree → Kind → ℕ → Text → Next
tree_step frames tree Word place bytes =
    if is_and bytes then go (and_of tree ∷ frames) wants else
    if is_or bytes then more_or (end_or frames tree) else stop (syntax (place + keyword_len bytes))
tree_step frames tree Close place bytes = end_group (end_or frames tree) place
tree_step frames tree _ place bytes = stop (syntax place)

-- the step behind what ended
abbrev pub on_tree : Next → Kind → ℕ → Text → Next
on_tree (go frames (done tree)) kind place bytes = tree_step frames tree kind place bytes
on_tree next kind place bytes = next

-- behind an operand that a comparison may follow
abbrev pub comparable_step : List Frame → Operand → Kind → ℕ → Text → Next
comparable_step frames left (Compare comparison) place bytes = go
    (comparison_of comparison left ∷ frames) wants
comparable_step frames left Equals place bytes = stop (syntax (place + 1))
comparable_step frames left Bang place bytes = stop (syntax (place + 1))
comparable_step frames left kind place bytes = on_tree (end_unary frames (truth left)) kind place
    bytes

-- behind the operand of a function
abbrev pub call_step : List Frame → Function → Operand → Kind → ℕ → Next
call_step frames function inner Close place = end_operand frames (call function inner)
call_step frames function inner _ place = stop (syntax place)

-- behind an operand
abbrev pub behind_step : List Frame → Operand → Kind → ℕ → Text → Next
behind_step (call_of function ∷ frames) inner kind place bytes = call_step frames function inner
    kind place
behind_step frames left kind place bytes = comparable_step frames left kind place bytes

-- behind an operand, or the tree that it ended
abbrev pub on_operand : Next → Kind → ℕ → Text → Next
on_operand (go frames (operand left)) kind place bytes = behind_step frames left kind place bytes
on_operand next kind place bytes = on_tree next kind place bytes

-- behind the name of a function, which is a word where no `(` follows
abbrev pub named_step : List Frame → Function → Text → Kind → ℕ → Text → Next
named_step frames function word Open place bytes = nested frames (call_of function) place
named_step frames function word kind place bytes = on_operand
    (end_operand frames (of_parts (Plain word ∷ []))) kind place bytes

abbrev pub step_of : List Frame → State → Kind → ℕ → Text → Next
step_of frames wants kind place bytes = wants_step frames kind place bytes
step_of frames (named function word) kind place bytes = named_step frames function word kind place
    bytes
step_of frames (operand left) kind place bytes = behind_step frames left kind place bytes
step_of frames (done tree) kind place bytes = tree_step frames tree kind place bytes

-- the end of a text of this length
abbrev pub finished : ℕ → List Frame × Tree → Result Tree Refusal
finished len ([], tree) = Ok tree
finished len (frame ∷ frames, tree) = Err (syntax len)

abbrev pub finish_tree : ℕ → Next → Result Tree Refusal
finish_tree len (go frames (done tree)) = finished len (end_or frames tree)
finish_tree len next = Err (syntax len)

abbrev pub finish_left : ℕ → List Frame → Operand → Result Tree Refusal
finish_left len (call_of function ∷ frames) left = Err (syntax len)
finish_left len frames left = finish_tree len (end_unary frames (truth left))

abbrev pub finish_operand : ℕ → Next → Result Tree Refusal
finish_operand len (go frames (operand left)) = finish_left len frames left
finish_operand len next = finish_tree len next

abbrev pub finish : ℕ → List Frame → State → Result Tree Refusal
finish len frames wants = Err (syntax len)
finish len frames (named function word) = finish_operand len
    (end_operand frames (of_parts (Plain word ∷ [])))
finish len frames (operand left) = finish_left len frames left
finish len frames (done tree) = finish_tree len (go frames (done tree))

abbrev pub on : Next → (List Frame → State → Result Tree Refusal) → Result Tree Refusal
on (go frames state) more = more frames state
on (stop refusal) more = Err refusal

-- the tokens that are left, of a text of this length
abbrev pub run : ℕ → List Token → List Frame → State → Result Tree Refusal
run len [] frames state = finish len frames state
run len (token ∷ tokens) frames state = on (step_of frames state token.kind token.place token.bytes)
    (run len tokens)
