-- What is read is a reading.
use Rattle.std.proofs.Common.{
  ◌≡◌,
  ℕ,
  suc,
  zero,
  ◌+◌,
  Bool,
  true,
  false,
  cond,
  List,
  [],
  ◌∷◌,
  ◌++◌,
  length,
  Option,
  Some,
  None,
  Result,
  Ok,
  Err,
  refl,
  sym,
  ap,
  ◌∙◌,
  subst,
  append_assoc,
  append-nil,
  arith,
  ◌⊎◌,
  inl,
  inr,
}
use Rattle.std.specs.Prelude.{IfOk}
use Rattle.std.proofs.lemmas.Bool.{ltb-true}
use Rattle.msb_expression.specs.declared.expression.Part.{Part}
use Rattle.msb_expression.specs.declared.expression.Part.TheVariants.{Plain}
use Rattle.msb_expression.specs.declared.faults.ExprFault.{ExprFault}
use Rattle.msb_expression.specs.Reading.{reading}
use Rattle.msb_condition.specs.declared.condition.Comparison.{Comparison}
use Rattle.msb_condition.specs.declared.condition.Comparison.TheVariants.{
  Equal,
  NotEqual,
  Less,
  Greater,
  LessOrEqual,
  GreaterOrEqual,
}
use Rattle.msb_condition.specs.declared.condition.Cond.{Cond}
use Rattle.msb_condition.specs.declared.condition.Function.{Function}
use Rattle.msb_condition.specs.declared.faults.CondFault.{CondFault}
use Rattle.msb_condition.specs.declared.tokens.Kind.{Kind}
use Rattle.msb_condition.specs.declared.tokens.Kind.TheVariants.{
  Bang,
  Equals,
  Compare,
  Open,
  Close,
  Word,
  Quoted,
  Unended,
  Reference,
  Sign,
  Other,
}
use Rattle.msb_condition.specs.Grammar.{
  function_of,
  of_parts,
  inner_of,
  IsPlainWord,
  IsOperand,
  a_word,
  a_quoted,
  a_reference,
  a_call,
  IsOr,
  one_and,
  more_or,
  IsAnd,
  one_unary,
  more_and,
  IsUnary,
  a_not,
  a_group,
  a_truth,
  a_comparison,
  IsCondition,
  no_condition,
  a_condition,
}
use Rattle.msb_condition.specs.Leads.{takes_or, takes_and}
use Rattle.msb_condition.specs.Machine as machine
use Rattle.msb_condition.specs.Machine.{
  Refusal,
  Frame,
  or_of,
  and_of,
  not_of,
  group_of,
  comparison_of,
  call_of,
  State,
  operand,
  done,
  wants,
  named,
  Next,
  go,
  stop,
  on,
  run,
  depth,
  has_room,
  nested,
  end_unary,
  end_operand,
  end_text,
  end_unended,
  end_word,
  word_step,
  operand_step,
  unary_step,
  wants_step,
  wants_operand,
  named_step,
  behind_step,
  comparable_step,
  call_step,
  tree_step,
  step_of,
  end_or,
  end_group,
  on_tree,
  on_operand,
  finish,
  finish_left,
  finish_tree,
  finish_operand,
  finished,
}
use Rattle.msb_condition.specs.Reading.{IsRead, condition_of, read_tokens}
use Rattle.msb_condition.specs.Tokens.{Token, is_and, is_or, keyword_len, tokens_of}
use Rattle.msb_condition.specs.Trees.{Operand, call, Tree, empty, negated, compared, truth}
use Rattle.msb_condition.specs.View.{tree_of}
use Rattle.msb_condition.proofs.MachineLaws.{
  IsDone,
  end_unary_done,
  IsOperand as GoesOn,
  end_operand_goes,
}

-- the frames are read of the tokens before, with room for so many more `!` and `(`
data Stack : ℕ → List Frame → List Token → Type 0 where
  bottom : Stack 64 [] []
  a_bang : {room : ℕ} {frames : List Frame} {front : List Token} (bang : Token)
      → Stack (suc room) frames front → wants_operand frames ≡ false → bang.kind ≡ Bang
      → Stack room (not_of ∷ frames) (front ++ bang ∷ [])
  an_opening : {room : ℕ} {frames : List Frame} {front : List Token} (opening : Token)
      → Stack (suc room) frames front → wants_operand frames ≡ false → opening.kind ≡ Open
      → Stack room (group_of ∷ frames) (front ++ opening ∷ [])
  an_or : {room : ℕ} {frames : List Frame} {front : List Token} (tokens : List Token) (word : Token)
      {left : Tree} → Stack room frames front → takes_or frames ≡ true → IsOr room tokens left
      → word.kind ≡ Word → is_or word.bytes ≡ true
      → Stack room (or_of left ∷ frames) (front ++ (tokens ++ word ∷ []))
  an_and : {room : ℕ} {frames : List Frame} {front : List Token} (tokens : List Token)
      (word : Token) {left : Tree} → Stack room frames front → takes_and frames ≡ true
      → IsAnd room tokens left → word.kind ≡ Word → is_and word.bytes ≡ true
      → Stack room (and_of left ∷ frames) (front ++ (tokens ++ word ∷ []))
  a_sign : {room : ℕ} {frames : List Frame} {front : List Token} (tokens : List Token)
      (sign : Token) {comparison : Comparison} {left : Operand} → Stack room frames front
      → wants_operand frames ≡ false → IsOperand room tokens left → sign.kind ≡ Compare comparison
      → Stack room (comparison_of comparison left ∷ frames) (front ++ (tokens ++ sign ∷ []))
  a_name : {room : ℕ} {frames : List Frame} {front : List Token} (word opening : Token)
      {function : Function} → Stack (suc room) frames front → word.kind ≡ Word
      → function_of word.bytes ≡ Some function → opening.kind ≡ Open
      → Stack room (call_of function ∷ frames) (front ++ word ∷ opening ∷ [])

stack_room : {room : ℕ} {frames : List Frame} {front : List Token} → Stack room frames front
    → depth frames + room ≡ 64
stack_room bottom = refl
stack_room (a_bang bang s w k) = let h = stack_room s in omega arith
stack_room (an_opening opening s w k) = let h = stack_room s in omega arith
stack_room (an_or tokens word s t d k e) = stack_room s
stack_room (an_and tokens word s t d k e) = stack_room s
stack_room (a_sign tokens sign s w d k) = stack_room s
stack_room (a_name word opening s k f o) = let h = stack_room s in omega arith

-- there is room for one more
more_room : (room : ℕ) (frames : List Frame) (front : List Token) → Stack room frames front
    → has_room frames ≡ true → (m : ℕ) × (room ≡ suc m)
more_room zero frames front s e = absurd
    (let a = stack_room s in let b = ltb-true (depth frames) 64 e in omega arith)
more_room (suc m) frames front s e = (m, refl)

abbrev free_of_sign : List Frame → Bool
free_of_sign (comparison_of comparison left ∷ frames) = false
free_of_sign _ = true

-- what is read of the tokens so far
abbrev At : ℕ → List Frame → State → List Token → Type 0
At room frames wants front = Stack room frames front
At room frames (named function word) front =
    (before : List Token) × (token : Token) × Stack room frames before × IsPlainWord token
    × (token.bytes ≡ word) × (function_of word ≡ Some function) × (front ≡ before ++ token ∷ [])
At room frames (operand left) front =
    (before : List Token) × (tokens : List Token) × Stack room frames before
    × IsOperand room tokens left × (free_of_sign frames ≡ true) × (front ≡ before ++ tokens)
At room frames (done tree) front =
    (before : List Token) × (tokens : List Token) × Stack room frames before
    × IsAnd room tokens tree × (takes_and frames ≡ true) × (front ≡ before ++ tokens)

abbrev AtNext : Next → List Token → Type 0
AtNext (go frames state) front = (room : ℕ) × At room frames state front
AtNext (stop refusal) front = Unit {0}

regroup : (before first : List Token) (token : Token) (tokens : List Token)
    → (before ++ (first ++ (token ∷ []))) ++ tokens ≡ before ++ (first ++ (token ∷ tokens))
regroup before first token tokens = append_assoc before (first ++ (token ∷ [])) tokens
    ∙ ap (λ x. before ++ x) (append_assoc first (token ∷ []) tokens)

-- a unary ends what waits for it
unary_ended : {room : ℕ} {frames : List Frame} {before : List Token} → Stack room frames before
    → (tokens : List Token) (tree : Tree) → IsUnary room tokens tree → wants_operand frames ≡ false
    → (front : List Token) → front ≡ before ++ tokens → AtNext (end_unary frames tree) front
unary_ended bottom tokens tree d w front e = (64, ([], tokens, bottom, one_unary d, refl, e))
unary_ended (a_bang {front = before} bang s u k) tokens tree d w front e =
    unary_ended s (bang ∷ tokens) (negated tree) (a_not bang k d) u front
    (e ∙ append_assoc before (bang ∷ []) tokens)
unary_ended (an_opening {room = room} {front = before} opening s u k) tokens tree d w front e =
    (room, (before ++ opening ∷ [], tokens, an_opening opening s u k, one_unary d, refl, e))
unary_ended (an_or {room = room} {front = before} first word s t a k o) tokens tree d w front e = (
  room,
  (before ++ (first ++ word ∷ []), tokens, an_or first word s t a k o, one_unary d, refl, e),
)
unary_ended (an_and {room = room} {front = before} first word s t a k o) tokens tree d w front e = (
  room,
  (
    before,
    first ++ word ∷ tokens,
    s,
    more_and word a k o d,
    t,
    e
        ∙ regroup before first word tokens,
  ),
)
unary_ended (a_sign first sign s u o k) tokens tree d w front e = cc
unary_ended (a_name word opening s k f o) tokens tree d w front e = cc

-- an operand ends the comparison that waits for it
operand_ended : {room : ℕ} {frames : List Frame} {before : List Token} → Stack room frames before
    → (tokens : List Token) (left : Operand) → IsOperand room tokens left
    → (front : List Token) → front ≡ before ++ tokens → AtNext (end_operand frames left) front
operand_ended (a_sign {front = before} first sign {comparison = comparison} {left = left} s u d k)
    tokens right r front e =
    unary_ended s (first ++ sign ∷ tokens) (compared comparison left right)
    (a_comparison sign d k r) u front
    (e ∙ regroup before first sign tokens)
operand_ended bottom tokens left d front e = (64, ([], tokens, bottom, d, refl, e))
operand_ended (a_bang {room = room} {front = before} bang s w k) tokens left d front e =
    (room, (before ++ bang ∷ [], tokens, a_bang bang s w k, d, refl, e))
operand_ended (an_opening {room = room} {front = before} opening s w k) tokens left d front e =
    (room, (before ++ opening ∷ [], tokens, an_opening opening s w k, d, refl, e))
operand_ended (an_or {room = room} {front = before} first word s t a k o) tokens left d front e =
    (room, (before ++ (first ++ word ∷ []), tokens, an_or first word s t a k o, d, refl, e))
operand_ended (an_and {room = room} {front = before} first word s t a k o) tokens left d front e =
    (room, (before ++ (first ++ word ∷ []), tokens, an_and first word s t a k o, d, refl, e))
operand_ended (a_name {room = room} {front = before} word opening s k f o) tokens left d front e =
    (room, (before ++ word ∷ opening ∷ [], tokens, a_name word opening s k f o, d, refl, e))

same_front : (front before tokens : List Token) (token : Token) → front ≡ before ++ tokens
    → front ++ token ∷ [] ≡ before ++ (tokens ++ token ∷ [])
same_front front before tokens token e = ap (λ x. x ++ token ∷ []) e
    ∙ append_assoc before tokens (token ∷ [])

-- the steps where an operand is wanted
text_read : {room : ℕ} {frames : List Frame} {front : List Token} → Stack room frames front
    → (token : Token) (place : ℕ) (read : Result (List Part) ExprFault)
    → ((parts : List Part) → read ≡ Ok parts → IsOperand room (token ∷ []) (of_parts parts))
    → AtNext (end_text frames place read) (front ++ token ∷ [])
text_read {front = front} s token place (Ok parts) d = operand_ended s (token ∷ []) (of_parts parts)
    (d parts refl) (front ++ token ∷ []) refl
text_read s token place (Err fault) d = tt

unended_read : (place size : ℕ) (read : Result (List Part) ExprFault) (front : List Token)
    → AtNext (end_unended place size read) front
unended_read place size (Ok parts) front = tt
unended_read place size (Err fault) front = tt

word_read : {room : ℕ} {frames : List Frame} {front : List Token} → Stack room frames front
    → (token : Token) → token.kind ≡ Word
    → AtNext (word_step frames token.place token.bytes) (front ++ token ∷ [])
word_read {room = room} {frames = frames} {front = front} s token k = by (is_and token.bytes) refl
    (is_or token.bytes) refl
  where
    ended : IsPlainWord token → (function : Option Function) → function_of token.bytes ≡ function
        → AtNext (end_word frames token.bytes function) (front ++ token ∷ [])
    ended p None e = operand_ended s (token ∷ []) (of_parts (Plain token.bytes ∷ []))
        (a_word token p) (front ++ token ∷ []) refl
    ended p (Some function) e = (room, (front, token, s, p, refl, e, refl))

    by : (a : Bool) → is_and token.bytes ≡ a → (o : Bool) → is_or token.bytes ≡ o
        → AtNext (word_step frames token.place token.bytes) (front ++ token ∷ [])
    by true a o b = subst (λ next. AtNext next (front ++ token ∷ []))
        (sym (let e : word_step frames token.place token.bytes
        ≡ stop (machine.syntax (token.place + length token.bytes)) = rw a refl in e)) tt
    by false a true b = subst (λ next. AtNext next (front ++ token ∷ []))
        (sym (let e : word_step frames token.place token.bytes
        ≡ stop (machine.syntax (token.place + length token.bytes)) = rw (a, b) refl in e)) tt
    by false a false b =
        subst (λ next. AtNext next (front ++ token ∷ []))
        (sym (let e : word_step frames token.place token.bytes
        ≡ end_word frames token.bytes (function_of token.bytes) = rw (a, b) refl in e))
        (ended (record { kind = k; not_and = a; not_or = b }) (function_of token.bytes) refl)

operand_read : {room : ℕ} {frames : List Frame} {front : List Token} → Stack room frames front
    → (token : Token) (kind : Kind) → token.kind ≡ kind
    → AtNext (operand_step frames kind token.place token.bytes) (front ++ token ∷ [])
operand_read s token Word k = word_read s token k
operand_read s token Quoted k = text_read s token (token.place + 1) (reading (inner_of token.bytes))
    (λ parts e. a_quoted token k e)
operand_read {front = front} s token Unended k = unended_read (token.place + 1) _ (reading _)
    (front ++ token ∷ [])
operand_read s token Reference k = text_read s token token.place (reading token.bytes)
    (λ parts e. a_reference token k e)
operand_read s token Sign k = tt
operand_read s token Bang k = tt
operand_read s token Equals k = tt
operand_read s token (Compare comparison) k = tt
operand_read s token Open k = tt
operand_read s token Close k = tt
operand_read s token Other k = tt

-- one more `!` or `(`, where there is room
nested_read : (frames : List Frame) (frame : Frame) (place : ℕ) (front : List Token)
    → (has_room frames ≡ true → AtNext (go (frame ∷ frames) wants) front)
    → AtNext (nested frames frame place) front
nested_read frames frame place front h = by (has_room frames) refl
  where
    by : (t : Bool) → has_room frames ≡ t
        → AtNext (cond t (go (frame ∷ frames) wants) (stop (machine.syntax place))) front
    by true e = h e
    by false e = tt

unary_read : {room : ℕ} {frames : List Frame} {front : List Token} → Stack room frames front
    → wants_operand frames ≡ false → (token : Token) (kind : Kind) → token.kind ≡ kind
    → AtNext (unary_step frames kind token.place token.bytes) (front ++ token ∷ [])
unary_read {room = room} {frames = frames} {front = front} s w token Bang k =
    nested_read frames not_of token.place (front ++ token ∷ [])
    (λ e. let m = more_room room frames front s e
    in (m.0, a_bang token (subst (λ n. Stack n frames front) m.1 s) w k))
unary_read {room = room} {frames = frames} {front = front} s w token Open k =
    nested_read frames group_of token.place (front ++ token ∷ [])
    (λ e. let m = more_room room frames front s e
    in (m.0, an_opening token (subst (λ n. Stack n frames front) m.1 s) w k))
unary_read s w token (Compare NotEqual) k = tt
unary_read s w token (Compare Equal) k = tt
unary_read s w token (Compare Less) k = tt
unary_read s w token (Compare Greater) k = tt
unary_read s w token (Compare LessOrEqual) k = tt
unary_read s w token (Compare GreaterOrEqual) k = tt
unary_read s w token Word k = operand_read s token Word k
unary_read s w token Quoted k = operand_read s token Quoted k
unary_read s w token Unended k = operand_read s token Unended k
unary_read s w token Reference k = operand_read s token Reference k
unary_read s w token Sign k = tt
unary_read s w token Equals k = tt
unary_read s w token Close k = tt
unary_read s w token Other k = tt

wants_read : {room : ℕ} {frames : List Frame} {front : List Token} → Stack room frames front
    → (token : Token)
    → AtNext (wants_step frames token.kind token.place token.bytes) (front ++ token ∷ [])
wants_read {frames = frames} {front = front} s token = by (wants_operand frames) refl
  where
    by : (t : Bool) → wants_operand frames ≡ t
        → AtNext
        (cond t (operand_step frames token.kind token.place token.bytes)
        (unary_step frames token.kind token.place token.bytes)) (front ++ token ∷ [])
    by true e = operand_read s token token.kind refl
    by false e = unary_read s e token token.kind refl

-- behind a tree
and_of_tree : {room : ℕ} {frames : List Frame} {tree : Tree} {front : List Token}
    → At room frames (done tree) front → (token : Token) → token.kind ≡ Word
    → is_and token.bytes ≡ true → AtNext (go (and_of tree ∷ frames) wants) (front ++ token ∷ [])
and_of_tree {room = room} {frames = frames} {tree = tree} {front = front}
    (before, tokens, s, d, t, e) token k a = (
      room,
      subst (Stack room (and_of tree ∷ frames)) (sym (same_front front before tokens token e))
          (an_and tokens token s t d k a),
    )

or_of_tree : {room : ℕ} {frames : List Frame} {before : List Token} → Stack room frames before
    → takes_or frames ≡ true → (tokens : List Token) (tree : Tree) → IsOr room tokens tree
    → (front : List Token) → front ≡ before ++ tokens
    → (token : Token) → token.kind ≡ Word → is_or token.bytes ≡ true
    → AtNext (go (or_of tree ∷ frames) wants) (front ++ token ∷ [])
or_of_tree {room = room} {frames = frames} {before = before} s t tokens tree d front e token k o = (
  room,
  subst (Stack room (or_of tree ∷ frames)) (sym (same_front front before tokens token e))
      (an_or tokens token s t d k o),
)

group_ended : {room : ℕ} {frames : List Frame} {before : List Token} → Stack room frames before
    → takes_or frames ≡ true → (tokens : List Token) (tree : Tree) → IsOr room tokens tree
    → (front : List Token) → front ≡ before ++ tokens
    → (token : Token) → token.kind ≡ Close
    → AtNext (end_group (frames, tree) token.place) (front ++ token ∷ [])
group_ended bottom t tokens tree d front e token k = tt
group_ended (an_opening {front = before} opening s w o) t tokens tree d front e token k =
    unary_ended s (opening ∷ (tokens ++ token ∷ [])) tree (a_group opening token o d k) w
    (front ++ token ∷ [])
    (same_front front (before ++ opening ∷ []) tokens token e
    ∙ append_assoc before (opening ∷ []) (tokens ++ token ∷ []))
group_ended (an_or first word s u a i o) t tokens tree d front e token k = cc
group_ended (an_and first word s u a i o) t tokens tree d front e token k = cc
group_ended (a_bang bang s w i) t tokens tree d front e token k = cc
group_ended (a_sign first sign s u r i) t tokens tree d front e token k = cc
group_ended (a_name word opening s i f o) t tokens tree d front e token k = cc

-- what an `or` is as a whole: the frames below it, and its tree
or_ended : {room : ℕ} {frames : List Frame} {before : List Token} → Stack room frames before
    → takes_and frames ≡ true → (tokens : List Token) (tree : Tree) → IsAnd room tokens tree
    → (front : List Token) → front ≡ before ++ tokens
    → (below : List Token) × (inner : List Token) × Stack room (end_or frames tree).0 below
    × (takes_or (end_or frames tree).0 ≡ true) × IsOr room inner (end_or frames tree).1
    × (front ≡ below ++ inner)
or_ended bottom t tokens tree d front e = ([], tokens, bottom, refl, one_and d, e)
or_ended (an_opening {front = before} opening s w o) t tokens tree d front e =
    (before ++ opening ∷ [], tokens, an_opening opening s w o, refl, one_and d, e)
or_ended (an_or {front = before} first word s u a i o) t tokens tree d front e = (
  before,
  first ++ word ∷ tokens,
  s,
  u,
  more_or word a i o d,
  e
      ∙ regroup before first word tokens,
)
or_ended (an_and first word s u a i o) t tokens tree d front e = cc
or_ended (a_bang bang s w i) t tokens tree d front e = cc
or_ended (a_sign first sign s u r i) t tokens tree d front e = cc
or_ended (a_name word opening s i f o) t tokens tree d front e = cc

tree_read : {room : ℕ} {frames : List Frame} {tree : Tree} {front : List Token}
    → At room frames (done tree) front → (token : Token) (kind : Kind) → token.kind ≡ kind
    → AtNext (tree_step frames tree kind token.place token.bytes) (front ++ token ∷ [])
tree_read {room = room} {frames = frames} {tree = tree} {front = front} at token Word k = by
    (is_and token.bytes) refl (is_or token.bytes) refl
  where
    by : (a : Bool) → is_and token.bytes ≡ a → (o : Bool) → is_or token.bytes ≡ o
        → AtNext
        (cond a (go (and_of tree ∷ frames) wants)
        (cond o (machine.more_or (end_or frames tree))
        (stop (machine.syntax (token.place + keyword_len token.bytes))))) (front ++ token ∷ [])
    by true a o b = and_of_tree at token k a
    by false a true b = let w = or_ended at.2 at.4 at.1 tree at.3 front at.5 in or_of_tree w.2 w.3
        w.1 (end_or frames tree).1 w.4 front w.5 token k b
    by false a false b = tt
tree_read {frames = frames} {tree = tree} {front = front} at token Close k =
    let w = or_ended at.2 at.4 at.1 tree at.3 front at.5 in
    group_ended w.2 w.3 w.1 (end_or frames tree).1 w.4 front w.5 token k
tree_read at token Bang k = tt
tree_read at token Equals k = tt
tree_read at token (Compare comparison) k = tt
tree_read at token Open k = tt
tree_read at token Quoted k = tt
tree_read at token Unended k = tt
tree_read at token Reference k = tt
tree_read at token Sign k = tt
tree_read at token Other k = tt

-- behind what ended a unary
on_tree_read : (next : Next) → IsDone next → (front : List Token) → AtNext next front
    → (token : Token) (kind : Kind) → token.kind ≡ kind
    → AtNext (on_tree next kind token.place token.bytes) (front ++ token ∷ [])
on_tree_read next d front at token kind k =
    let w = subst (λ n. AtNext n front) d.is at in
    subst (λ n. AtNext (on_tree n kind token.place token.bytes) (front ++ token ∷ [])) (sym d.is)
    (tree_read w.1 token kind k)

-- behind an operand that a comparison may follow
comparable_read : {room : ℕ} {frames : List Frame} {before : List Token} → Stack room frames before
    → wants_operand frames ≡ false → (tokens : List Token) (left : Operand)
    → IsOperand room tokens left → (front : List Token) → front ≡ before ++ tokens
    → (token : Token) (kind : Kind) → token.kind ≡ kind
    → AtNext (comparable_step frames left kind token.place token.bytes) (front ++ token ∷ [])
comparable_read {room = room} {frames = frames} {before = before} s w tokens left d front e token
    (Compare comparison) k = (
      room,
      subst (Stack room (comparison_of comparison left ∷ frames))
          (sym (same_front front before tokens token e)) (a_sign tokens token s w d k),
    )
comparable_read s w tokens left d front e token Equals k = tt
comparable_read s w tokens left d front e token Bang k = tt
comparable_read {frames = frames} s w tokens left d front e token Open k = on_tree_read
    (end_unary frames (truth left)) (end_unary_done frames (truth left)) front
    (unary_ended s tokens (truth left) (a_truth d) w front e) token Open k
comparable_read {frames = frames} s w tokens left d front e token Close k = on_tree_read
    (end_unary frames (truth left)) (end_unary_done frames (truth left)) front
    (unary_ended s tokens (truth left) (a_truth d) w front e) token Close k
comparable_read {frames = frames} s w tokens left d front e token Word k = on_tree_read
    (end_unary frames (truth left)) (end_unary_done frames (truth left)) front
    (unary_ended s tokens (truth left) (a_truth d) w front e) token Word k
comparable_read {frames = frames} s w tokens left d front e token Quoted k = on_tree_read
    (end_unary frames (truth left)) (end_unary_done frames (truth left)) front
    (unary_ended s tokens (truth left) (a_truth d) w front e) token Quoted k
comparable_read {frames = frames} s w tokens left d front e token Unended k = on_tree_read
    (end_unary frames (truth left)) (end_unary_done frames (truth left)) front
    (unary_ended s tokens (truth left) (a_truth d) w front e) token Unended k
comparable_read {frames = frames} s w tokens left d front e token Reference k = on_tree_read
    (end_unary frames (truth left)) (end_unary_done frames (truth left)) front
    (unary_ended s tokens (truth left) (a_truth d) w front e) token Reference k
comparable_read {frames = frames} s w tokens left d front e token Sign k = on_tree_read
    (end_unary frames (truth left)) (end_unary_done frames (truth left)) front
    (unary_ended s tokens (truth left) (a_truth d) w front e) token Sign k
comparable_read {frames = frames} s w tokens left d front e token Other k = on_tree_read
    (end_unary frames (truth left)) (end_unary_done frames (truth left)) front
    (unary_ended s tokens (truth left) (a_truth d) w front e) token Other k

call_read : {room : ℕ} {frames : List Frame} {before : List Token} (word opening : Token)
    {function : Function} → Stack (suc room) frames before → word.kind ≡ Word
    → function_of word.bytes ≡ Some function → opening.kind ≡ Open
    → (tokens : List Token) (left : Operand) → IsOperand room tokens left → (front : List Token)
    → front ≡ (before ++ word ∷ opening ∷ []) ++ tokens → (token : Token) (kind : Kind)
    → token.kind ≡ kind
    → AtNext (call_step frames function left kind token.place) (front ++ token ∷ [])
call_read {before = before} word opening {function = function} s w f o tokens left d front e token
    Close k =
    operand_ended s (word ∷ opening ∷ (tokens ++ token ∷ [])) (call function left)
    (a_call word opening token w f o d k) (front ++ token ∷ [])
    (same_front front (before ++ word ∷ opening ∷ []) tokens token e
    ∙ append_assoc before (word ∷ opening ∷ []) (tokens ++ token ∷ []))
call_read word opening s w f o tokens left d front e token Bang k = tt
call_read word opening s w f o tokens left d front e token Equals k = tt
call_read word opening s w f o tokens left d front e token (Compare comparison) k = tt
call_read word opening s w f o tokens left d front e token Open k = tt
call_read word opening s w f o tokens left d front e token Word k = tt
call_read word opening s w f o tokens left d front e token Quoted k = tt
call_read word opening s w f o tokens left d front e token Unended k = tt
call_read word opening s w f o tokens left d front e token Reference k = tt
call_read word opening s w f o tokens left d front e token Sign k = tt
call_read word opening s w f o tokens left d front e token Other k = tt

behind_read_by : {room : ℕ} {frames : List Frame} {before : List Token} → Stack room frames before
    → free_of_sign frames ≡ true → (tokens : List Token) (left : Operand)
    → IsOperand room tokens left → (front : List Token) → front ≡ before ++ tokens
    → (token : Token) (kind : Kind) → token.kind ≡ kind
    → AtNext (behind_step frames left kind token.place token.bytes) (front ++ token ∷ [])
behind_read_by (a_name word opening s w f o) n tokens left d front e token kind k = call_read word
    opening s w f o tokens left d front e token kind k
behind_read_by (a_sign first sign s u r i) n tokens left d front e token kind k = cc
behind_read_by bottom n tokens left d front e token kind k = comparable_read bottom refl tokens left
    d front e token kind k
behind_read_by (a_bang bang s w i) n tokens left d front e token kind k = comparable_read
    (a_bang bang s w i) refl tokens left d front e token kind k
behind_read_by (an_opening opening s w i) n tokens left d front e token kind k = comparable_read
    (an_opening opening s w i) refl tokens left d front e token kind k
behind_read_by (an_or first word s u a i o) n tokens left d front e token kind k = comparable_read
    (an_or first word s u a i o) refl tokens left d front e token kind k
behind_read_by (an_and first word s u a i o) n tokens left d front e token kind k = comparable_read
    (an_and first word s u a i o) refl tokens left d front e token kind k

behind_read : {room : ℕ} {frames : List Frame} {left : Operand} {front : List Token}
    → At room frames (operand left) front → (token : Token) (kind : Kind) → token.kind ≡ kind
    → AtNext (behind_step frames left kind token.place token.bytes) (front ++ token ∷ [])
behind_read {left = left} {front = front} at token kind k = behind_read_by at.2 at.4 at.1 left at.3
    front at.5 token kind k

on_operand_read : (next : Next) → GoesOn next ⊎ IsDone next → (front : List Token)
    → AtNext next front → (token : Token) (kind : Kind) → token.kind ≡ kind
    → AtNext (on_operand next kind token.place token.bytes) (front ++ token ∷ [])
on_operand_read next (inl o) front at token kind k =
    let w = subst (λ n. AtNext n front) o.is at in
    subst (λ n. AtNext (on_operand n kind token.place token.bytes) (front ++ token ∷ [])) (sym o.is)
    (behind_read w.1 token kind k)
on_operand_read next (inr d) front at token kind k =
    let w = subst (λ n. AtNext n front) d.is at in
    subst (λ n. AtNext (on_operand n kind token.place token.bytes) (front ++ token ∷ [])) (sym d.is)
    (tree_read w.1 token kind k)

plain_ended : {room : ℕ} {frames : List Frame} {function : Function} {word : List ℕ}
    {front : List Token} → At room frames (named function word) front
    → AtNext (end_operand frames (of_parts (Plain word ∷ []))) front
plain_ended {frames = frames} {front = front} (before, token, s, p, b, f, e) =
    subst (λ w. AtNext (end_operand frames (of_parts (Plain w ∷ []))) front) b
    (operand_ended s (token ∷ []) (of_parts (Plain token.bytes ∷ [])) (a_word token p) front e)

named_other_read : {room : ℕ} {frames : List Frame} {function : Function} {word : List ℕ}
    {front : List Token} → At room frames (named function word) front
    → (token : Token) (kind : Kind) → token.kind ≡ kind
    → AtNext
    (on_operand (end_operand frames (of_parts (Plain word ∷ []))) kind token.place token.bytes)
    (front ++ token ∷ [])
named_other_read {frames = frames} {word = word} {front = front} at token kind k =
    on_operand_read (end_operand frames (of_parts (Plain word ∷ [])))
    (end_operand_goes frames (of_parts (Plain word ∷ []))) front (plain_ended at) token kind k

named_read : {room : ℕ} {frames : List Frame} {function : Function} {word : List ℕ}
    {front : List Token} → At room frames (named function word) front
    → (token : Token) (kind : Kind) → token.kind ≡ kind
    → AtNext (named_step frames function word kind token.place token.bytes) (front ++ token ∷ [])
named_read {room = room} {frames = frames} {function = function} {front = front}
    (before, name, s, p, b, f, e) token Open k =
    nested_read frames (call_of function) token.place (front ++ token ∷ [])
    (λ h. let m = more_room room frames before s h in (
      m.0,
      subst (Stack m.0 (call_of function ∷ frames))
          (sym (same_front front before (name ∷ []) token e))
          (a_name name token (subst (λ n. Stack n frames before) m.1 s) p.kind
          (ap function_of b ∙ f) k),
    ))
named_read at token Close k = named_other_read at token Close k
named_read at token Word k = named_other_read at token Word k
named_read at token Bang k = named_other_read at token Bang k
named_read at token Equals k = named_other_read at token Equals k
named_read at token (Compare comparison) k = named_other_read at token (Compare comparison) k
named_read at token Quoted k = named_other_read at token Quoted k
named_read at token Unended k = named_other_read at token Unended k
named_read at token Reference k = named_other_read at token Reference k
named_read at token Sign k = named_other_read at token Sign k
named_read at token Other k = named_other_read at token Other k

-- each step
step_read : (room : ℕ) (frames : List Frame) (state : State) (front : List Token)
    → At room frames state front → (token : Token)
    → AtNext (step_of frames state token.kind token.place token.bytes) (front ++ token ∷ [])
step_read room frames wants front at token = wants_read at token
step_read room frames (named function word) front at token = named_read at token token.kind refl
step_read room frames (operand left) front at token = behind_read at token token.kind refl
step_read room frames (done tree) front at token = tree_read at token token.kind refl

-- the end
bottom_or : {room : ℕ} {frames : List Frame} {below : List Token} → Stack room frames below
    → (inner : List Token) (tree whole : Tree) → IsOr room inner tree → (front : List Token)
    → front ≡ below ++ inner
    → (len : ℕ) → finished len (frames, tree) ≡ Ok whole → IsOr 64 front whole
bottom_or bottom inner tree whole d front e len f = let t : tree
    ≡ whole = cc in subst (λ x. IsOr 64 x whole) (sym e) (subst (IsOr 64 inner) t d)
bottom_or (a_bang bang s w k) inner tree whole d front e len f = cc
bottom_or (an_opening opening s w k) inner tree whole d front e len f = cc
bottom_or (an_or first word s u a i o) inner tree whole d front e len f = cc
bottom_or (an_and first word s u a i o) inner tree whole d front e len f = cc
bottom_or (a_sign first sign s u r i) inner tree whole d front e len f = cc
bottom_or (a_name word opening s k f o) inner tree whole d front e len g = cc

done_end : {room : ℕ} {frames : List Frame} {tree : Tree} {front : List Token}
    → At room frames (done tree) front → (len : ℕ) (whole : Tree)
    → finished len (end_or frames tree) ≡ Ok whole → IsOr 64 front whole
done_end {frames = frames} {tree = tree} {front = front} at len whole f =
    let w = or_ended at.2 at.4 at.1 tree at.3 front at.5 in
    bottom_or w.2 w.1 (end_or frames tree).1 whole w.4 front w.5 len f

tree_end : (next : Next) → IsDone next → (front : List Token) → AtNext next front
    → (len : ℕ) (whole : Tree) → finish_tree len next ≡ Ok whole → IsOr 64 front whole
tree_end next d front at len whole f =
    let w = subst (λ n. AtNext n front) d.is at in
    done_end w.1 len whole (ap (finish_tree len) (sym d.is) ∙ f)

comparable_end : {room : ℕ} {frames : List Frame} {before : List Token} → Stack room frames before
    → wants_operand frames ≡ false → (tokens : List Token) (left : Operand)
    → IsOperand room tokens left → (front : List Token) → front ≡ before ++ tokens
    → (len : ℕ) (whole : Tree) → finish_tree len (end_unary frames (truth left)) ≡ Ok whole
    → IsOr 64 front whole
comparable_end {frames = frames} s w tokens left d front e len whole f = tree_end
    (end_unary frames (truth left)) (end_unary_done frames (truth left)) front
    (unary_ended s tokens (truth left) (a_truth d) w front e) len whole f

left_end_by : {room : ℕ} {frames : List Frame} {before : List Token} → Stack room frames before
    → free_of_sign frames ≡ true → (tokens : List Token) (left : Operand)
    → IsOperand room tokens left → (front : List Token) → front ≡ before ++ tokens
    → (len : ℕ) (whole : Tree) → finish_left len frames left ≡ Ok whole → IsOr 64 front whole
left_end_by (a_name word opening s w f o) n tokens left d front e len whole g = cc
left_end_by (a_sign first sign s u r i) n tokens left d front e len whole g = cc
left_end_by bottom n tokens left d front e len whole g = comparable_end bottom refl tokens left d
    front e len whole g
left_end_by (a_bang bang s w i) n tokens left d front e len whole g = comparable_end
    (a_bang bang s w i) refl tokens left d front e len whole g
left_end_by (an_opening opening s w i) n tokens left d front e len whole g = comparable_end
    (an_opening opening s w i) refl tokens left d front e len whole g
left_end_by (an_or first word s u a i o) n tokens left d front e len whole g = comparable_end
    (an_or first word s u a i o) refl tokens left d front e len whole g
left_end_by (an_and first word s u a i o) n tokens left d front e len whole g = comparable_end
    (an_and first word s u a i o) refl tokens left d front e len whole g

operand_end : (next : Next) → GoesOn next ⊎ IsDone next → (front : List Token) → AtNext next front
    → (len : ℕ) (whole : Tree) → finish_operand len next ≡ Ok whole → IsOr 64 front whole
operand_end next (inl o) front at len whole f =
    let w = subst (λ n. AtNext n front) o.is at in
    left_end_by w.1.2 w.1.4 w.1.1 o.left w.1.3 front w.1.5 len whole
    (ap (finish_operand len) (sym o.is) ∙ f)
operand_end next (inr d) front at len whole f =
    let w = subst (λ n. AtNext n front) d.is at in
    done_end w.1 len whole (ap (finish_operand len) (sym d.is) ∙ f)

state_end : (room : ℕ) (frames : List Frame) (state : State) (front : List Token)
    → At room frames state front → (len : ℕ) (whole : Tree) → finish len frames state ≡ Ok whole
    → IsOr 64 front whole
state_end room frames wants front at len whole f = cc
state_end room frames (named function word) front at len whole f =
    operand_end (end_operand frames (of_parts (Plain word ∷ [])))
    (end_operand_goes frames (of_parts (Plain word ∷ []))) front (plain_ended at) len whole f
state_end room frames (operand left) front at len whole f = left_end_by at.2 at.4 at.1 left at.3
    front at.5 len whole f
state_end room frames (done tree) front at len whole f = done_end at len whole f

-- all the tokens
sound : (len : ℕ) (tokens : List Token) (room : ℕ) (frames : List Frame) (state : State)
    (front : List Token) → At room frames state front → (whole : Tree)
    → run len tokens frames state ≡ Ok whole → IsOr 64 (front ++ tokens) whole
sound len [] room frames state front at whole e = subst (λ ts. IsOr 64 ts whole)
    (sym (append-nil front)) (state_end room frames state front at len whole e)
sound len (token ∷ tokens) room frames state front at whole e =
    subst (λ ts. IsOr 64 ts whole) (append_assoc front (token ∷ []) tokens)
    (by (step_of frames state token.kind token.place token.bytes)
    (step_read room frames state front at token) e (sound len tokens))
  where
    by : (next : Next) → AtNext next (front ++ token ∷ []) → on next (run len tokens) ≡ Ok whole
        → ((room : ℕ) (frames : List Frame) (state : State) (front : List Token)
        → At room frames state front → (whole : Tree) → run len tokens frames state ≡ Ok whole
        → IsOr 64 (front ++ tokens) whole)
        → IsOr 64 ((front ++ token ∷ []) ++ tokens) whole
    by (go frames state) w e more = more w.0 frames state (front ++ token ∷ []) w.1 whole e
    by (stop refusal) w e more = cc

read_sound : (text : List ℕ) (len : ℕ) (tokens : List Token) (tree : Tree) → tokens_of text ≡ tokens
    → read_tokens len tokens ≡ Ok tree → IsCondition text tree
read_sound text len [] tree t e = let k : empty
    ≡ tree = cc in subst (IsCondition text) k (no_condition t)
read_sound text len (token ∷ tokens) tree t e = a_condition
    (subst (λ ts. IsOr 64 ts tree) (sym t)
    (sound len (token ∷ tokens) 64 [] wants [] bottom tree e))

-- an answer that is read is a condition's tree
pub found_answer : (text : List ℕ) (result : Result Cond CondFault)
    → IsRead result (condition_of text) → IfOk result (λ cond. IsCondition text (tree_of cond))
found_answer text (Ok cond) r = read_sound text (length text) (tokens_of text) (tree_of cond) refl r
found_answer text (Err fault) r = tt
