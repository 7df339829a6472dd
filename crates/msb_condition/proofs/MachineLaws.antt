-- Steps of the machine that are the same by another way.
use Rattle.std.proofs.Common.{
  ◌≡◌,
  ℕ,
  ◌+◌,
  ◌-◌,
  ◌<◌,
  ◌≤◌,
  Bool,
  true,
  false,
  List,
  [],
  ◌∷◌,
  length,
  take,
  drop,
  Result,
  Ok,
  Err,
  refl,
  sym,
  ap,
  ◌∙◌,
  subst,
  arith,
  ◌⊎◌,
  inl,
  inr,
  length-drop,
}
use Rattle.std.specs.Prelude.{IfOk, IfErr}
use Rattle.std.proofs.lemmas.List.{drop-take, take-take, take_rest, drop-drop, length-take-le}
use Rattle.msb_expression.specs.declared.expression.Part.TheVariants.{Plain}
use Rattle.msb_condition.specs.declared.condition.Comparison.{Comparison}
use Rattle.msb_condition.specs.declared.condition.Function.{Function}
use Rattle.msb_condition.specs.declared.tokens.Kind.{Kind}
use Rattle.msb_condition.specs.declared.tokens.Kind.TheVariants.{
  Bang,
  Equals,
  Compare,
  Open,
  Quoted,
  Unended,
}
use Rattle.msb_condition.specs.Grammar.{of_parts, inner_of}
use Rattle.msb_condition.specs.declared.condition.Operand as code
use Rattle.msb_condition.specs.declared.faults.CondFault.{CondFault}
use Rattle.msb_condition.specs.declared.faults.CondFault.TheVariants.{Memory}
use Rattle.msb_condition.specs.Leads.{Leads, is_open, starts_open, run_at, step_on}
use Rattle.msb_condition.specs.Places.{IsCutBy, tokens_at}
use Rattle.msb_condition.specs.Reading.{IsRefused}
use Rattle.msb_condition.specs.View.{operand_of}
use Rattle.msb_expression.specs.Reading.{reading}
use Rattle.msb_condition.specs.Machine.{
  Frame,
  or_of,
  and_of,
  not_of,
  group_of,
  comparison_of,
  call_of,
  operand,
  done,
  named,
  Next,
  go,
  on,
  run,
  end_unary,
  end_operand,
  named_step,
  on_operand,
  finish_operand,
  finish_left,
  finish_tree,
  operand_step,
  end_text,
  end_unended,
  wants_operand,
  comparable_step,
  behind_step,
  on_tree,
}
use Rattle.msb_condition.specs.Tokens.{Token}
use Rattle.msb_condition.specs.Trees.{Operand, Tree, negated, compared, truth}

-- what ends a unary is done
pub record IsDone (next : Next) : Type 0 where
  pub frames : List Frame
  pub tree : Tree
  pub is : next ≡ go frames (done tree)

pub end_unary_done : (frames : List Frame) (tree : Tree) → IsDone (end_unary frames tree)
end_unary_done [] tree = record { frames = []; tree = tree; is = refl }
end_unary_done (not_of ∷ frames) tree = let d : IsDone (end_unary frames (negated tree)) =
    end_unary_done frames (negated tree) in record { frames = d.frames; tree = d.tree; is = d.is }
end_unary_done (and_of left ∷ frames) tree = record { frames = frames; tree = _; is = refl }
end_unary_done (or_of left ∷ frames) tree = record { frames = _; tree = tree; is = refl }
end_unary_done (group_of ∷ frames) tree = record { frames = _; tree = tree; is = refl }
end_unary_done (comparison_of comparison left ∷ frames) tree = record
    { frames = _; tree = tree; is = refl }
end_unary_done (call_of function ∷ frames) tree = record { frames = _; tree = tree; is = refl }

pub record IsOperand (next : Next) : Type 0 where
  pub frames : List Frame
  pub left : Operand
  pub is : next ≡ go frames (operand left)

pub end_operand_goes : (frames : List Frame) (left : Operand)
    → IsOperand (end_operand frames left) ⊎ IsDone (end_operand frames left)
end_operand_goes (comparison_of comparison left ∷ frames) right = inr
    (end_unary_done frames (compared comparison left right))
end_operand_goes [] left = inl (record { frames = []; left = left; is = refl })
end_operand_goes (not_of ∷ frames) left = inl (record { frames = _; left = left; is = refl })
end_operand_goes (and_of tree ∷ frames) left = inl (record { frames = _; left = left; is = refl })
end_operand_goes (or_of tree ∷ frames) left = inl (record { frames = _; left = left; is = refl })
end_operand_goes (group_of ∷ frames) left = inl (record { frames = _; left = left; is = refl })
end_operand_goes (call_of function ∷ frames) left = inl
    (record { frames = _; left = left; is = refl })

-- the name of a function that no `(` follows is a word
finish_word : (len : ℕ) (next : Next) → IsOperand next ⊎ IsDone next
    → finish_operand len next ≡ on next (run len [])
finish_word len next (inl o) = rw o.is refl
finish_word len next (inr d) = rw d.is refl

step_word : (len : ℕ) (token : Token) (tokens : List Token) (next : Next)
    → IsOperand next ⊎ IsDone next
    → on (on_operand next token.kind token.place token.bytes) (run len tokens)
    ≡ on next (run len (token ∷ tokens))
step_word len token tokens next (inl o) = rw o.is refl
step_word len token tokens next (inr d) = rw d.is refl

named_other : (frames : List Frame) (function : Function) (word : List ℕ) (kind : Kind) (place : ℕ)
    (bytes : List ℕ) → is_open kind ≡ false
    → named_step frames function word kind place bytes
    ≡ on_operand (end_operand frames (of_parts (Plain word ∷ []))) kind place bytes
named_other frames function word Open place bytes e = cc
named_other frames function word _ place bytes e = refl

pub named_word : (len : ℕ) (tokens : List Token) (frames : List Frame) (function : Function)
    (word : List ℕ) → starts_open tokens ≡ false
    → run len tokens frames (named function word)
    ≡ on (end_operand frames (of_parts (Plain word ∷ []))) (run len tokens)
named_word len [] frames function word e = finish_word len
    (end_operand frames (of_parts (Plain word ∷ [])))
    (end_operand_goes frames (of_parts (Plain word ∷ [])))
named_word len (token ∷ tokens) frames function word e =
    ap (λ next. on next (run len tokens))
    (named_other frames function word token.kind token.place token.bytes e)
    ∙ step_word len token tokens (end_operand frames (of_parts (Plain word ∷ [])))
    (end_operand_goes frames (of_parts (Plain word ∷ [])))

-- the bytes between the quotes of a token
pub inner_same : (text : List ℕ) (start end : ℕ) → start + 1 < end → end ≤ length text
    → inner_of (take (end - start) (drop start text))
    ≡ take (end - 1 - (start + 1)) (drop (start + 1) text)
inner_same text start end o w =
    let n : length (take (end - start) (drop start text))
    ≡ end - start = length-take-le (end - start) (drop start text)
    (omega (arith, length-drop start text)) in
    let size : length (take (end - start) (drop start text)) - 2
    ≡ end - 1 - (start + 1) = omega arith in
    let cut : end - start ≡ 1 + (end - start - 1) = omega arith in
    ap (λ k. take k (drop 1 (take (end - start) (drop start text)))) size
    ∙ ap (λ k. take (end - 1 - (start + 1)) (drop 1 (take k (drop start text)))) cut
    ∙ ap (take (end - 1 - (start + 1))) (drop-take 1 (end - start - 1) (drop start text))
    ∙ take-take (end - 1 - (start + 1)) (end - start - 1) (drop 1 (drop start text)) (omega arith)
    ∙ ap (take (end - 1 - (start + 1))) (drop-drop 1 start text)

-- and of one without its last quote
pub unended_same : (text : List ℕ) (start end : ℕ) → end ≡ length text
    → take (end - start) (drop start text) ≡ drop start text
unended_same text start end e = ap (λ n. take (n - start) (drop start text)) e
    ∙ take_rest text start

pub quoted_step : (text : List ℕ) (frames : List Frame) (kind : Kind) (start end : ℕ)
    → kind ≡ Quoted → IsCutBy kind text start end → end ≤ length text
    → operand_step frames kind start (take (end - start) (drop start text))
    ≡ end_text frames (start + 1)
    (reading (take (end - 1 - (start + 1)) (drop (start + 1) text)))
quoted_step text frames kind start end e cut w =
    let c : IsCutBy Quoted text start end = subst (λ k. IsCutBy k text start end) e cut in
    ap (λ k. operand_step frames k start (take (end - start) (drop start text))) e
    ∙ ap (λ inner. end_text frames (start + 1) (reading inner)) (inner_same text start end c.0 w)

pub unended_step : (text : List ℕ) (frames : List Frame) (kind : Kind) (start end : ℕ)
    → kind ≡ Unended → IsCutBy kind text start end
    → operand_step frames kind start (take (end - start) (drop start text))
    ≡ end_unended (start + 1) (length text - (start + 1)) (reading (drop (start + 1) text))
unended_step text frames kind start end e cut =
    let c : IsCutBy Unended text start end = subst (λ k. IsCutBy k text start end) e cut in
    let bytes = unended_same text start end c.2 in
    let size : length (drop start text) - 1 ≡ length text - (start + 1) = omega
    (arith, length-drop start text) in
    ap (λ k. operand_step frames k start (take (end - start) (drop start text))) e
    ∙ ap (λ bytes. end_unended (start + 1) (length bytes - 1) (reading (drop 1 bytes))) bytes
    ∙ ap (λ n. end_unended (start + 1) n (reading (drop 1 (drop start text)))) size
    ∙ ap (λ rest. end_unended (start + 1) (length text - (start + 1)) (reading rest))
    (drop-drop 1 start text)

-- a word that is an operand, as it was made
pub plain_word : (text : List ℕ) (end : ℕ) (frames : List Frame) (function : Function)
    (word : List ℕ) (result : Result (code.Operand × ℕ) CondFault)
    → starts_open (tokens_at end text) ≡ false
    → IfOk result (λ found. operand_of found.0 ≡ of_parts (Plain word ∷ []))
    → IfOk result (λ found. found.1 ≡ end) → IfErr result (λ fault. fault ≡ Memory)
    → Leads text result (run_at text end frames (named function word))
    (λ left tokens. step_on text (end_operand frames (operand_of left)) tokens)
plain_word text end frames function word (Ok found) e o p m =
    named_word (length text) (tokens_at end text) frames function word e
    ∙ ap (λ left. step_on text (end_operand frames left) (tokens_at end text)) (sym o)
    ∙ ap (λ n. step_on text (end_operand frames (operand_of found.0)) (tokens_at n text)) (sym p)
plain_word text end frames function word (Err fault) e o p m = subst
    (λ f. IsRefused f (run_at text end frames (named function word))) (sym m) tt

abbrev is_comparing : Kind → Bool
is_comparing (Compare comparison) = true
is_comparing Equals = true
is_comparing Bang = true
is_comparing _ = false

not_comparing : (kind : Kind) → ((comparison : Comparison) → kind ≡ Compare comparison → ⊥)
    → (kind ≡ Equals → ⊥) → (kind ≡ Bang → ⊥) → is_comparing kind ≡ false
not_comparing (Compare comparison) c e b = absurd (c comparison refl)
not_comparing Equals c e b = absurd (e refl)
not_comparing Bang c e b = absurd (b refl)
not_comparing _ c e b = refl

comparable_other : (frames : List Frame) (left : Operand) (kind : Kind) (place : ℕ) (bytes : List ℕ)
    → is_comparing kind ≡ false
    → comparable_step frames left kind place bytes
    ≡ on_tree (end_unary frames (truth left)) kind place bytes
comparable_other frames left (Compare comparison) place bytes e = cc
comparable_other frames left Equals place bytes e = cc
comparable_other frames left Bang place bytes e = cc
comparable_other frames left _ place bytes e = refl

-- behind an operand that is none of a function
pub behind_comparable : (frames : List Frame) (left : Operand) (kind : Kind) (place : ℕ)
    (bytes : List ℕ) → wants_operand frames ≡ false
    → behind_step frames left kind place bytes ≡ comparable_step frames left kind place bytes
behind_comparable (call_of function ∷ frames) left kind place bytes e = cc
behind_comparable (comparison_of comparison right ∷ frames) left kind place bytes e = cc
behind_comparable [] left kind place bytes e = refl
behind_comparable (not_of ∷ frames) left kind place bytes e = refl
behind_comparable (or_of tree ∷ frames) left kind place bytes e = refl
behind_comparable (and_of tree ∷ frames) left kind place bytes e = refl
behind_comparable (group_of ∷ frames) left kind place bytes e = refl

step_truth : (len : ℕ) (token : Token) (tokens : List Token) (next : Next) → IsDone next
    → on (on_tree next token.kind token.place token.bytes) (run len tokens)
    ≡ on next (run len (token ∷ tokens))
step_truth len token tokens next d = rw d.is refl

-- an operand that nothing compares is a truth value
pub truth_step : (len : ℕ) (token : Token) (tokens : List Token) (frames : List Frame)
    (left : Operand) → wants_operand frames ≡ false
    → ((comparison : Comparison) → token.kind ≡ Compare comparison → ⊥) → (token.kind ≡ Equals → ⊥)
    → (token.kind ≡ Bang → ⊥)
    → run len (token ∷ tokens) frames (operand left)
    ≡ on (end_unary frames (truth left)) (run len (token ∷ tokens))
truth_step len token tokens frames left w c e b =
    ap (λ next. on next (run len tokens))
    (behind_comparable frames left token.kind token.place token.bytes w
    ∙ comparable_other frames left token.kind token.place token.bytes
    (not_comparing token.kind c e b))
    ∙ step_truth len token tokens (end_unary frames (truth left))
    (end_unary_done frames (truth left))

finish_truth : (len : ℕ) (next : Next) → IsDone next → finish_tree len next ≡ on next (run len [])
finish_truth len next d = rw d.is refl

finish_comparable : (len : ℕ) (frames : List Frame) (left : Operand) → wants_operand frames ≡ false
    → finish_left len frames left ≡ finish_tree len (end_unary frames (truth left))
finish_comparable len (call_of function ∷ frames) left e = cc
finish_comparable len (comparison_of comparison right ∷ frames) left e = cc
finish_comparable len [] left e = refl
finish_comparable len (not_of ∷ frames) left e = refl
finish_comparable len (or_of tree ∷ frames) left e = refl
finish_comparable len (and_of tree ∷ frames) left e = refl
finish_comparable len (group_of ∷ frames) left e = refl

pub truth_ends : (len : ℕ) (frames : List Frame) (left : Operand) → wants_operand frames ≡ false
    → run len [] frames (operand left) ≡ on (end_unary frames (truth left)) (run len [])
truth_ends len frames left w = finish_comparable len frames left w
    ∙ finish_truth len (end_unary frames (truth left)) (end_unary_done frames (truth left))

-- The same in a text, where the next token stands behind a place, or none does.
pub truth_at : (text : List ℕ) (at : ℕ) (token : Token) (end : ℕ) (frames : List Frame)
    (left : Operand) → tokens_at at text ≡ token ∷ tokens_at end text → wants_operand frames ≡ false
    → ((comparison : Comparison) → token.kind ≡ Compare comparison → ⊥) → (token.kind ≡ Equals → ⊥)
    → (token.kind ≡ Bang → ⊥)
    → run_at text at frames (operand left) ≡ step_on text (end_unary frames (truth left))
    (tokens_at at text)
truth_at text at token end frames left next w c e b =
    ap (λ ts. run (length text) ts frames (operand left)) next
    ∙ truth_step (length text) token (tokens_at end text) frames left w c e b
    ∙ ap (λ ts. on (end_unary frames (truth left)) (run (length text) ts)) (sym next)

pub truth_at_end : (text : List ℕ) (at : ℕ) (frames : List Frame) (left : Operand)
    → tokens_at at text ≡ [] → wants_operand frames ≡ false
    → run_at text at frames (operand left) ≡ step_on text (end_unary frames (truth left))
    (tokens_at at text)
truth_at_end text at frames left next w =
    ap (λ ts. run (length text) ts frames (operand left)) next
    ∙ truth_ends (length text) frames left w
    ∙ ap (λ ts. on (end_unary frames (truth left)) (run (length text) ts)) (sym next)
