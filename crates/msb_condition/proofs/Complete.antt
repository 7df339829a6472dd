-- What has a reading is read so.
use Rattle.std.proofs.Common.{
  ◌≡◌,
  ℕ,
  suc,
  ◌+◌,
  Bool,
  true,
  false,
  List,
  [],
  ◌∷◌,
  ◌++◌,
  length,
  Option,
  Some,
  None,
  Result,
  Ok,
  Err,
  refl,
  sym,
  ap,
  ◌∙◌,
  subst,
  append_assoc,
  append-nil,
  arith,
}
use Rattle.std.specs.Prelude.{◌||◌, codes, MatchResult}
use Rattle.std.specs.Str.{bytes_eq, str_eq_ignore_ascii_case, str_to_ascii_lowercase}
use Rattle.std.proofs.lemmas.Bool.{lt-ltb}
use Rattle.msb_expression.specs.declared.expression.Part.TheVariants.{Plain}
use Rattle.msb_expression.specs.Reading.{reading}
use Rattle.msb_condition.specs.declared.condition.Comparison.{Comparison}
use Rattle.msb_condition.specs.declared.condition.Function.{Function}
use Rattle.msb_condition.specs.declared.tokens.Kind.{Kind}
use Rattle.msb_condition.specs.declared.tokens.Kind.TheVariants.{
  Bang,
  Equals,
  Compare,
  Open,
  Close,
  Word,
  Quoted,
  Reference,
}
use Rattle.msb_condition.specs.Grammar.{
  function_of,
  of_parts,
  inner_of,
  IsOperand,
  a_word,
  a_quoted,
  a_reference,
  a_call,
  IsOr,
  one_and,
  more_or,
  IsAnd,
  one_unary,
  more_and,
  IsUnary,
  a_not,
  a_group,
  a_truth,
  a_comparison,
  IsCondition,
  no_condition,
  a_condition,
}
use Rattle.msb_condition.specs.Leads.{
  HasRoom,
  is_open,
  starts_open,
  starts_and,
  is_word,
  takes_or,
  takes_and,
}
use Rattle.msb_condition.specs.Machine.{
  Frame,
  or_of,
  and_of,
  not_of,
  group_of,
  comparison_of,
  call_of,
  operand,
  done,
  wants,
  Next,
  go,
  on,
  run,
  depth,
  has_room,
  nested,
  end_unary,
  end_operand,
  end_text,
  end_word,
  word_step,
  unary_step,
  wants_step,
  wants_operand,
  named_step,
  behind_step,
  tree_step,
  comparable_step,
}
use Rattle.msb_condition.specs.Reading.{IsRead, IsRefused, condition_of, read_tokens}
use Rattle.msb_condition.specs.View.{tree_of}
use Rattle.msb_condition.specs.declared.condition.Cond.{Cond}
use Rattle.msb_condition.specs.declared.faults.CondFault.{CondFault}
use Rattle.msb_condition.specs.declared.faults.CondFault.TheVariants.{
  Syntax,
  NotBoolean,
  NotNumbers,
  Expand,
  Memory,
}
use Rattle.msb_expand.specs.declared.faults.ExpandFault.TheVariants.{Expr}
use Rattle.msb_condition.specs.Tokens.{Token, is_and, is_or, tokens_of}
use Rattle.msb_condition.specs.Trees.{Operand, Tree, truth}
use Rattle.msb_condition.proofs.MachineLaws.{named_word, behind_comparable, truth_step, truth_ends}
use Rattle.msb_condition.proofs.ChainLaws.{or_not_and, same_bytes, settle, end_or_outer}

-- no function is named like `and` and `or`
no_keyword : (word : List ℕ) (function : Function) → function_of word ≡ Some function
    → (is_and word || is_or word) ≡ false
no_keyword word function e = by (str_eq_ignore_ascii_case word (codes "Exists")) refl
    (str_eq_ignore_ascii_case word (codes "HasTrailingSlash")) refl
  where
    named_so : (name : List ℕ) → bytes_eq (str_to_ascii_lowercase word) name ≡ true
        → (bytes_eq name (codes "and") || bytes_eq name (codes "or")) ≡ false
        → (is_and word || is_or word) ≡ false
    named_so name e f = ap (λ w. bytes_eq w (codes "and") || bytes_eq w (codes "or"))
        (same_bytes (str_to_ascii_lowercase word) name e) ∙ f

    by : (a : Bool) → str_eq_ignore_ascii_case word (codes "Exists") ≡ a → (b : Bool)
        → str_eq_ignore_ascii_case word (codes "HasTrailingSlash") ≡ b
        → (is_and word || is_or word) ≡ false
    by true f b g = named_so (codes "exists") f refl
    by false f true g = named_so (codes "hastrailingslash") g refl
    by false f false g = let n : function_of word ≡ None = rw (f, g) refl in cc

has_some : (frames : List Frame) (room : ℕ) → HasRoom frames (suc room) → has_room frames ≡ true
has_some frames room h = lt-ltb (depth frames) 64 (omega arith)

nests : (frames : List Frame) (frame : Frame) (room place : ℕ) → HasRoom frames (suc room)
    → nested frames frame place ≡ go (frame ∷ frames) wants
nests frames frame room place h = rw (has_some frames room h) refl

operand_wanted : (frames : List Frame) (place : ℕ) (bytes : List ℕ)
    → wants_step frames Word place bytes ≡ word_step frames place bytes
operand_wanted frames place bytes = go (wants_operand frames) refl
  where
    go : (t : Bool) → wants_operand frames ≡ t
        → wants_step frames Word place bytes ≡ word_step frames place bytes
    go true e = rw e refl
    go false e = rw e refl

quoted_wanted : (frames : List Frame) (place : ℕ) (bytes : List ℕ)
    → wants_step frames Quoted place bytes ≡ end_text frames (place + 1) (reading (inner_of bytes))
quoted_wanted frames place bytes = go (wants_operand frames) refl
  where
    go : (t : Bool) → wants_operand frames ≡ t
        → wants_step frames Quoted place bytes
        ≡ end_text frames (place + 1) (reading (inner_of bytes))
    go true e = rw e refl
    go false e = rw e refl

reference_wanted : (frames : List Frame) (place : ℕ) (bytes : List ℕ)
    → wants_step frames Reference place bytes ≡ end_text frames place (reading bytes)
reference_wanted frames place bytes = go (wants_operand frames) refl
  where
    go : (t : Bool) → wants_operand frames ≡ t
        → wants_step frames Reference place bytes ≡ end_text frames place (reading bytes)
    go true e = rw e refl
    go false e = rw e refl

-- the first token's step
wants_first : (len : ℕ) (token : Token) (rest : List Token) (frames : List Frame) (kind : Kind)
    (next : Next) → token.kind ≡ kind → wants_step frames kind token.place token.bytes ≡ next
    → run len (token ∷ rest) frames wants ≡ on next (run len rest)
wants_first len token rest frames kind next k e = ap (λ x. on x (run len rest))
    (ap (λ x. wants_step frames x token.place token.bytes) k ∙ e)

word_read : (len : ℕ) (frames : List Frame) (word : List ℕ) (rest : List Token)
    (function : Option Function) → starts_open rest ≡ false
    → on (end_word frames word function) (run len rest)
    ≡ on (end_operand frames (of_parts (Plain word ∷ []))) (run len rest)
word_read len frames word rest None o = refl
word_read len frames word rest (Some function) o = named_word len rest frames function word o

-- an operand
operand_read : {room : ℕ} {tokens : List Token} {left : Operand} → IsOperand room tokens left
    → (len : ℕ) (frames : List Frame) (rest : List Token) → HasRoom frames room
    → starts_open rest ≡ false
    → run len (tokens ++ rest) frames wants ≡ on (end_operand frames left) (run len rest)
operand_read (a_word token p) len frames rest h o =
    wants_first len token rest frames Word (word_step frames token.place token.bytes) p.kind
    (operand_wanted frames token.place token.bytes)
    ∙ rw (p.not_and, p.not_or) (word_read len frames token.bytes rest (function_of token.bytes) o)
operand_read (a_quoted token k e) len frames rest h o =
    wants_first len token rest frames Quoted
    (end_text frames (token.place + 1) (reading (inner_of token.bytes))) k
    (quoted_wanted frames token.place token.bytes)
    ∙ ap (λ r. on (end_text frames (token.place + 1) r) (run len rest)) e
operand_read (a_reference token k e) len frames rest h o =
    wants_first len token rest frames Reference (end_text frames token.place (reading token.bytes))
    k (reference_wanted frames token.place token.bytes)
    ∙ ap (λ r. on (end_text frames token.place r) (run len rest)) e
operand_read
    (a_call {room = room} word opening closing {function = function} {inner = inner}
    {operand = left} w f op i cl) len frames rest h o =
    wants_first len word (opening ∷ (inner ++ closing ∷ []) ++ rest) frames Word
    (word_step frames word.place word.bytes) w (operand_wanted frames word.place word.bytes)
    ∙ rw (no_keyword word.bytes function f, f) (
    ap
    (λ k. on (named_step frames function word.bytes k opening.place opening.bytes)
    (run len ((inner ++ closing ∷ []) ++ rest))) op
    ∙ ap (λ next. on next (run len ((inner ++ closing ∷ []) ++ rest)))
    (nests frames (call_of function) room opening.place h)
    ∙ ap (λ ts. run len ts (call_of function ∷ frames) wants)
    (append_assoc inner (closing ∷ []) rest)
    ∙ operand_read i len (call_of function ∷ frames) (closing ∷ rest) (omega arith) (ap is_open cl)
    ∙ ap
    (λ k. on (behind_step (call_of function ∷ frames) left k closing.place closing.bytes)
    (run len rest)) cl)

-- what may follow a unary: nothing, a word or a `)`
abbrev pub is_end : Kind → Bool
is_end Word = true
is_end Close = true
is_end _ = false

abbrev pub Follows : List Token → Type 0
Follows [] = Unit {0}
Follows (token ∷ tokens) = is_end token.kind ≡ true

follows_open : (kind : Kind) → is_end kind ≡ true → is_open kind ≡ false
follows_open Open e = cc
follows_open _ e = refl

no_open : (rest : List Token) → Follows rest → starts_open rest ≡ false
no_open [] f = refl
no_open (token ∷ tokens) f = follows_open token.kind f

not_compare : (kind : Kind) → is_end kind ≡ true → (comparison : Comparison)
    → kind ≡ Compare comparison → ⊥
not_compare kind e comparison k = let x = sym (ap is_end k) ∙ e in cc

not_equals : (kind : Kind) → is_end kind ≡ true → kind ≡ Equals → ⊥
not_equals kind e k = let x = sym (ap is_end k) ∙ e in cc

not_bang : (kind : Kind) → is_end kind ≡ true → kind ≡ Bang → ⊥
not_bang kind e k = let x = sym (ap is_end k) ∙ e in cc

truth_read : (len : ℕ) (rest : List Token) (frames : List Frame) (left : Operand)
    → wants_operand frames ≡ false → Follows rest
    → run len rest frames (operand left) ≡ on (end_unary frames (truth left)) (run len rest)
truth_read len [] frames left w f = truth_ends len frames left w
truth_read len (token ∷ tokens) frames left w f = truth_step len token tokens frames left w
    (not_compare token.kind f) (not_equals token.kind f) (not_bang token.kind f)

end_operand_free : (frames : List Frame) (left : Operand) → wants_operand frames ≡ false
    → end_operand frames left ≡ go frames (operand left)
end_operand_free (comparison_of comparison right ∷ frames) left e = cc
end_operand_free (call_of function ∷ frames) left e = cc
end_operand_free [] left e = refl
end_operand_free (not_of ∷ frames) left e = refl
end_operand_free (or_of tree ∷ frames) left e = refl
end_operand_free (and_of tree ∷ frames) left e = refl
end_operand_free (group_of ∷ frames) left e = refl

end_unary_free : (frames : List Frame) (tree : Tree) → takes_and frames ≡ true
    → end_unary frames tree ≡ go frames (done tree)
end_unary_free [] tree e = refl
end_unary_free (or_of left ∷ frames) tree e = refl
end_unary_free (group_of ∷ frames) tree e = refl
end_unary_free (and_of left ∷ frames) tree e = cc
end_unary_free (not_of ∷ frames) tree e = cc
end_unary_free (comparison_of comparison left ∷ frames) tree e = cc
end_unary_free (call_of function ∷ frames) tree e = cc

free_of_and : (frames : List Frame) → takes_and frames ≡ true → wants_operand frames ≡ false
free_of_and [] e = refl
free_of_and (or_of left ∷ frames) e = refl
free_of_and (group_of ∷ frames) e = refl
free_of_and (and_of left ∷ frames) e = cc
free_of_and (not_of ∷ frames) e = cc
free_of_and (comparison_of comparison left ∷ frames) e = cc
free_of_and (call_of function ∷ frames) e = cc

or_takes_and : (frames : List Frame) → takes_or frames ≡ true → takes_and frames ≡ true
or_takes_and [] e = refl
or_takes_and (group_of ∷ frames) e = refl
or_takes_and (or_of left ∷ frames) e = refl
or_takes_and (and_of left ∷ frames) e = cc
or_takes_and (not_of ∷ frames) e = cc
or_takes_and (comparison_of comparison left ∷ frames) e = cc
or_takes_and (call_of function ∷ frames) e = cc

compare_read : (len : ℕ) (sign : Token) (tokens : List Token) (frames : List Frame)
    (comparison : Comparison) (left : Operand) → wants_operand frames ≡ false
    → sign.kind ≡ Compare comparison
    → run len (sign ∷ tokens) frames (operand left)
    ≡ run len tokens (comparison_of comparison left ∷ frames) wants
compare_read len sign tokens frames comparison left w k =
    ap (λ next. on next (run len tokens))
    (behind_comparable frames left sign.kind sign.place sign.bytes w
    ∙ ap (λ x. comparable_step frames left x sign.place sign.bytes) k)

and_read : (len : ℕ) (word : Token) (tokens : List Token) (frames : List Frame) (left : Tree)
    → word.kind ≡ Word → is_and word.bytes ≡ true
    → run len (word ∷ tokens) frames (done left) ≡ run len tokens (and_of left ∷ frames) wants
and_read len word tokens frames left k e = ap
    (λ x. on (tree_step frames left x word.place word.bytes) (run len tokens)) k ∙ rw e refl

or_read : (len : ℕ) (word : Token) (tokens : List Token) (frames : List Frame) (left : Tree)
    → takes_or frames ≡ true → word.kind ≡ Word → is_or word.bytes ≡ true
    → run len (word ∷ tokens) frames (done left) ≡ run len tokens (or_of left ∷ frames) wants
or_read len word tokens frames left t k e = ap
    (λ x. on (tree_step frames left x word.place word.bytes) (run len tokens)) k
    ∙ rw (or_not_and word.bytes e, e, end_or_outer frames left t) refl

group_read : (len : ℕ) (closing : Token) (tokens : List Token) (frames : List Frame) (tree : Tree)
    → closing.kind ≡ Close
    → run len (closing ∷ tokens) (group_of ∷ frames) (done tree)
    ≡ on (end_unary frames tree) (run len tokens)
group_read len closing tokens frames tree k = ap
    (λ x. on (tree_step (group_of ∷ frames) tree x closing.place closing.bytes) (run len tokens)) k

unary_first : (len : ℕ) (token : Token) (rest : List Token) (frames : List Frame) (kind : Kind)
    (next : Next) → wants_operand frames ≡ false → token.kind ≡ kind
    → unary_step frames kind token.place token.bytes ≡ next
    → run len (token ∷ rest) frames wants ≡ on next (run len rest)
unary_first len token rest frames kind next w k e = rw w
    (ap (λ x. on x (run len rest)) (ap (λ x. unary_step frames x token.place token.bytes) k ∙ e))

word_follows : (word : Token) → word.kind ≡ Word → is_end word.kind ≡ true
word_follows word k = ap is_end k

word_and : (word : Token) (tokens : List Token) → word.kind ≡ Word → is_and word.bytes ≡ false
    → starts_and (word ∷ tokens) ≡ false
word_and word tokens k e = ap (λ x. is_word is_and x word.bytes) k ∙ e

close_and : (closing : Token) (tokens : List Token) → closing.kind ≡ Close
    → starts_and (closing ∷ tokens) ≡ false
close_and closing tokens k = ap (λ x. is_word is_and x closing.bytes) k

mutual
  or_reads : {room : ℕ} {tokens : List Token} {tree : Tree} → IsOr room tokens tree
      → (len : ℕ) (frames : List Frame) (rest : List Token) → HasRoom frames room
      → takes_or frames ≡ true → Follows rest → starts_and rest ≡ false
      → run len (tokens ++ rest) frames wants ≡ run len rest frames (done tree)
  or_reads (one_and d) len frames rest h t f n = and_reads d len frames rest h
      (or_takes_and frames t) f
  or_reads (more_or {first = first} {second = second} word {left = left} {right = right} d k e a)
      len frames rest h t f n =
      ap (λ ts. run len ts frames wants) (append_assoc first (word ∷ second) rest)
      ∙ or_reads d len frames (word ∷ second ++ rest) h t (word_follows word k)
      (word_and word (second ++ rest) k (or_not_and word.bytes e))
      ∙ or_read len word (second ++ rest) frames left t k e
      ∙ and_reads a len (or_of left ∷ frames) rest h refl f
      ∙ settle len rest frames left right t n

  and_reads : {room : ℕ} {tokens : List Token} {tree : Tree} → IsAnd room tokens tree
      → (len : ℕ) (frames : List Frame) (rest : List Token) → HasRoom frames room
      → takes_and frames ≡ true → Follows rest
      → run len (tokens ++ rest) frames wants ≡ run len rest frames (done tree)
  and_reads (one_unary {tree = tree} d) len frames rest h t f =
      unary_reads d len frames rest h (free_of_and frames t) f
      ∙ ap (λ next. on next (run len rest)) (end_unary_free frames tree t)
  and_reads (more_and {first = first} {second = second} word {left = left} d k e u) len frames rest
      h t f =
      ap (λ ts. run len ts frames wants) (append_assoc first (word ∷ second) rest)
      ∙ and_reads d len frames (word ∷ second ++ rest) h t (word_follows word k)
      ∙ and_read len word (second ++ rest) frames left k e
      ∙ unary_reads u len (and_of left ∷ frames) rest h refl f

  unary_reads : {room : ℕ} {tokens : List Token} {tree : Tree} → IsUnary room tokens tree
      → (len : ℕ) (frames : List Frame) (rest : List Token) → HasRoom frames room
      → wants_operand frames ≡ false → Follows rest
      → run len (tokens ++ rest) frames wants ≡ on (end_unary frames tree) (run len rest)
  unary_reads (a_not {room = room} bang {inner = inner} k d) len frames rest h w f =
      unary_first len bang (inner ++ rest) frames Bang (go (not_of ∷ frames) wants) w k
      (nests frames not_of room bang.place h)
      ∙ unary_reads d len (not_of ∷ frames) rest (omega arith) refl f
  unary_reads (a_group {room = room} opening closing {inner = inner} {tree = tree} k d c) len frames
      rest h w f =
      unary_first len opening ((inner ++ closing ∷ []) ++ rest) frames Open
      (go (group_of ∷ frames) wants) w k (nests frames group_of room opening.place h)
      ∙ ap (λ ts. run len ts (group_of ∷ frames) wants) (append_assoc inner (closing ∷ []) rest)
      ∙ or_reads d len (group_of ∷ frames) (closing ∷ rest) (omega arith) refl (ap is_end c)
      (close_and closing rest c)
      ∙ group_read len closing rest frames tree c
  unary_reads (a_truth {operand = left} d) len frames rest h w f =
      operand_read d len frames rest h (no_open rest f)
      ∙ ap (λ next. on next (run len rest)) (end_operand_free frames left w)
      ∙ truth_read len rest frames left w f
  unary_reads
      (a_comparison {first = first} {second = second} sign {comparison = comparison} {left = left} d
      k e) len frames rest h w f =
      ap (λ ts. run len ts frames wants) (append_assoc first (sign ∷ second) rest)
      ∙ operand_read d len frames (sign ∷ second ++ rest) h (ap is_open k)
      ∙ ap (λ next. on next (run len (sign ∷ second ++ rest))) (end_operand_free frames left w)
      ∙ compare_read len sign (second ++ rest) frames comparison left w k
      ∙ operand_read e len (comparison_of comparison left ∷ frames) rest h (no_open rest f)

not_empty : (len : ℕ) (tokens : List Token) (tree : Tree) → run len tokens [] wants ≡ Ok tree
    → read_tokens len tokens ≡ Ok tree
not_empty len [] tree e = cc
not_empty len (token ∷ tokens) tree e = e

pub condition_read : (text : List ℕ) (tree : Tree) → IsCondition text tree
    → condition_of text ≡ Ok tree
condition_read text tree (no_condition e) = ap (read_tokens (length text)) e
condition_read text tree (a_condition d) =
    not_empty (length text) (tokens_of text) tree
    (ap (λ ts. run (length text) ts [] wants) (sym (append-nil (tokens_of text)))
    ∙ or_reads d (length text) [] [] refl refl tt refl)

-- an answer that is read so is that tree
pub only_answer : (text : List ℕ) (result : Result Cond CondFault) (tree : Tree)
    → IsRead result (condition_of text) → IsCondition text tree
    → MatchResult result (λ cond. tree_of cond ≡ tree) (λ fault. fault ≡ Memory)
only_answer text (Ok cond) tree r d = let e : Ok (tree_of cond) ≡ Ok tree = sym r
    ∙ condition_read text tree d in cc
only_answer text (Err fault) tree r d = refused fault
    (subst (IsRefused fault) (condition_read text tree d) r)
  where
    refused : (fault : CondFault) → IsRefused fault (Ok tree) → fault ≡ Memory
    refused (Syntax place) r = cc
    refused (NotBoolean value) r = absurd r
    refused (NotNumbers left right) r = absurd r
    refused (Expand (Expr inner)) r = cc
    refused (Expand _) r = absurd r
    refused Memory r = refl
