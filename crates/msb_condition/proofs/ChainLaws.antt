-- The machine over what stands behind an `And` and an `Or`.
use Rattle.std.proofs.Common.{
  ◌≡◌,
  ℕ,
  true,
  false,
  List,
  [],
  ◌∷◌,
  ◌++◌,
  map,
  length,
  refl,
  sym,
  ap,
  ◌∙◌,
}
use Rattle.std.specs.Prelude.{codes}
use Rattle.std.specs.List.{fold}
use Rattle.std.specs.Str.{bytes_eq, str_to_ascii_lowercase}
use Rattle.std.proofs.lemmas.Slice.Eq.{bytes_eq-Decides}
use Rattle.msb_condition.specs.declared.tokens.Kind.{Kind}
use Rattle.msb_condition.specs.declared.tokens.Kind.TheVariants.{Close, Word}
use Rattle.msb_condition.specs.Leads.{
  run_at,
  step_at,
  takes_or,
  is_word,
  starts_and,
  IsOrAt,
  IsAndAt,
}
use Rattle.msb_condition.specs.Machine.{
  Frame,
  or_of,
  and_of,
  not_of,
  group_of,
  comparison_of,
  call_of,
  done,
  wants,
  on,
  run,
  end_or,
  finished,
  tree_step,
  unary_step,
  wants_operand,
}
use Rattle.msb_condition.specs.Places.{tokens_at}
use Rattle.msb_condition.specs.Tokens.{Token, is_and, is_or}
use Rattle.msb_condition.specs.Trees.{Tree, either}

pub same_bytes : (a b : List ℕ) → bytes_eq a b ≡ true → a ≡ b
same_bytes a b e = (bytes_eq-Decides a b).0 e

pub or_not_and : (word : List ℕ) → is_or word ≡ true → is_and word ≡ false
or_not_and word e = ap (λ w. bytes_eq w (str_to_ascii_lowercase (codes "and")))
    (same_bytes (str_to_ascii_lowercase word) (str_to_ascii_lowercase (codes "or")) e)

-- an `And` behind a tree
pub and_step : (text : List ℕ) (at next : ℕ) (frames : List Frame) (tree : Tree)
    → IsAndAt text at next → run_at text at frames (done tree)
    ≡ run_at text next (and_of tree ∷ frames) wants
and_step text at next frames tree is = ap (λ ts. run (length text) ts frames (done tree)) is.next
    ∙ rw is.passes refl

pub end_or_outer : (frames : List Frame) (tree : Tree) → takes_or frames ≡ true
    → end_or frames tree ≡ (frames, tree)
end_or_outer [] tree e = refl
end_or_outer (group_of ∷ frames) tree e = refl
end_or_outer (or_of left ∷ frames) tree e = cc
end_or_outer (and_of left ∷ frames) tree e = cc
end_or_outer (not_of ∷ frames) tree e = cc
end_or_outer (comparison_of comparison left ∷ frames) tree e = cc
end_or_outer (call_of function ∷ frames) tree e = cc

-- an `Or` behind the first of an `or`
pub or_step : (text : List ℕ) (at next : ℕ) (frames : List Frame) (tree : Tree)
    → takes_or frames ≡ true → IsOrAt text at next
    → run_at text at frames (done tree) ≡ run_at text next (or_of tree ∷ frames) wants
or_step text at next frames tree t is = ap (λ ts. run (length text) ts frames (done tree)) is.next
    ∙ rw (or_not_and is.bytes is.passes, is.passes, end_or_outer frames tree t) refl

settle_step : (frames : List Frame) (left right : Tree) (kind : Kind) (place : ℕ) (bytes : List ℕ)
    → takes_or frames ≡ true → is_word is_and kind bytes ≡ false
    → tree_step (or_of left ∷ frames) right kind place bytes
    ≡ tree_step frames (either left right) kind place bytes
settle_step frames left right Word place bytes t n = rw
    (n, end_or_outer frames (either left right) t) refl
settle_step frames left right Close place bytes t n = rw (end_or_outer frames (either left right) t)
    refl
settle_step frames left right _ place bytes t n = refl

-- an `or` ends where no `And` follows
pub settle : (len : ℕ) (tokens : List Token) (frames : List Frame) (left right : Tree)
    → takes_or frames ≡ true → starts_and tokens ≡ false
    → run len tokens (or_of left ∷ frames) (done right)
    ≡ run len tokens frames (done (either left right))
settle len [] frames left right t n = ap (finished len)
    (sym (end_or_outer frames (either left right) t))
settle len (token ∷ tokens) frames left right t n = ap (λ next. on next (run len tokens))
    (settle_step frames left right token.kind token.place token.bytes t n)

-- one more of a chain
pub fold_push : {A B : Type 0} (f : B → A → B) (a : B) (xs : List A) (x : A)
    → fold f a (xs ++ x ∷ []) ≡ f (fold f a xs) x
fold_push f a [] x = refl
fold_push f a (y ∷ xs) x = fold_push f (f a y) xs x

pub map_push : {A B : Type 0} (f : A → B) (xs : List A) (x : A)
    → map f (xs ++ x ∷ []) ≡ map f xs ++ f x ∷ []
map_push f [] x = refl
map_push f (y ∷ xs) x = ap (λ ys. f y ∷ ys) (map_push f xs x)

pub wants_at : (text : List ℕ) (at : ℕ) (token : Token) (end : ℕ) (frames : List Frame)
    → tokens_at at text ≡ token ∷ tokens_at end text → wants_operand frames ≡ false
    → run_at text at frames wants ≡ step_at text
    (unary_step frames token.kind token.place token.bytes) end
wants_at text at token end frames next w = ap (λ ts. run (length text) ts frames wants) next
    ∙ rw w refl
