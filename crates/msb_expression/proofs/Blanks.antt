-- White space at the front and at the end of a text.
use Rattle.std.proofs.Common.{
  ◌≡◌,
  ℕ,
  ◌+◌,
  ◌-◌,
  ◌<◌,
  ◌≤◌,
  Bool,
  true,
  false,
  List,
  [],
  ◌∷◌,
  ◌++◌,
  length,
  take,
  drop,
  get_or,
  refl,
  sym,
  ap,
  ◌∙◌,
  append_assoc,
  length-drop,
  arith,
  ◌⊎◌,
  inl,
  inr,
}
use Rattle.std.specs.Prelude.{◌==◌, ◌||◌, reverse}
use Rattle.std.proofs.lemmas.List.{
  append-nil,
  reverse-append,
  reverse-reverse,
  drop_more,
  drop_all,
  take_more,
}
use Rattle.std.proofs.lemmas.Bool.{cases_lt, eq-eqb, eqb-true, eqb-false}
use Rattle.msb_expression.specs.declared.expression.Piece.{Piece}
use Rattle.msb_expression.specs.declared.expression.Piece.TheVariants.{Plain as PlainPiece}
use Rattle.msb_expression.specs.Grammar.{
  is_blank,
  begins_blank,
  without_front,
  without_end,
  plain_pieces,
  cut_piece,
  cut_pieces,
  trimmed_pieces,
}

chosen : (t : Bool) (one other : List ℕ) → t ≡ true → elim t [ true ↦ one | false ↦ other ] ≡ one
chosen true one other e = refl
chosen false one other e = cc

not_chosen : (t : Bool) (one other : List ℕ) → t ≡ false
    → elim t [ true ↦ one | false ↦ other ] ≡ other
not_chosen true one other e = cc
not_chosen false one other e = refl

front_blank : (b : ℕ) (bs : List ℕ) → is_blank b ≡ true → without_front (b ∷ bs) ≡ without_front bs
front_blank b bs e = chosen (is_blank b) (without_front bs) (b ∷ bs) e

front_kept : (b : ℕ) (bs : List ℕ) → is_blank b ≡ false → without_front (b ∷ bs) ≡ b ∷ bs
front_kept b bs e = not_chosen (is_blank b) (without_front bs) (b ∷ bs) e

pub blank_small : (b : ℕ) → is_blank b ≡ true → b < 128
blank_small b e = by (b == 32) (b == 9) (b == 13) (b == 10) refl refl refl refl e
  where
    by : (s t r n : Bool) → (b == 32) ≡ s → (b == 9) ≡ t → (b == 13) ≡ r → (b == 10) ≡ n
        → (s || (t || (r || n))) ≡ true → b < 128
    by true t r n p q u v h = omega (arith, eqb-true b 32 p)
    by false true r n p q u v h = omega (arith, eqb-true b 9 q)
    by false false true n p q u v h = omega (arith, eqb-true b 13 u)
    by false false false true p q u v h = omega (arith, eqb-true b 10 v)
    by false false false false p q u v h = cc

pub front_goes : (bs : List ℕ) (n : ℕ) → n < length bs → is_blank (get_or bs n 0) ≡ true
    → without_front (drop n bs) ≡ without_front (drop (n + 1) bs)
front_goes bs n l e =
    ap without_front (drop_more bs n 0 l) ∙ front_blank (get_or bs n 0) (drop (n + 1) bs) e

pub front_ends : (bs : List ℕ) (n : ℕ) → (n < length bs → is_blank (get_or bs n 0) ≡ false)
    → without_front (drop n bs) ≡ drop n bs
front_ends bs n h = by (cases_lt n (length bs))
  where
    by : (n < length bs) ⊎ (length bs ≤ n) → without_front (drop n bs) ≡ drop n bs
    by (inl l) =
        ap without_front (drop_more bs n 0 l) ∙ front_kept (get_or bs n 0) (drop (n + 1) bs) (h l)
        ∙ sym (drop_more bs n 0 l)
    by (inr g) = ap without_front (drop_all n bs g) ∙ sym (drop_all n bs g)

end_blank : (xs : List ℕ) (b : ℕ) → is_blank b ≡ true → without_end (xs ++ b ∷ []) ≡ without_end xs
end_blank xs b e =
    ap (λ t. reverse (without_front t)) (reverse-append xs (b ∷ []))
    ∙ ap reverse (front_blank b (reverse xs) e)

end_kept : (xs : List ℕ) (b : ℕ) → is_blank b ≡ false → without_end (xs ++ b ∷ []) ≡ xs ++ b ∷ []
end_kept xs b e =
    ap (λ t. reverse (without_front t)) (reverse-append xs (b ∷ []))
    ∙ ap reverse (front_kept b (reverse xs) e)
    ∙ ap reverse (sym (reverse-append xs (b ∷ []))) ∙ reverse-reverse (xs ++ b ∷ [])

pub end_goes : (bs : List ℕ) (n : ℕ) → n < length bs → is_blank (get_or bs n 0) ≡ true
    → without_end (take (n + 1) bs) ≡ without_end (take n bs)
end_goes bs n l e = ap without_end (take_more bs n 0 l) ∙ end_blank (take n bs) (get_or bs n 0) e

pub end_ends : (bs : List ℕ) (n : ℕ) → n ≤ length bs
    → (0 < n → is_blank (get_or bs (n - 1) 0) ≡ false)
    → without_end (take n bs) ≡ take n bs
end_ends bs n w h = by (cases_lt 0 n)
  where
    by : (0 < n) ⊎ (n ≤ 0) → without_end (take n bs) ≡ take n bs
    by (inl l) =
        let more : take n bs ≡ take (n - 1) bs ++ get_or bs (n - 1) 0 ∷ [] =
        ap (λ k. take k bs) (omega arith) ∙ take_more bs (n - 1) 0 (omega arith) in
        ap without_end more ∙ end_kept (take (n - 1) bs) (get_or bs (n - 1) 0) (h l) ∙ sym more
    by (inr g) =
        let is_zero : n ≡ 0 = omega arith in
        let none : take n bs ≡ [] = ap (λ k. take k bs) is_zero in
        ap without_end none ∙ sym none

apart : (x y : ℕ) → (x ≡ y → ⊥) → (x == y) ≡ false
apart x y h = by (x == y) refl
  where
    by : (t : Bool) → (x == y) ≡ t → t ≡ false
    by true e = absurd (h (eqb-true x y e))
    by false e = refl

-- the pieces of an argument, one by one
pub cut_step : (front : Bool) (piece : Piece) (rest : List Piece)
    → cut_pieces front (piece ∷ rest) ≡ cut_piece front (length rest == 0) piece ++ cut_pieces false
    rest
cut_step front piece [] = sym (append-nil (cut_piece front true piece))
cut_step front piece (x ∷ xs) =
    ap (λ t. cut_piece front t piece ++ cut_pieces false (x ∷ xs))
    (sym (apart (length (x ∷ xs)) 0 (λ e. absurd (omega arith))))

same_count : (n at len : ℕ) → n ≡ len - (at + 1) → at < len → (n == 0) ≡ (at + 1 == len)
same_count n at len e l = by (at + 1 == len) refl
  where
    by : (t : Bool) → (at + 1 == len) ≡ t → (n == 0) ≡ t
    by true f = eq-eqb n 0 (omega (arith, eqb-true (at + 1) len f))
    by false f = apart n 0 (λ g. eqb-false (at + 1) len f (omega arith))

never_first : (at : ℕ) → (at + 1 == 0) ≡ false
never_first at = apart (at + 1) 0 (λ e. absurd (omega arith))

-- one piece more
pub cut_turn : (pieces : List Piece) (at : ℕ) (kept new : List Piece) (piece : Piece)
    → at < length pieces
    → piece ≡ get_or pieces at piece
    → new ≡ kept ++ cut_piece (at == 0) (at + 1 == length pieces) piece
    → kept ++ cut_pieces (at == 0) (drop at pieces) ≡ trimmed_pieces pieces
    → new ++ cut_pieces (at + 1 == 0) (drop (at + 1) pieces) ≡ trimmed_pieces pieces
cut_turn pieces at kept new piece l p e h =
    let rest : List Piece = drop (at + 1) pieces in
    let shape : drop at pieces ≡ piece ∷ rest =
    drop_more pieces at piece l ∙ ap (λ x. x ∷ rest) (sym p) in
    let last : (length rest == 0) ≡ (at + 1 == length pieces) =
    same_count (length rest) at (length pieces) (length-drop (at + 1) pieces) l in
    let step : cut_pieces (at == 0) (drop at pieces) ≡ cut_piece (at == 0)
    (at + 1 == length pieces) piece ++ cut_pieces false rest =
    ap (cut_pieces (at == 0)) shape ∙ cut_step (at == 0) piece rest
    ∙ ap (λ t. cut_piece (at == 0) t piece ++ cut_pieces false rest) last in
    ap (λ t. new ++ cut_pieces t rest) (never_first at) ∙ ap (λ t. t ++ cut_pieces false rest) e
    ∙ append_assoc kept (cut_piece (at == 0) (at + 1 == length pieces) piece)
    (cut_pieces false rest)
    ∙ ap (λ t. kept ++ t) (sym step) ∙ h

-- plain text that is empty, or isn't
pub plain_none : (kept : List Piece) (plain : List ℕ) → (length plain == 0) ≡ true
    → kept ++ plain_pieces plain ≡ kept
plain_none kept [] e = append-nil kept
plain_none kept (b ∷ bs) e = absurd (omega (arith, eqb-true (length (b ∷ bs)) 0 e))

pub plain_some : (kept : List Piece) (plain : List ℕ) → (length plain == 0) ≡ false
    → kept ++ plain_pieces plain ≡ kept ++ PlainPiece plain ∷ []
plain_some kept [] e = cc
plain_some kept (b ∷ bs) e = refl

-- where white space stands
pub blank_there : (bs : List ℕ) (n : ℕ) → begins_blank (drop n bs) ≡ true
    → (n < length bs) × (is_blank (get_or bs n 0) ≡ true)
blank_there bs n e = by (cases_lt n (length bs))
  where
    by : (n < length bs) ⊎ (length bs ≤ n) → (n < length bs) × (is_blank (get_or bs n 0) ≡ true)
    by (inl l) = (l, sym (ap begins_blank (drop_more bs n 0 l)) ∙ e)
    by (inr g) = let k : false ≡ true = sym (ap begins_blank (drop_all n bs g)) ∙ e in cc

pub no_blank_there : (bs : List ℕ) (n : ℕ) → begins_blank (drop n bs) ≡ false → n < length bs
    → is_blank (get_or bs n 0) ≡ false
no_blank_there bs n e l = sym (ap begins_blank (drop_more bs n 0 l)) ∙ e
