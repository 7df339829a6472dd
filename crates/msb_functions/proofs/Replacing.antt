-- What `replace` of the standard library gives is the text in which each part is replaced.
use Rattle.std.proofs.Common.{
  ◌≡◌,
  ℕ,
  zero,
  suc,
  ◌+◌,
  ◌-◌,
  ◌<◌,
  ◌≤◌,
  Bool,
  true,
  false,
  inl,
  inr,
  List,
  [],
  ◌∷◌,
  ◌++◌,
  length,
  take,
  drop,
  nat_eq,
  ap,
  sym,
  ◌∙◌,
  subst,
  refl,
  arith,
  suc-le-suc,
  zero-le,
}
use Rattle.std.specs.List.{starts_with}
use Rattle.std.specs.Str.Pattern.{FindsText, LacksTextAt}
use Rattle.std.specs.Str.Replace.{ReplacesMatches}
use Rattle.std.proofs.lemmas.List.Prefix.{front_rest}
use Rattle.msb_functions.proofs.Containing.{front, is_front}
use Rattle.msb_functions.specs.Texts.{replaced_past, replaced}

-- where the part doesn't stand, the byte stays
passed : (from to : List ℕ) (b : ℕ) (bs : List ℕ) → starts_with nat_eq (b ∷ bs) from ≡ false
    → replaced from to (b ∷ bs) ≡ b ∷ replaced from to bs
passed from to b bs not =
    ap (λ t. elim t [
      | true ↦ to ++ replaced_past from to (length from - 1) bs
      | false ↦ b ∷ replaced_past from to zero bs
    ]) not

found : (from to : List ℕ) (b : ℕ) (bs : List ℕ) → starts_with nat_eq (b ∷ bs) from ≡ true
    → replaced from to (b ∷ bs) ≡ to ++ replaced_past from to (length from - 1) bs
found from to b bs is =
    ap (λ t. elim t [
      | true ↦ to ++ replaced_past from to (length from - 1) bs
      | false ↦ b ∷ replaced_past from to zero bs
    ]) is

-- the bytes that are still of a part that was found are passed over
past : (from to : List ℕ) (n : ℕ) (text : List ℕ)
    → replaced_past from to n text ≡ replaced from to (drop n text)
past from to zero text = refl
past from to (suc n) [] = refl
past from to (suc n) (b ∷ bs) = past from to n bs

decided : (b : Bool) → (b ≡ true → ⊥) → b ≡ false
decided true h = absurd (h refl)
decided false h = refl

lacks : (from : List ℕ) (b : ℕ) (bs : List ℕ) → LacksTextAt from (b ∷ bs) 0
    → starts_with nat_eq (b ∷ bs) from ≡ false
lacks from b bs h =
    decided (starts_with nat_eq (b ∷ bs) from)
    (λ is. h (drop (length from) (b ∷ bs)) (front (b ∷ bs) from is))

-- a text in which the part stands nowhere
none : (from to text : List ℕ) → ((i : ℕ) → i ≤ length text → LacksTextAt from text i)
    → replaced from to text ≡ text
none from to [] h = refl
none from to (b ∷ bs) h =
    passed from to b bs (lacks from b bs (h 0 zero-le))
    ∙ ap (λ xs. b ∷ xs) (none from to bs (λ i le. h (suc i) (suc-le-suc le)))

no_zero : 0 < 0 → ⊥
no_zero h = omega arith

empty : (from rest : List ℕ) → 0 < length from → [] ≡ from ++ rest → ⊥
empty [] rest some is = absurd (no_zero some)
empty (x ∷ xs) rest some is = cc

-- behind a part whose first byte was passed
behind : (from : List ℕ) (b : ℕ) (bs rest : List ℕ) → 0 < length from → b ∷ bs ≡ from ++ rest
    → drop (length from - 1) bs ≡ rest
behind [] b bs rest some is = absurd (no_zero some)
behind (x ∷ xs) b bs rest some is =
    let tail : bs ≡ xs ++ rest = cc in
    let one : length (x ∷ xs) - 1 ≡ length xs = omega arith in
    ap (λ n. drop n bs) one ∙ front_rest bs xs rest tail

-- one in which it stands first at a place
first_at : (from to : List ℕ) (place : ℕ) (text rest : List ℕ) → 0 < length from
    → ((i : ℕ) → i < place → LacksTextAt from text i) → drop place text ≡ from ++ rest
    → replaced from to text ≡ take place text ++ (to ++ replaced from to rest)
first_at from to zero [] rest some h is = absurd (empty from rest some is)
first_at from to zero (b ∷ bs) rest some h is =
    found from to b bs (is_front (b ∷ bs) from rest is)
    ∙ ap (λ xs. to ++ xs) (past from to (length from - 1) bs
    ∙ ap (replaced from to) (behind from b bs rest some is))
first_at from to (suc place) [] rest some h is = absurd (empty from rest some is)
first_at from to (suc place) (b ∷ bs) rest some h is =
    passed from to b bs (lacks from b bs (h 0 (omega arith)))
    ∙ ap (λ xs. b ∷ xs)
    (first_at from to place bs rest some (λ i below. h (suc i) (suc-le-suc below)) is)

never : (a b n : ℕ) → 0 < n → b ≡ a + n → a ≡ b → ⊥
never a b n some ends same = omega arith

-- the whole, where patterns are seen as texts
pub replaced_is : {P : Type 0} (now : P → List ℕ) (to : List ℕ) (n : ℕ) (p : P) (text out : List ℕ)
    → 0 < length (now p)
    → ReplacesMatches (λ q. FindsText (now q)) (λ q r. now r ≡ now q) to n p text out
    → out ≡ replaced (now p) to text
replaced_is now to zero p text out some h = h.1 ∙ sym (none (now p) to text h.0)
replaced_is now to (suc n) p text out some h =
    let place = h.0 in
    let end = h.1 in
    let q = h.2 in
    let rest = h.3 in
    elim h.6 [
      | inl goes ↦ (
          let same : now q ≡ now p = h.5 in
          let later : rest ≡ replaced (now p) to (drop end text) =
          replaced_is now to n q (drop end text) rest
          (subst (λ x. 0 < length x) (sym same) some) goes.1
          ∙ ap (λ x. replaced x to (drop end text)) same in
          h.7 ∙ ap (λ x. take place text ++ (to ++ x)) later
          ∙ sym (first_at (now p) to place text (drop end text) some h.4.0 h.4.1.split))
      | inr stays ↦ absurd (never place end (length (now p)) some h.4.1.ends stays.0)
    ]
