-- The byte at a place of a text.
use Rattle.std.proofs.Common.{
  ◌≡◌,
  ℕ,
  ◌+◌,
  ◌-◌,
  ◌<◌,
  ◌≤◌,
  true,
  List,
  [],
  ◌∷◌,
  ◌++◌,
  length,
  take,
  drop,
  get_or,
  refl,
  sym,
  ap,
  ◌∙◌,
  subst,
  arith,
  ◌⊎◌,
  inl,
  inr,
  length-drop,
}
use Rattle.std.specs.Prelude.{◌==◌}
use Rattle.std.proofs.lemmas.List.{drop_more, drop_all, take_more, get_or-drop}
use Rattle.std.proofs.lemmas.Bool.{cases_lt}
use Rattle.msb_expression.specs.declared.sorts.Sort.{Sort}
use Rattle.msb_expression.specs.declared.sorts.Sort.TheVariants.{End, Letter, Digit, Dash, Space}
use Rattle.msb_expression.specs.declared.sorts.Kind.{Kind}
use Rattle.msb_expression.specs.Grammar.{Every, IsSpaces, is_name_byte}
use Rattle.msb_expression.specs.Machine.{
  sort_of,
  first_sort,
  is_name_sort,
  Mode,
  go,
  stop,
  step_of,
  run,
  refused,
  finish,
  early,
}
use Rattle.msb_expression.proofs.Bytes.{SortIs, sort_is}
use Rattle.msb_expression.proofs.Joined.{Every-append}
use Rattle.msb_expression.proofs.KeepsNames.{letter_in_name, digit_in_name, dash_in_name}
use Rattle.msb_expression.proofs.Runs.{run-go, run-stop, run-nil}

-- there is a byte
pub record HasByte (bs : List ℕ) (n : ℕ) : Type 0 where
  pub within : n < length bs
  pub split : drop n bs ≡ get_or bs n 0 ∷ drop (n + 1) bs
  pub sort : sort_of (get_or bs n 0) ≡ first_sort (drop n bs)

pub has_byte : (bs : List ℕ) (n : ℕ) → (first_sort (drop n bs) ≡ End → ⊥) → HasByte bs n
has_byte bs n h = by (cases_lt n (length bs))
  where
    by : (n < length bs) ⊎ (length bs ≤ n) → HasByte bs n
    by (inl l) = record
        { within = l; split = drop_more bs n 0 l; sort = sym (ap first_sort (drop_more bs n 0 l)) }
    by (inr g) = absurd (h (ap first_sort (drop_all n bs g)))

pub byte_is : (bs : List ℕ) (n : ℕ) (sort : Sort) → first_sort (drop n bs) ≡ sort → (sort ≡ End → ⊥)
    → SortIs sort (get_or bs n 0)
byte_is bs n sort e h =
    let b : HasByte bs n = has_byte bs n (λ k. h (sym e ∙ k)) in
    subst (λ s. SortIs s (get_or bs n 0)) (b.sort ∙ e) (sort_is (get_or bs n 0))

-- one step from there on
pub run-at : (bs : List ℕ) (n : ℕ) (mode next : Mode) (sort : Sort) → first_sort (drop n bs) ≡ sort
    → (sort ≡ End → ⊥) → step_of mode sort (get_or bs n 0) ≡ go next
    → run (drop n bs) mode ≡ run (drop (n + 1) bs) next
run-at bs n mode next sort e h s =
    let b : HasByte bs n = has_byte bs n (λ k. h (sym e ∙ k)) in
    ap (λ t. run t mode) b.split ∙ run-go (get_or bs n 0) (drop (n + 1) bs) mode next
    (ap (λ x. step_of mode x (get_or bs n 0)) (b.sort ∙ e) ∙ s)

pub run-space_at : (bs : List ℕ) (n : ℕ) (mode : Mode) → first_sort (drop n bs) ≡ Space
    → step_of mode Space 32 ≡ go mode → run (drop n bs) mode ≡ run (drop (n + 1) bs) mode
run-space_at bs n mode e s =
    run-at bs n mode mode Space e (λ k. cc)
    (ap (λ b. step_of mode Space b) (byte_is bs n Space e (λ k. cc)) ∙ s)

name_byte_by : (b : ℕ) (sort : Sort) → is_name_sort sort ≡ true → SortIs sort b
    → is_name_byte b ≡ true
name_byte_by b Letter e f = letter_in_name b f
name_byte_by b Digit e f = digit_in_name b f
name_byte_by b Dash e f = dash_in_name b f
name_byte_by b _ e f = cc

name_is_byte : (sort : Sort) → is_name_sort sort ≡ true → sort ≡ End → ⊥
name_is_byte sort e h = let k = ap is_name_sort (sym h) ∙ e in cc

-- a name's bytes, with one more
pub record NameGoes (bs : List ℕ) (at end : ℕ) : Type 0 where
  pub within : end < length bs
  pub bytes : Every is_name_byte (take (end + 1 - at) (drop at bs))

pub name_goes : (bs : List ℕ) (at end : ℕ) → at ≤ end
    → Every is_name_byte (take (end - at) (drop at bs))
    → is_name_sort (first_sort (drop end bs)) ≡ true → NameGoes bs at end
name_goes bs at end l h e =
    let b : HasByte bs end = has_byte bs end (name_is_byte (first_sort (drop end bs)) e) in
    let n : is_name_byte (get_or bs end 0) ≡ true = name_byte_by (get_or bs end 0)
    (first_sort (drop end bs)) e
    (byte_is bs end (first_sort (drop end bs)) refl (name_is_byte (first_sort (drop end bs)) e))
    in
    let k : end - at < length (drop at bs) = omega (arith, length-drop at bs, b.within) in
    let more : take (end - at + 1) (drop at bs)
    ≡ take (end - at) (drop at bs) ++ get_or (drop at bs) (end - at) 0
    ∷ [] = take_more (drop at bs) (end - at) 0 k in
    let same : get_or (drop at bs) (end - at) 0 ≡ get_or bs end 0 = get_or-drop at bs (end - at) 0
    ∙ ap (λ i. get_or bs i 0) (omega arith) in
    let count : end + 1 - at ≡ end - at + 1 = omega arith in
    record {
      within = b.within;
      bytes = subst (λ t. Every is_name_byte t)
          (sym (ap (λ i. take i (drop at bs)) count ∙ more
          ∙ ap (λ x. take (end - at) (drop at bs) ++ x ∷ []) same))
          (Every-append is_name_byte (take (end - at) (drop at bs)) (get_or bs end 0 ∷ []) h
          (n, tt));
    }

-- spaces, with one more
pub space_goes : (bs : List ℕ) (at end : ℕ) → at ≤ end → IsSpaces (take (end - at) (drop at bs))
    → first_sort (drop end bs) ≡ Space → IsSpaces (take (end + 1 - at) (drop at bs))
space_goes bs at end l h e =
    let b : HasByte bs end = has_byte bs end (λ k. let z = sym e ∙ k in cc) in
    let k : end - at < length (drop at bs) = omega (arith, length-drop at bs, b.within) in
    let more : take (end - at + 1) (drop at bs) ≡ take (end - at) (drop at bs) ++ get_or
    (drop at bs) (end - at) 0 ∷ [] = take_more (drop at bs) (end - at) 0 k in
    let same : get_or (drop at bs) (end - at) 0 ≡ get_or bs end 0 =
    get_or-drop at bs (end - at) 0 ∙ ap (λ i. get_or bs i 0) (omega arith) in
    let count : end + 1 - at ≡ end - at + 1 = omega arith in
    let is_space : (get_or bs end 0 == 32) ≡ true =
    ap (λ c. c == 32) (byte_is bs end Space e (λ k. cc)) in
    subst IsSpaces (sym (ap (λ i. take i (drop at bs)) count ∙ more
    ∙ ap (λ x. take (end - at) (drop at bs) ++ x ∷ []) same))
    (Every-append (λ x. x == 32) (take (end - at) (drop at bs)) (get_or bs end 0 ∷ []) h
    (is_space, tt))

-- where no byte that stands there can
pub run-refused : (bs : List ℕ) (mode : Mode) (kind : Kind) → finish mode ≡ early
    → ((b : ℕ) → first_sort bs ≡ sort_of b → step_of mode (sort_of b) b ≡ stop kind)
    → run bs mode ≡ refused bs kind
run-refused [] mode kind e h = run-nil mode ∙ e
run-refused (b ∷ bs) mode kind e h = run-stop b bs mode kind (h b refl)
