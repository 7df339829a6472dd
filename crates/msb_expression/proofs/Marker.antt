-- `[msbuild]::`, byte by byte.
use Rattle.std.proofs.Common.{
  ◌≡◌,
  ℕ,
  zero,
  suc,
  ◌+◌,
  ◌-◌,
  ◌<◌,
  ◌≤◌,
  Bool,
  true,
  false,
  List,
  ◌∷◌,
  length,
  drop,
  get_or,
  refl,
  sym,
  ap,
  ◌∙◌,
  length-drop,
  arith,
  ◌⊎◌,
  inl,
  inr,
}
use Rattle.std.specs.Prelude.{◌==◌, codes}
use Rattle.std.specs.Char.{to_ascii_lowercase}
use Rattle.std.proofs.lemmas.List.{drop_more, drop_all}
use Rattle.std.proofs.lemmas.Bool.{cases_lt, eq-eqb, eqb-true, false≢true}
use Rattle.msb_expression.specs.declared.expression.Part.{Part}
use Rattle.msb_expression.specs.declared.sorts.Kind.TheVariants.{Name}
use Rattle.msb_expression.specs.declared.sorts.Sort.TheVariants.{Bracket}
use Rattle.msb_expression.specs.Machine.{
  first_sort,
  begins_lower,
  property_opened,
  build_opened,
  build_next,
  build_from,
  build_begun,
  Mode,
  go,
  stop,
  go_if,
  run,
  refused,
}
use Rattle.msb_expression.proofs.Runs.{run-go, run-stop, run-nil, picked}
use Rattle.msb_expression.proofs.Places.{HasByte, has_byte, byte_is}
use Rattle.msb_expression.proofs.RunsCalls.{lower_bracket}

abbrev pub marker : List ℕ
marker = codes "[msbuild]::"

same_byte : (x y : ℕ) → x ≡ y → (x == y) ≡ true
same_byte x y e = eq-eqb x y e

begun_later : (parts : List Part) (left : List ℕ) → length left < 11
    → build_begun parts left ≡ build_next parts left
begun_later parts left h = by (length left == 11) (other (length left) h)
  where
    other : (n : ℕ) → n < 11 → (n == 11) ≡ false
    other n h = by (n == 11) refl
      where
        by : (t : Bool) → (n == 11) ≡ t → t ≡ false
        by true e = absurd (omega (arith, eqb-true n 11 e))
        by false e = refl

    by : (t : Bool) → t ≡ false
        → build_from t parts left ≡ build_next parts left
    by true e = cc
    by false e = refl

left_is : (k : ℕ) → k < 11 → drop k marker ≡ get_or marker k 0 ∷ drop (k + 1) marker
left_is k l = drop_more marker k 0 l

left_length : (k : ℕ) → k ≤ 11 → length (drop k marker) ≡ 11 - k
left_length k l = length-drop k marker

-- the mode before a byte behind the `[`
begun_at : (parts : List Part) (k : ℕ) → 0 < k → k < 11
    → build_begun parts (drop k marker) ≡ build_opened parts
    (get_or marker k 0 ∷ drop (k + 1) marker)
begun_at parts k p l =
    begun_later parts (drop k marker) (omega (arith, left_length k (omega arith)))
    ∙ ap (build_next parts) (left_is k l)

module _ (parts : List Part) (bs : List ℕ) (n k : ℕ) where
  go_first : n < length bs → to_ascii_lowercase (get_or bs n 0) ≡ 91
      → run (drop n bs) (build_begun parts (drop 0 marker)) ≡ run (drop (n + 1) bs)
      (build_begun parts (drop 1 marker))
  go_first l e =
      ap (λ t. run t (property_opened parts)) (drop_more bs n 0 l)
      ∙ ap (λ c. run (c ∷ drop (n + 1) bs) (property_opened parts))
      (lower_bracket (get_or bs n 0) e)
      ∙ run-go 91 (drop (n + 1) bs) (property_opened parts)
      (build_opened parts (codes "msbuild]::")) refl

  go_later : n < length bs → 0 < k → k < 11 → to_ascii_lowercase (get_or bs n 0) ≡ get_or marker k 0
      → run (drop n bs) (build_begun parts (drop k marker)) ≡ run (drop (n + 1) bs)
      (build_begun parts (drop (k + 1) marker))
  go_later l p q e =
      let b : ℕ = get_or bs n 0 in
      let w : ℕ = get_or marker k 0 in
      let left : List ℕ = drop (k + 1) marker in
      ap (run (drop n bs)) (begun_at parts k p q)
      ∙ ap (λ t. run t (build_opened parts (w ∷ left))) (drop_more bs n 0 l)
      ∙ run-go b (drop (n + 1) bs) (build_opened parts (w ∷ left)) (build_next parts left)
      (picked (to_ascii_lowercase b == w) (build_next parts left)
      (same_byte (to_ascii_lowercase b) w e))
      ∙ ap (run (drop (n + 1) bs))
      (sym (begun_later parts left (omega (arith, left_length (k + 1) (omega arith)))))

  not_picked : (t : Bool) (mode : Mode) → t ≡ false → go_if t mode ≡ stop Name
  not_picked true mode e = cc
  not_picked false mode e = refl

  stops_later : 0 < k → k < 11
      → (n < length bs → (to_ascii_lowercase (get_or bs n 0) == get_or marker k 0) ≡ false)
      → run (drop n bs) (build_begun parts (drop k marker)) ≡ refused (drop n bs) Name
  stops_later p q e = ap (run (drop n bs)) (begun_at parts k p q) ∙ by (cases_lt n (length bs))
    where
      by : (n < length bs) ⊎ (length bs ≤ n)
          → run (drop n bs) (build_opened parts (get_or marker k 0 ∷ drop (k + 1) marker)) ≡ refused
          (drop n bs) Name
      by (inl l) =
          ap (λ t. run t (build_opened parts (get_or marker k 0 ∷ drop (k + 1) marker)))
          (drop_more bs n 0 l)
          ∙ run-stop (get_or bs n 0) (drop (n + 1) bs)
          (build_opened parts (get_or marker k 0 ∷ drop (k + 1) marker)) Name
          (not_picked (to_ascii_lowercase (get_or bs n 0) == get_or marker k 0)
          (build_next parts (drop (k + 1) marker)) (e l))
          ∙ ap (λ t. refused t Name) (sym (drop_more bs n 0 l))
      by (inr g) =
          ap (λ t. run t (build_opened parts (get_or marker k 0 ∷ drop (k + 1) marker)))
          (drop_all n bs g)
          ∙ run-nil (build_opened parts (get_or marker k 0 ∷ drop (k + 1) marker))
          ∙ ap (λ t. refused t Name) (sym (drop_all n bs g))

-- one byte of it
pub byte_there : (bs : List ℕ) (n w : ℕ) → begins_lower w (drop n bs) ≡ true
    → (n < length bs) × (to_ascii_lowercase (get_or bs n 0) ≡ w)
byte_there bs n w e = by (cases_lt n (length bs))
  where
    by : (n < length bs) ⊎ (length bs ≤ n)
        → (n < length bs) × (to_ascii_lowercase (get_or bs n 0) ≡ w)
    by (inl l) = (
      l,
      eqb-true (to_ascii_lowercase (get_or bs n 0)) w
          (sym (ap (begins_lower w) (drop_more bs n 0 l)) ∙ e),
    )
    by (inr g) = absurd (false≢true (sym (ap (begins_lower w) (drop_all n bs g)) ∙ e))

pub marker_goes : (parts : List Part) (bs : List ℕ) (n k : ℕ) → k < 11
    → begins_lower (get_or marker k 0) (drop n bs) ≡ true
    → run (drop n bs) (build_begun parts (drop k marker)) ≡ run (drop (n + 1) bs)
    (build_begun parts (drop (k + 1) marker))
marker_goes parts bs n zero q e =
    let b = byte_there bs n (get_or marker zero 0) e in go_first parts bs n zero b.0 b.1
marker_goes parts bs n (suc k) q e =
    let b =
    byte_there bs n (get_or marker (suc k) 0) e in
    go_later parts bs n (suc k) b.0 (omega arith) q b.1

-- another byte, or none
pub marker_stops : (parts : List Part) (bs : List ℕ) (at n k : ℕ) → n ≡ at + k
    → first_sort (drop at bs) ≡ Bracket → k < 11
    → begins_lower (get_or marker k 0) (drop n bs) ≡ false
    → run (drop n bs) (build_begun parts (drop k marker)) ≡ refused (drop n bs) Name
marker_stops parts bs at n zero p s q e =
    let b : HasByte bs at = has_byte bs at (λ k. let z = sym s ∙ k in cc) in
    let f : get_or bs at 0 ≡ 91 = byte_is bs at Bracket s (λ k. cc) in
    let same : at ≡ n = omega arith in
    let t : begins_lower 91 (drop n bs) ≡ true =
    ap (λ i. begins_lower 91 (drop i bs)) (sym same)
    ∙ ap (begins_lower 91) (drop_more bs at 0 b.within)
    ∙ ap (λ c. to_ascii_lowercase c == 91) f in
    absurd (false≢true (sym e ∙ t))
marker_stops parts bs at n (suc k) p s q e =
    stops_later parts bs n (suc k) (omega arith) q
    (λ l. sym (ap (begins_lower (get_or marker (suc k) 0)) (drop_more bs n 0 l)) ∙ e)
