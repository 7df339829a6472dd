-- An array in chunks, read and written at one of them.
use Rattle.std.proofs.Common.{
  ◌≡◌,
  ◌⊎◌,
  inl,
  inr,
  ℕ,
  zero,
  suc,
  ◌+◌,
  ◌*◌,
  ◌/◌,
  ◌%◌,
  ◌<◌,
  ◌≤◌,
  List,
  [],
  ◌∷◌,
  ◌++◌,
  length,
  get_or,
  take,
  set,
  sym,
  ap,
  ◌∙◌,
  subst,
  arith,
  append_assoc,
  append-nil,
  length-append,
  suc-mul,
  zero-mul,
  div-add-mod',
}
use Rattle.std.specs.Prelude.{replicate}
use Rattle.std.proofs.Math.Nat.{eq-or-lt_of_le}
use Rattle.std.proofs.Math.Seq.{take-append-add, get_or-append_seam}
use Rattle.std.proofs.lemmas.List.{
  length-take-le,
  take-append-le,
  get_or-take,
  get_or_append_left,
  get_or-append_right,
  set-append_left,
  set-append_right,
  length-set,
  length-replicate,
  get_or-replicate,
  get_or-set_same,
  get_or-set_other,
  replicate-append-replicate,
}
use Rattle.std.proofs.lemmas.Bool.{cases_eq}
use Rattle.std.proofs.lemmas.Nat.{mod_below, div_below}
use Rattle.target_order.specs.Chunks.{joined, AreOf}

rest_of : {T : Type 0} (w : ℕ) (c : List T) (chunks : List (List T)) → AreOf w (c ∷ chunks)
    → AreOf w chunks
rest_of w c chunks are k lt = are (suc k) (omega arith)

pub joined_length : {T : Type 0} (w : ℕ) (chunks : List (List T)) → AreOf w chunks
    → length (joined chunks) ≡ length chunks * w
joined_length w [] are = sym (zero-mul w)
joined_length w (c ∷ chunks) are =
    omega (
      arith,
      length-append c (joined chunks),
      are 0 (omega arith),
      joined_length w chunks
          (rest_of w c chunks are),
      suc-mul (length chunks) w,
    )

-- entry r of chunk q
pub joined_get : {T : Type 0} (w : ℕ) (chunks : List (List T)) → AreOf w chunks → (q r : ℕ)
    → q < length chunks → r < w → (d : T) → get_or (joined chunks) (q * w + r) d
    ≡ get_or (get_or chunks q []) r d
joined_get w [] are q r lt below d = absurd (omega arith)
joined_get w (c ∷ chunks) are zero r lt below d =
    ap (λ n. get_or (joined (c ∷ chunks)) n d) (omega (arith, zero-mul w))
    ∙ get_or_append_left c (joined chunks) d r (omega (arith, are 0 (omega arith)))
joined_get w (c ∷ chunks) are (suc q) r lt below d =
    get_or-append_right c (joined chunks) w (suc q * w + r) d (are 0 (omega arith))
    (omega (arith, suc-mul q w))
    ∙ (ap (λ n. get_or (joined chunks) n d) (omega (arith, suc-mul q w))
    ∙ joined_get w chunks (rest_of w c chunks are) q r (omega arith) below d)

pub joined_set : {T : Type 0} (w : ℕ) (chunks : List (List T)) → AreOf w chunks → (q r : ℕ)
    → q < length chunks → r < w → (x : T) →
    joined (set chunks q (set (get_or chunks q []) r x)) ≡ set (joined chunks) (q * w + r) x
joined_set w [] are q r lt below x = absurd (omega arith)
joined_set w (c ∷ chunks) are zero r lt below x =
    sym (ap (λ n. set (joined (c ∷ chunks)) n x) (omega (arith, zero-mul w))
    ∙ set-append_left c (joined chunks) r x (omega (arith, are 0 (omega arith))))
joined_set w (c ∷ chunks) are (suc q) r lt below x =
    ap (λ xs. c ++ xs) (joined_set w chunks (rest_of w c chunks are) q r (omega arith) below x
    ∙ ap (λ n. set (joined chunks) n x) (omega (arith, suc-mul q w)))
    ∙ sym
    (set-append_right c (joined chunks) w (suc q * w + r) x (are 0 (omega arith))
    (omega (arith, suc-mul q w)))

-- a chunk is replaced by one of the same length
pub set_full : {T : Type 0} (w : ℕ) (chunks : List (List T)) (q : ℕ) (c : List T) → AreOf w chunks
    → length c ≡ w → AreOf w (set chunks q c)
set_full w chunks q c are full k lt = by_case (cases_eq k q)
  where
    by_case : (k ≡ q) ⊎ (k ≡ q → ⊥) → length (get_or (set chunks q c) k []) ≡ w
    by_case (inl e) = ap (λ n. length (get_or (set chunks q c) n [])) e
        ∙ (ap length (get_or-set_same chunks q c [] (omega (arith, length-set chunks q c))) ∙ full)
    by_case (inr ne) = ap length (get_or-set_other chunks q k c [] ne)
        ∙ are k (omega (arith, length-set chunks q c))

-- the same chunk again and again
pub same_full : {T : Type 0} (w n : ℕ) (c : List T) → length c ≡ w → AreOf w (replicate n c)
same_full w n c full k lt = ap length
    (get_or-replicate n k c [] (omega (arith, length-replicate n c))) ∙ full

pub same_joined : {T : Type 0} (w n : ℕ) (x : T)
    → joined (replicate n (replicate w x)) ≡ replicate (n * w) x
same_joined w zero x = ap (λ n. replicate n x) (sym (zero-mul w))
same_joined w (suc n) x = ap (λ xs. replicate w x ++ xs) (same_joined w n x)
    ∙ (replicate-append-replicate w (n * w) x
    ∙ ap (λ m. replicate m x) (omega (arith, suc-mul n w)))

-- one chunk more
pub joined_more : {T : Type 0} (chunks : List (List T)) (c : List T)
    → joined (chunks ++ c ∷ []) ≡ joined chunks ++ c
joined_more [] c = append-nil c
joined_more (d ∷ chunks) c = ap (λ xs. d ++ xs) (joined_more chunks c)
    ∙ sym (append_assoc d (joined chunks) c)

pub more_full : {T : Type 0} (w : ℕ) (chunks : List (List T)) (c : List T) → AreOf w chunks
    → length c ≡ w → AreOf w (chunks ++ c ∷ [])
more_full w chunks c are full k lt = by_case
    (eq-or-lt_of_le (omega (arith, length-append chunks (c ∷ []))))
  where
    by_case : (k ≡ length chunks) ⊎ (k < length chunks)
        → length (get_or (chunks ++ c ∷ []) k []) ≡ w
    by_case (inl e) = ap (λ n. length (get_or (chunks ++ c ∷ []) n [])) e
        ∙ (ap length (get_or-append_seam chunks c [] []) ∙ full)
    by_case (inr below) = ap length (get_or_append_left chunks (c ∷ []) [] k below) ∙ are k below

-- the first chunks
pub take_full : {T : Type 0} (w q : ℕ) (chunks : List (List T)) → AreOf w chunks → q ≤ length chunks
    → AreOf w (take q chunks)
take_full w q chunks are h k lt = let l = length-take-le q chunks h in ap length
    (get_or-take q chunks k [] (omega arith)) ∙ are k (omega arith)

-- the first entries: q chunks, and r entries of the next one
pub joined_take : {T : Type 0} (w : ℕ) (chunks : List (List T)) → AreOf w chunks → (q r : ℕ)
    → q < length chunks → r ≤ w →
    joined (take q chunks) ++ take r (get_or chunks q []) ≡ take (q * w + r) (joined chunks)
joined_take w [] are q r lt below = absurd (omega arith)
joined_take w (c ∷ chunks) are zero r lt below =
    sym (ap (λ n. take n (joined (c ∷ chunks))) (omega (arith, zero-mul w))
    ∙ take-append-le r c (joined chunks) (omega (arith, are 0 (omega arith))))
joined_take w (c ∷ chunks) are (suc q) r lt below =
    append_assoc c (joined (take q chunks)) (take r (get_or chunks q []))
    ∙ (ap (λ xs. c ++ xs) (joined_take w chunks (rest_of w c chunks are) q r (omega arith) below)
    ∙ (sym (take-append-add c (joined chunks) (q * w + r))
    ∙ ap (λ n. take n (joined (c ∷ chunks))) (omega (arith, are 0 (omega arith), suc-mul q w))))

module _ {T : Type 0} (w : ℕ) (some : 0 < w) (chunks : List (List T)) (are : AreOf w chunks) (i : ℕ)
    (lt : i < length (joined chunks)) where
  pub at_chunk : i / w < length chunks
  at_chunk = div_below i w (length chunks) some (subst (λ n. i < n) (joined_length w chunks are) lt)

  pub in_chunk : i % w < length (get_or chunks (i / w) [])
  in_chunk = subst (λ n. i % w < n) (sym (are (i / w) at_chunk)) (mod_below i w some)

  pub joined_read : (d : T) → get_or (joined chunks) i d
      ≡ get_or (get_or chunks (i / w) []) (i % w) d
  joined_read d =
      ap (λ n. get_or (joined chunks) n d) (sym (div-add-mod' i w))
      ∙ joined_get w chunks are (i / w) (i % w) at_chunk (mod_below i w some) d

  pub joined_write : (x : T)
      → joined (set chunks (i / w) (set (get_or chunks (i / w) []) (i % w) x))
      ≡ set (joined chunks) i x
  joined_write x =
      joined_set w chunks are (i / w) (i % w) at_chunk (mod_below i w some) x
      ∙ ap (λ n. set (joined chunks) n x) (div-add-mod' i w)

  pub write_full : (x : T) → AreOf w (set chunks (i / w) (set (get_or chunks (i / w) []) (i % w) x))
  write_full x = set_full w chunks (i / w) _ are
      (length-set (get_or chunks (i / w) []) (i % w) x ∙ are (i / w) at_chunk)
