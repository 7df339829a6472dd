-- Where a text may be cut to trim it: spaces are ASCII.
use Rattle.std.proofs.Common.{
  ◌≡◌,
  ℕ,
  zero,
  suc,
  ◌-◌,
  ◌<◌,
  ◌≤◌,
  List,
  length,
  get_or,
  reverse,
  true,
  sym,
  ap,
  subst,
  ◌∙◌,
  arith,
  add-one,
}
use Rattle.std.specs.List.{prefix_len, suffix_len}
use Rattle.std.specs.Str.{IsUtf8, IsCharBoundary}
use Rattle.std.proofs.lemmas.Bool.Decides.{nat_tests}
use Rattle.std.proofs.lemmas.List.Sums.{
  prefix_len_passes,
  prefix_len-le-length,
  suffix_len-le-length,
}
use Rattle.std.proofs.lemmas.List.{get_or-reverse}
use Rattle.std.proofs.lemmas.Str.{
  IsCharBoundary-start,
  IsCharBoundary-end,
  IsCharBoundary-after_ascii,
  IsCharBoundary-before_ascii,
}
use Rattle.msb_values.specs.Lists.{is_list_space}

is_list_space-ascii : (b : ℕ) → is_list_space b ≡ true → b < 128
is_list_space-ascii b h = grind (arith, nat_tests)

after_ascii : (bs : List ℕ) (n : ℕ) → IsUtf8 bs → n ≤ length bs
    → ((k : ℕ) → k < n → get_or bs k 0 < 128) → IsCharBoundary bs n
after_ascii bs zero u _ _ = IsCharBoundary-start bs u
after_ascii bs (suc n) u le each =
    let P : ℕ → Type 0 = λ m. IsCharBoundary bs m in
    subst P (add-one n) (IsCharBoundary-after_ascii bs n u (omega arith) (each n (omega arith)))

pub boundary_after_spaces : (bs : List ℕ) → IsUtf8 bs
    → IsCharBoundary bs (prefix_len is_list_space bs)
boundary_after_spaces bs u =
    after_ascii bs (prefix_len is_list_space bs) u (prefix_len-le-length is_list_space bs)
    (λ k h. is_list_space-ascii (get_or bs k 0) (prefix_len_passes is_list_space bs k 0 h))

pub start_boundary : (bs cs : List ℕ) (n : ℕ) → n ≡ prefix_len is_list_space cs → cs ≡ bs
    → IsUtf8 bs → IsCharBoundary bs n
start_boundary bs cs n counted same u =
    let P : ℕ → Type 0 = λ m. IsCharBoundary bs m in
    subst P (sym (counted ∙ ap (prefix_len is_list_space) same)) (boundary_after_spaces bs u)

before_ascii : (bs : List ℕ) (n : ℕ) → n ≤ length bs → (0 < n → get_or bs (length bs - n) 0 < 128)
    → IsCharBoundary bs (length bs - n)
before_ascii bs zero _ _ =
    let e : length bs ≡ length bs - 0 = omega arith in
    let P : ℕ → Type 0 = λ m. IsCharBoundary bs m in
    subst P e (IsCharBoundary-end bs)
before_ascii bs (suc n) le here = IsCharBoundary-before_ascii bs (length bs - suc n) (omega arith)
    (here (omega arith))

last_space : (bs : List ℕ) → 0 < suffix_len is_list_space bs
    → is_list_space (get_or bs (length bs - suffix_len is_list_space bs) 0) ≡ true
last_space bs some =
    let n = suffix_len is_list_space bs in
    let le : n ≤ length bs = suffix_len-le-length is_list_space bs in
    let passes : is_list_space (get_or (reverse bs) (n - 1) 0)
    ≡ true = prefix_len_passes is_list_space (reverse bs) (n - 1) 0 (omega arith) in
    let place : length bs - 1 - (n - 1) ≡ length bs - n = omega arith in
    ap is_list_space
    (sym (get_or-reverse bs (n - 1) 0 (omega arith) ∙ ap (λ i. get_or bs i 0) place)) ∙ passes

pub end_boundary : (bs cs : List ℕ) (n : ℕ) → n ≡ suffix_len is_list_space cs → cs ≡ bs
    → IsCharBoundary bs (length bs - n)
end_boundary bs cs n counted same =
    let P : ℕ → Type 0 = λ m. IsCharBoundary bs (length bs - m) in
    subst P (sym (counted ∙ ap (suffix_len is_list_space) same))
    (before_ascii bs (suffix_len is_list_space bs) (suffix_len-le-length is_list_space bs)
    (λ some. is_list_space-ascii _ (last_space bs some)))
