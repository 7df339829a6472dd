-- Where an identity's parts meet.
use Rattle.std.proofs.Common.{
  ◌≡◌,
  ◌≢◌,
  ℕ,
  ◌+◌,
  ◌-◌,
  ◌<◌,
  ◌≤◌,
  Bool,
  true,
  false,
  not,
  cond,
  eqb,
  List,
  length,
  get_or,
  take,
  refl,
  ap,
  ◌∙◌,
  arith,
  tests,
  zero,
  suc,
  subst,
}
use Rattle.std.proofs.lemmas.Bool.{eqb-true, eq-eqb}
use Rattle.std.specs.List.{suffix_len, before_last}
use Rattle.std.specs.Str.{IsCharBoundary, IsUtf8}
use Rattle.std.proofs.lemmas.List.{length-drop, get_or_default}
use Rattle.std.proofs.lemmas.List.Sums.{suffix_len_is}
use Rattle.std.proofs.lemmas.List.Folds.{list_any_at, list_any_none}
use Rattle.std.proofs.lemmas.Str.{IsCharBoundary-start, IsCharBoundary-after_ascii}
use Rattle.msb_paths.specs.Segments.{is_separator}
use Rattle.msb_paths.specs.Parts.{is_dot, file_of, file_name}

pub separator_ascii : (b : ℕ) → is_separator b ≡ true → b < 128
separator_ascii b is = grind (arith, tests)

-- n is behind the last separator
pub folder_ends : (text : List ℕ) (n : ℕ) → n ≤ length text
    → ((k : ℕ) → n ≤ k → k < length text → is_separator (get_or text k 0) ≡ false)
    → (0 < n → is_separator (get_or text (n - 1) 0) ≡ true)
    → n ≡ length text - length (file_of text)
folder_ends text n within after here =
    let far = suffix_len_is (λ b. not (is_separator b)) text n 0 within
    (λ k above below. ap not (after k above below)) (λ some. ap not (here some)) in
    omega (arith, far, length-drop (length text - suffix_len (λ b. not (is_separator b)) text) text)

pub folder_boundary : (text : List ℕ) (n : ℕ) → IsUtf8 text → n ≤ length text
    → (0 < n → is_separator (get_or text (n - 1) 0) ≡ true) → IsCharBoundary text n
folder_boundary text zero utf8 within here = IsCharBoundary-start text utf8
folder_boundary text (suc n) utf8 within here =
    let P : ℕ → Type 0 = λ m. IsCharBoundary text m in
    let behind : is_separator (get_or text n 0)
    ≡ true = ap (λ m. is_separator (get_or text m 0)) (omega arith) ∙ here (omega arith) in
    subst P (omega arith)
    (IsCharBoundary-after_ascii text n utf8 (omega arith)
    (separator_ascii (get_or text n 0) behind))

not_dot : (b : ℕ) → b ≢ 46 → is_dot b ≡ false
not_dot b differs = other (eqb b 46) refl
  where
    other : (x : Bool) → eqb b 46 ≡ x → x ≡ false
    other true is = absurd (differs (eqb-true b 46 is))
    other false is = refl

-- the last dot stands at n
pub name_ends : (file : List ℕ) (n : ℕ) → n < length file → get_or file n 0 ≡ 46
    → ((k : ℕ) → n < k → k < length file → get_or file k 0 ≢ 46)
    → file_name file ≡ take n file
name_ends file n within here after =
    let dot : is_dot (get_or file n 0) ≡ true = eq-eqb _ _ here in
    let some = list_any_at is_dot file n 0 within dot in
    let far = suffix_len_is (λ b. not (is_dot b)) file (n + 1) 0 (omega arith)
    (λ k above below. ap not (not_dot _ (after k (omega arith) below)))
    (λ _. ap (λ m. not (is_dot (get_or file m 0))) (omega arith) ∙ ap not dot) in
    ap (λ b. cond b (before_last is_dot file) file) some
    ∙ ap (λ m. take m file) (omega (arith, far))

-- no dot
pub name_is_whole : (file : List ℕ) → ((k : ℕ) → k < length file → get_or file k 0 ≢ 46)
    → file_name file ≡ file
name_is_whole file none =
    ap (λ b. cond b (before_last is_dot file) file)
    (list_any_none is_dot file (λ k d below. ap is_dot (get_or_default file k d 0 below)
    ∙ not_dot _ (none k below)))
