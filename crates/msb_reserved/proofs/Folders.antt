-- Where the folder of a path ends.
use Rattle.std.proofs.Common.{
  ◌≡◌,
  ◌≢◌,
  ℕ,
  ◌+◌,
  ◌<◌,
  Bool,
  true,
  false,
  not,
  cond,
  eqb,
  List,
  [],
  length,
  get_or,
  take,
  refl,
  ap,
  ◌∙◌,
  arith,
}
use Rattle.std.proofs.lemmas.Bool.{eqb-true, eq-eqb}
use Rattle.std.specs.List.{before_last}
use Rattle.std.proofs.lemmas.List.{get_or_default}
use Rattle.std.proofs.lemmas.List.Sums.{suffix_len_is}
use Rattle.std.proofs.lemmas.List.Folds.{list_any_at, list_any_none}
use Rattle.msb_paths.specs.Segments.{is_slash}
use Rattle.msb_reserved.specs.Reserved.{folder_of}

not_slash : (b : ℕ) → b ≢ 47 → is_slash b ≡ false
not_slash b differs = other (eqb b 47) refl
  where
    other : (x : Bool) → eqb b 47 ≡ x → x ≡ false
    other true is = absurd (differs (eqb-true b 47 is))
    other false is = refl

-- the last slash stands at n
pub folder_ends : (path : List ℕ) (n : ℕ) → n < length path → get_or path n 0 ≡ 47
    → ((k : ℕ) → n < k → k < length path → get_or path k 0 ≢ 47)
    → folder_of path ≡ take n path
folder_ends path n within here after =
    let slash : is_slash (get_or path n 0) ≡ true = eq-eqb _ _ here in
    let some = list_any_at is_slash path n 0 within slash in
    let far =
    suffix_len_is (λ b. not (is_slash b)) path (n + 1) 0 (omega arith)
    (λ k above below. ap not (not_slash _ (after k (omega arith) below)))
    (λ _. ap (λ m. not (is_slash (get_or path m 0))) (omega arith) ∙ ap not slash) in
    ap (λ b. cond b (before_last is_slash path) []) some
    ∙ ap (λ m. take m path) (omega (arith, far))

-- no slash
pub folder_is_root : (path : List ℕ) → ((k : ℕ) → k < length path → get_or path k 0 ≢ 47)
    → folder_of path ≡ []
folder_is_root path none =
    ap (λ b. cond b (before_last is_slash path) [])
    (list_any_none is_slash path (λ k d below. ap is_slash (get_or_default path k d 0 below)
    ∙ not_slash _ (none k below)))
