-- A listing in order, and one more file behind its last one.
use Rattle.std.proofs.Common.{
  ◌≡◌,
  ℕ,
  zero,
  suc,
  ◌-◌,
  List,
  [],
  ◌∷◌,
  ◌++◌,
  length,
  true,
  Some,
  IfSome,
  refl,
  subst,
  arith,
}
use Rattle.std.specs.List.{list_all, slice_get}
use Rattle.std.proofs.lemmas.Option.{slice_get-get_or}
use Rattle.msb_laws.specs.Words.{Path}
use Rattle.file_store.specs.Paths.{is_before}
use Rattle.file_store.specs.Entries.{paths_in, are_listed_in_order}
use Rattle.file_store.specs.declared.store.Entry.{Entry}
use Rattle.file_store.proofs.Order.{and_true, both_true, chain}

all_more : (p : Path) (xs : List Entry) (e : Entry) → list_all (is_before p) (paths_in xs) ≡ true
    → is_before p e.path ≡ true → list_all (is_before p) (paths_in (xs ++ e ∷ [])) ≡ true
all_more p [] e h b = both_true _ _ b refl
all_more p (x ∷ xs) e h b = let both = and_true _ _ h in both_true _ _ both.0
    (all_more p xs e both.1 b)

before_at : (p : Path) (xs : List Entry) (n : ℕ) (l : Entry)
    → list_all (is_before p) (paths_in xs) ≡ true → slice_get xs n ≡ Some l
    → is_before p l.path ≡ true
before_at p [] n l h g = cc
before_at p (x ∷ xs) zero l h g = let b : is_before p x.path ≡ true = (and_true _ _ h).0 in cc
before_at p (x ∷ xs) (suc n) l h g = before_at p xs n l (and_true _ _ h).1 g

behind_last : (xs : List Entry) (n : ℕ) (l e : Entry) → length xs ≡ suc n → slice_get xs n ≡ Some l
    → is_before l.path e.path ≡ true → are_listed_in_order xs ≡ true
    → are_listed_in_order (xs ++ e ∷ []) ≡ true
behind_last [] n l e w g b r = absurd (omega arith)
behind_last (x ∷ []) zero l e w g b r =
    let b : is_before x.path e.path ≡ true = cc in
    both_true _ _ (both_true _ _ b refl) refl
behind_last (x ∷ (y ∷ ys)) zero l e w g b r = absurd (omega arith)
behind_last (x ∷ xs) (suc n) l e w g b r =
    let both = and_true _ _ r in
    let first = chain x.path l.path e.path (before_at x.path xs n l both.0 g) b in
    both_true _ _ (all_more x.path xs e both.0 first)
    (behind_last xs n l e (omega arith) g b both.1)

-- a file whose path stands behind the last one may follow
pub rising_next : (xs : List Entry) (e : Entry) → are_listed_in_order xs ≡ true
    → IfSome (slice_get xs (length xs - 1)) (λ l. is_before l.path e.path ≡ true)
    → are_listed_in_order (xs ++ e ∷ []) ≡ true
rising_next [] e r h = refl
rising_next (x ∷ xs) e r h =
    let P : Entry → Type 0 = λ l. is_before l.path e.path ≡ true in
    let n : length (x ∷ xs) - 1 ≡ length xs = omega arith in
    let g = slice_get-get_or (x ∷ xs) (length xs) x (omega arith) in
    let b = subst (λ o. IfSome o P) g (subst (λ k. IfSome (slice_get (x ∷ xs) k) P) n h) in
    behind_last (x ∷ xs) (length xs) _ e refl g b r
