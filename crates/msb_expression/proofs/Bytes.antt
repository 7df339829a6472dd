-- What the sort of a byte says of it.
use Rattle.std.proofs.Common.{
  ◌≡◌,
  ℕ,
  ◌<◌,
  ◌≤◌,
  Bool,
  true,
  false,
  cond,
  List,
  length,
  drop,
  refl,
  ap,
}
use Rattle.std.specs.Prelude.{◌==◌, IsTrue}
use Rattle.std.proofs.lemmas.List.{drop_more, drop_all}
use Rattle.std.proofs.lemmas.Bool.{eqb-true}
use Rattle.msb_expression.specs.declared.sorts.Sort.{Sort}
use Rattle.msb_expression.specs.declared.sorts.Sort.TheVariants.{
  End,
  Letter,
  Digit,
  Dash,
  Space,
  Quote,
  Open,
  Close,
  Comma,
  Dot,
  Greater,
  Dollar,
  Percent,
  At,
  Bracket,
  Other,
}
use Rattle.msb_expression.specs.declared.sorts.Kind.{Kind}
use Rattle.msb_expression.specs.Grammar.{is_letter, is_digit}
use Rattle.msb_expression.specs.Machine.{sort_of, refused, bad, early}

pub refused-at : (bs : List ℕ) (n : ℕ) (kind wanted : Kind) → n < length bs → kind ≡ wanted
    → (refused (drop n bs) kind ≡ bad wanted (drop n bs)) × (n < length bs)
refused-at bs n kind wanted h e = (rw (e, drop_more bs n 0 h) refl, h)

pub refused_past : (bs : List ℕ) (n : ℕ) (kind : Kind) → length bs ≤ n
    → refused (drop n bs) kind ≡ early
refused_past bs n kind h = rw (drop_all n bs h) refl

-- what a byte of a sort is
abbrev pub SortIs : Sort → ℕ → Type 0
SortIs End b = ⊥
SortIs Letter b = is_letter b ≡ true
SortIs Digit b = is_digit b ≡ true
SortIs Dash b = b ≡ 45
SortIs Space b = b ≡ 32
SortIs Quote b = b ≡ 39
SortIs Open b = b ≡ 40
SortIs Close b = b ≡ 41
SortIs Comma b = b ≡ 44
SortIs Dot b = b ≡ 46
SortIs Greater b = b ≡ 62
SortIs Dollar b = b ≡ 36
SortIs Percent b = b ≡ 37
SortIs At b = b ≡ 64
SortIs Bracket b = b ≡ 91
SortIs Other b = Unit {0}

picked : (t : Bool) (b : ℕ) (one rest : Sort) → (t ≡ true → SortIs one b) → SortIs rest b
    → SortIs (cond t one rest) b
picked true b one rest h k = h refl
picked false b one rest h k = k

coded : (b k : ℕ) (one rest : Sort) → (b ≡ k → SortIs one b) → SortIs rest b
    → SortIs (cond (b == k) one rest) b
coded b k one rest h more = picked (b == k) b one rest (λ e. h (eqb-true b k e)) more

pub sort_is : (b : ℕ) → SortIs (sort_of b) b
sort_is b =
    picked (is_letter b) b Letter _ (λ e. e) (picked (is_digit b) b Digit _ (λ e. e)
    (coded b 45 Dash _ (λ e. e)
    (coded b 32 Space _ (λ e. e) (coded b 39 Quote _ (λ e. e) (coded b 40 Open _ (λ e. e)
    (coded b 41 Close _ (λ e. e)
    (coded b 44 Comma _ (λ e. e) (coded b 46 Dot _ (λ e. e) (coded b 62 Greater _ (λ e. e)
    (coded b 36 Dollar _ (λ e. e) (coded b 37 Percent _ (λ e. e) (coded b 64 At _ (λ e. e)
    (coded b 91 Bracket Other (λ e. e) tt)))))))))))))

-- a byte of another sort than that of k isn't k
pub other_byte : (b k : ℕ) → (sort_of b ≡ sort_of k → ⊥) → (b == k) ≡ false
other_byte b k h = go (b == k) refl
  where
    go : (t : Bool) → (b == k) ≡ t → t ≡ false
    go true e = absurd (h (ap sort_of (eqb-true b k e)))
    go false e = refl

pub letter_sort : (b : ℕ) → IsTrue (is_letter b) → sort_of b ≡ Letter
letter_sort b h = rw h refl
