-- What starts at a place, in bytes.
use Rattle.std.proofs.Common.{
  ◌≡◌,
  ℕ,
  Bool,
  true,
  false,
  eqb,
  List,
  [],
  ◌∷◌,
  refl,
  sym,
  ap,
  ◌∙◌,
  subst,
}
use Rattle.std.specs.Prelude.{◌&&◌}
use Rattle.msb_expression.specs.declared.starts.Inside.{Inside}
use Rattle.msb_expression.specs.declared.starts.Inside.TheVariants.{Whole, Transform, Quoted, Loose}
use Rattle.msb_expression.specs.declared.starts.Start.{Start}
use Rattle.msb_expression.specs.declared.starts.Start.TheVariants as start
use Rattle.msb_expression.specs.declared.sorts.Sort.{Sort}
use Rattle.msb_expression.specs.declared.sorts.Sort.TheVariants.{
  End,
  Letter,
  Digit,
  Dash,
  Space,
  Quote,
  Open,
  Close,
  Comma,
  Dot,
  Greater,
  Dollar,
  Percent,
  At,
  Bracket,
  Other,
}
use Rattle.msb_expression.specs.Grammar.{opens, begins_reference, is_end_quote}
use Rattle.msb_expression.specs.Machine.{
  ends_argument,
  sort_of,
  first_sort,
  start_of,
  start_by,
  opened_start,
  bad_if_loose,
  part_start,
  metadata_start,
  items_start,
  quote_start,
}
use Rattle.msb_expression.proofs.Bytes.{SortIs, sort_is, other_byte}
use Rattle.msb_expression.proofs.PlainText.{
  ReadsMetadata,
  FitsLoose,
  EndsNone,
  is_common,
  uncommon,
  common_ordinary,
  common_fits,
  common_ends_none,
  begins-ordinary,
  no_end_quote,
  opens-other,
}

abbrev IsPlainAt : Inside → List ℕ → Type 0
IsPlainAt inside bs = (b : ℕ) × (more : List ℕ) × (bs ≡ b ∷ more)
    × (begins_reference inside (b ∷ more) ≡ false) × (is_end_quote inside b ≡ false)

-- where a quote ends the text
abbrev pub ReadsQuote : Inside → Type 0
ReadsQuote Whole = ⊥
ReadsQuote Transform = Unit {0}
ReadsQuote Quoted = Unit {0}
ReadsQuote Loose = ⊥

-- what can't stand in an argument without quotes
abbrev pub is_bad : Sort → Bool
is_bad Quote = true
is_bad Open = true
is_bad Percent = true
is_bad At = true
is_bad _ = false

-- what bytes those are
abbrev pub StartIs : Start → Inside → List ℕ → Type 0
StartIs start.End inside bs = bs ≡ []
StartIs start.Quote inside bs = (more : List ℕ) × (bs ≡ 39 ∷ more) × ReadsQuote inside
StartIs start.Property inside bs = (more : List ℕ) × (bs ≡ 36 ∷ 40 ∷ more)
StartIs start.Metadata inside bs = (more : List ℕ) × (bs ≡ 37 ∷ 40 ∷ more) × ReadsMetadata inside
StartIs start.Items inside bs = (more : List ℕ) × (bs ≡ 64 ∷ 40 ∷ more) × ReadsMetadata inside
StartIs start.Stop inside bs =
    (b : ℕ) × (more : List ℕ) × (bs ≡ b ∷ more) × (inside ≡ Loose)
    × (ends_argument (sort_of b) ≡ true)
StartIs start.Bad inside bs =
    (b : ℕ) × (more : List ℕ) × (bs ≡ b ∷ more) × (inside ≡ Loose) × (is_bad (sort_of b) ≡ true)
StartIs start.Plain inside bs = IsPlainAt inside bs

opens-unfollowed : (b k : ℕ) (more : List ℕ) → (first_sort more ≡ Open → ⊥)
    → opens k (b ∷ more) ≡ false
opens-unfollowed b k [] n = refl
opens-unfollowed b k (c ∷ cs) n = go (eqb b k)
  where
    go : (t : Bool) → (t && eqb c 40) ≡ false
    go true = other_byte c 40 n
    go false = refl

begins-unfollowed : (inside : Inside) (b : ℕ) (more : List ℕ) → FitsLoose inside b
    → (first_sort more ≡ Open → ⊥) → begins_reference inside (b ∷ more) ≡ false
begins-unfollowed Whole b more l n =
    rw (opens-unfollowed b 36 more n, opens-unfollowed b 37 more n, opens-unfollowed b 64 more n)
    refl
begins-unfollowed Transform b more l n =
    rw (opens-unfollowed b 36 more n, opens-unfollowed b 37 more n, opens-unfollowed b 64 more n)
    refl
begins-unfollowed Quoted b more l n = opens-unfollowed b 36 more n
begins-unfollowed Loose b more l n = rw (opens-unfollowed b 36 more n, l refl) refl

first_open : (more : List ℕ) → first_sort more ≡ Open → (rest : List ℕ) × (more ≡ 40 ∷ rest)
first_open [] e = cc
first_open (c ∷ cs) e = (cs, ap (λ x. x ∷ cs) (subst (λ s. SortIs s c) e (sort_is c)))

unfollowed : (inside : Inside) (b : ℕ) (more : List ℕ) → FitsLoose inside b → EndsNone inside b
    → eqb b 39 ≡ false → (first_sort more ≡ Open → ⊥) → IsPlainAt inside (b ∷ more)
unfollowed inside b more l m q n =
    (b, more, refl, begins-unfollowed inside b more l n, no_end_quote inside b q m)

common_at : (inside : Inside) (b : ℕ) (more : List ℕ) (sort : Sort) → sort_of b ≡ sort
    → is_common sort ≡ true → (inside ≡ Loose → ends_argument sort ≡ false)
    → IsPlainAt inside (b ∷ more)
common_at inside b more sort e c p = (
  b,
  more,
  refl,
  begins-ordinary inside b more (common_ordinary b sort e c)
      (common_fits inside b sort e c),
  no_end_quote inside b (uncommon b 39 sort e c refl) (common_ends_none inside b sort e p),
)

-- a `(`
open_starts : (inside : Inside) (more : List ℕ)
    → StartIs (bad_if_loose inside start.Plain) inside (40 ∷ more)
open_starts Whole more = (
  40,
  more,
  refl,
  begins-ordinary Whole 40 more
      (record { no_dollar = refl; no_percent = refl; no_at = refl }) (λ i. cc),
  refl,
)
open_starts Transform more = (
  40,
  more,
  refl,
  begins-ordinary Transform 40 more
      (record { no_dollar = refl; no_percent = refl; no_at = refl }) (λ i. cc),
  refl,
)
open_starts Quoted more = (
  40,
  more,
  refl,
  begins-ordinary Quoted 40 more
      (record { no_dollar = refl; no_percent = refl; no_at = refl }) (λ i. cc),
  refl,
)
open_starts Loose more = (40, more, refl, refl, refl)

-- a `,` or a `)`
part_starts : (inside : Inside) (b : ℕ) (more : List ℕ) (sort : Sort) → sort_of b ≡ sort
    → is_common sort ≡ true → ends_argument sort ≡ true
    → StartIs (part_start inside) inside (b ∷ more)
part_starts Whole b more sort e c p = common_at Whole b more sort e c (λ i. cc)
part_starts Transform b more sort e c p = common_at Transform b more sort e c (λ i. cc)
part_starts Quoted b more sort e c p = common_at Quoted b more sort e c (λ i. cc)
part_starts Loose b more sort e c p = (b, more, refl, refl, ap ends_argument e ∙ p)

dollar_starts : (inside : Inside) (more : List ℕ) (next : Sort) → first_sort more ≡ next
    → StartIs (opened_start next start.Property) inside (36 ∷ more)
dollar_starts inside more Open e = let p = first_open more e in (p.0, ap (λ t. 36 ∷ t) p.1)
dollar_starts inside more _ e =
    unfollowed inside 36 more (λ i. refl) (λ i. refl) refl (λ h. let k = sym e ∙ h in cc)

percent_at : (inside : Inside) (more : List ℕ) (next : Sort) → (inside ≡ Loose → ⊥)
    → first_sort more ≡ next
    → StartIs (opened_start next (metadata_start inside)) inside (37 ∷ more)
percent_at Whole more Open n e = let p = first_open more e in (p.0, ap (λ t. 37 ∷ t) p.1, tt)
percent_at Transform more Open n e = let p = first_open more e in (p.0, ap (λ t. 37 ∷ t) p.1, tt)
percent_at Quoted more Open n e = (37, more, refl, opens-other 37 36 more refl, refl)
percent_at Loose more Open n e = absurd (n refl)
percent_at inside more _ n e =
    unfollowed inside 37 more (λ i. absurd (n i)) (λ i. refl) refl (λ h. let k = sym e ∙ h in cc)

percent_starts : (inside : Inside) (more : List ℕ)
    → StartIs (bad_if_loose inside (opened_start (first_sort more) (metadata_start inside))) inside
    (37 ∷ more)
percent_starts Whole more = percent_at Whole more (first_sort more) (λ i. cc) refl
percent_starts Transform more = percent_at Transform more (first_sort more) (λ i. cc) refl
percent_starts Quoted more = percent_at Quoted more (first_sort more) (λ i. cc) refl
percent_starts Loose more = (37, more, refl, refl, refl)

at_at : (inside : Inside) (more : List ℕ) (next : Sort) → (inside ≡ Loose → ⊥)
    → first_sort more ≡ next → StartIs (opened_start next (items_start inside)) inside (64 ∷ more)
at_at Whole more Open n e = let p = first_open more e in (p.0, ap (λ t. 64 ∷ t) p.1, tt)
at_at Transform more Open n e = let p = first_open more e in (p.0, ap (λ t. 64 ∷ t) p.1, tt)
at_at Quoted more Open n e = (64, more, refl, opens-other 64 36 more refl, refl)
at_at Loose more Open n e = absurd (n refl)
at_at inside more _ n e =
    unfollowed inside 64 more (λ i. absurd (n i)) (λ i. refl) refl (λ h. let k = sym e ∙ h in cc)

at_starts : (inside : Inside) (more : List ℕ)
    → StartIs (bad_if_loose inside (opened_start (first_sort more) (items_start inside))) inside
    (64 ∷ more)
at_starts Whole more = at_at Whole more (first_sort more) (λ i. cc) refl
at_starts Transform more = at_at Transform more (first_sort more) (λ i. cc) refl
at_starts Quoted more = at_at Quoted more (first_sort more) (λ i. cc) refl
at_starts Loose more = (64, more, refl, refl, refl)

quote_starts : (inside : Inside) (more : List ℕ) → StartIs (quote_start inside) inside (39 ∷ more)
quote_starts Whole more = (
  39,
  more,
  refl,
  begins-ordinary Whole 39 more
      (record { no_dollar = refl; no_percent = refl; no_at = refl }) (λ i. cc),
  refl,
)
quote_starts Transform more = (more, refl, tt)
quote_starts Quoted more = (more, refl, tt)
quote_starts Loose more = (39, more, refl, refl, refl)

by_sort : (inside : Inside) (b : ℕ) (more : List ℕ) (sort : Sort) → sort_of b ≡ sort → SortIs sort b
    → StartIs (start_by inside sort (first_sort more)) inside (b ∷ more)
by_sort inside b more End e f = absurd f
by_sort inside b more Dollar e f = subst
    (λ c. StartIs (opened_start (first_sort more) start.Property) inside (c ∷ more)) (sym f)
    (dollar_starts inside more (first_sort more) refl)
by_sort inside b more Percent e f =
    subst (λ c. StartIs
    (bad_if_loose inside (opened_start (first_sort more) (metadata_start inside))) inside
    (c ∷ more)) (sym f) (percent_starts inside more)
by_sort inside b more At e f =
    subst (λ c. StartIs (bad_if_loose inside (opened_start (first_sort more) (items_start inside)))
    inside (c ∷ more)) (sym f) (at_starts inside more)
by_sort inside b more Quote e f = subst (λ c. StartIs (quote_start inside) inside (c ∷ more))
    (sym f) (quote_starts inside more)
by_sort inside b more Open e f =
    subst (λ c. StartIs (bad_if_loose inside start.Plain) inside (c ∷ more)) (sym f)
    (open_starts inside more)
by_sort inside b more Letter e f = common_at inside b more Letter e refl (λ i. refl)
by_sort inside b more Digit e f = common_at inside b more Digit e refl (λ i. refl)
by_sort inside b more Dash e f = common_at inside b more Dash e refl (λ i. refl)
by_sort inside b more Space e f = common_at inside b more Space e refl (λ i. refl)
by_sort inside b more Close e f = part_starts inside b more Close e refl refl
by_sort inside b more Comma e f = part_starts inside b more Comma e refl refl
by_sort inside b more Dot e f = common_at inside b more Dot e refl (λ i. refl)
by_sort inside b more Greater e f = common_at inside b more Greater e refl (λ i. refl)
by_sort inside b more Bracket e f = common_at inside b more Bracket e refl (λ i. refl)
by_sort inside b more Other e f = common_at inside b more Other e refl (λ i. refl)

pub starts_at : (inside : Inside) (bs : List ℕ) → StartIs (start_of inside bs) inside bs
starts_at inside [] = refl
starts_at inside (b ∷ bs) = by_sort inside b bs (sort_of b) refl (sort_is b)
