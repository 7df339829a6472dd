-- Plain text, byte by byte.
use Rattle.std.proofs.Common.{
  ◌≡◌,
  ℕ,
  Bool,
  true,
  false,
  eqb,
  List,
  [],
  ◌∷◌,
  ◌++◌,
  refl,
  sym,
  ap,
  ◌∙◌,
  subst,
  append_assoc,
}
use Rattle.std.specs.Prelude.{◌==◌, ◌&&◌, ◌||◌}
use Rattle.std.proofs.lemmas.List.{append-nil}
use Rattle.std.proofs.lemmas.Bool.{false≢true}
use Rattle.msb_expression.specs.declared.starts.Inside.{Inside}
use Rattle.msb_expression.specs.declared.starts.Inside.TheVariants.{Whole, Transform, Quoted, Loose}
use Rattle.msb_expression.specs.declared.sorts.Sort.{Sort}
use Rattle.msb_expression.specs.declared.sorts.Sort.TheVariants.{Quote, Open, Dollar, Percent, At}
use Rattle.msb_expression.specs.Grammar.{
  opens,
  begins_reference,
  is_quotable,
  is_end_quote,
  IsPlain,
}
use Rattle.msb_expression.specs.Machine.{
  ends_argument,
  sort_of,
  Place,
  in_transform,
  in_separator,
  in_argument,
  in_call,
  in_loose,
  place_inside,
  Mode,
  go,
  unless_loose,
  Mark,
  unmarked,
  dollar,
  percent,
  at_sign,
  spelled,
  settled,
}
use Rattle.msb_expression.proofs.Bytes.{other_byte}
use Rattle.msb_expression.proofs.Behind.{IsPlainSoFar, Marks}

-- the byte is neither a mark nor the quote
pub record IsOrdinary (b : ℕ) : Type 0 where
  pub no_dollar : (b == 36) ≡ false
  pub no_percent : (b == 37) ≡ false
  pub no_at : (b == 64) ≡ false

-- the byte may stand in an argument without quotes, if that is where it stands
abbrev pub FitsLoose : Inside → ℕ → Type 0
FitsLoose inside b = inside ≡ Loose → is_quotable b ≡ false

-- and it ends none
abbrev pub EndsNone : Inside → ℕ → Type 0
EndsNone inside b = inside ≡ Loose → is_end_quote Loose b ≡ false

-- where `%(` and `@(` are no plain text and no bad bytes
abbrev pub ReadsMetadata : Inside → Type 0
ReadsMetadata Whole = Unit {0}
ReadsMetadata Transform = Unit {0}
ReadsMetadata Quoted = ⊥
ReadsMetadata Loose = ⊥

pub reads_not_loose : (inside : Inside) → ReadsMetadata inside → inside ≡ Loose → ⊥
reads_not_loose Whole r e = cc
reads_not_loose Transform r e = cc
reads_not_loose Quoted r e = r
reads_not_loose Loose r e = r

pub never_whole : (place : Place) → place_inside place ≡ Whole → ⊥
never_whole (in_transform heads) e = cc
never_whole (in_separator heads) e = cc
never_whole (in_argument heads function args) e = cc
never_whole (in_call a) e = cc
never_whole (in_loose a) e = cc

pub unless-go : (inside : Inside) (mode : Mode) → (inside ≡ Loose → ⊥)
    → unless_loose inside mode ≡ go mode
unless-go Whole mode n = refl
unless-go Transform mode n = refl
unless-go Quoted mode n = refl
unless-go Loose mode n = absurd (n refl)

-- neither a mark nor a quote nor a `(`
abbrev pub is_common : Sort → Bool
is_common Dollar = false
is_common Percent = false
is_common At = false
is_common Quote = false
is_common Open = false
is_common _ = true

pub uncommon : (b k : ℕ) (sort : Sort) → sort_of b ≡ sort → is_common sort ≡ true
    → is_common (sort_of k) ≡ false → eqb b k ≡ false
uncommon b k sort e c d = other_byte b k (λ h. false≢true (sym d ∙ ap is_common (sym h ∙ e) ∙ c))

pub no_part : (b k : ℕ) (sort : Sort) → sort_of b ≡ sort → ends_argument sort ≡ false
    → ends_argument (sort_of k) ≡ true → eqb b k ≡ false
no_part b k sort e c d = other_byte b k (λ h. false≢true (sym c ∙ ap ends_argument (sym e ∙ h) ∙ d))

pub common_ordinary : (b : ℕ) (sort : Sort) → sort_of b ≡ sort → is_common sort ≡ true
    → IsOrdinary b
common_ordinary b sort e c = record {
  no_dollar = uncommon b 36 sort e c refl;
  no_percent = uncommon b 37 sort e c refl;
  no_at = uncommon b 64 sort e c refl;
}

pub common_fits : (inside : Inside) (b : ℕ) (sort : Sort) → sort_of b ≡ sort → is_common sort ≡ true
    → FitsLoose inside b
common_fits inside b sort e c = λ i.
    rw (
      uncommon b 39 sort e c refl,
      uncommon b 40 sort e c refl,
      uncommon b 64 sort e c refl,
      uncommon b 37 sort e c refl,
    ) refl

pub common_ends_none : (inside : Inside) (b : ℕ) (sort : Sort) → sort_of b ≡ sort
    → (inside ≡ Loose → ends_argument sort ≡ false) → EndsNone inside b
common_ends_none inside b sort e p =
    λ i. rw (no_part b 44 sort e (p i) refl, no_part b 41 sort e (p i) refl) refl

pub opens-other : (b k : ℕ) (more : List ℕ) → (b == k) ≡ false → opens k (b ∷ more) ≡ false
opens-other b k [] e = refl
opens-other b k (c ∷ more) e = ap (λ t. t && (c == 40)) e

pub begins-ordinary : (inside : Inside) (b : ℕ) (more : List ℕ) → IsOrdinary b → FitsLoose inside b
    → begins_reference inside (b ∷ more) ≡ false
begins-ordinary Whole b more o l =
    rw (
      opens-other b 36 more o.no_dollar,
      opens-other b 37 more o.no_percent,
      opens-other b 64 more o.no_at,
    ) refl
begins-ordinary Transform b more o l =
    rw (
      opens-other b 36 more o.no_dollar,
      opens-other b 37 more o.no_percent,
      opens-other b 64 more o.no_at,
    ) refl
begins-ordinary Quoted b more o l = opens-other b 36 more o.no_dollar
begins-ordinary Loose b more o l = rw (opens-other b 36 more o.no_dollar, l refl) refl

pub no_end_quote : (inside : Inside) (b : ℕ) → (b == 39) ≡ false → EndsNone inside b
    → is_end_quote inside b ≡ false
no_end_quote Whole b e l = refl
no_end_quote Transform b e l = e
no_end_quote Quoted b e l = e
no_end_quote Loose b e l = l refl

pub IsPlain-ordinary : (inside : Inside) (b : ℕ) (more : List ℕ) → IsOrdinary b → FitsLoose inside b
    → is_end_quote inside b ≡ false → IsPlain inside more → IsPlain inside (b ∷ more)
IsPlain-ordinary inside b more o l q h = (begins-ordinary inside b more o l, q, h)

pub opens-unopened : (b c k : ℕ) (more : List ℕ) → (c == 40) ≡ false
    → opens k (b ∷ c ∷ more) ≡ false
opens-unopened b c k more e = go (b == k)
  where
    go : (t : Bool) → (t && (c == 40)) ≡ false
    go true = e
    go false = refl

begins-unopened : (inside : Inside) (b c : ℕ) (more : List ℕ) → FitsLoose inside b
    → (c == 40) ≡ false
    → begins_reference inside (b ∷ c ∷ more) ≡ false
begins-unopened Whole b c more l e =
    rw (opens-unopened b c 36 more e, opens-unopened b c 37 more e, opens-unopened b c 64 more e)
    refl
begins-unopened Transform b c more l e =
    rw (opens-unopened b c 36 more e, opens-unopened b c 37 more e, opens-unopened b c 64 more e)
    refl
begins-unopened Quoted b c more l e = opens-unopened b c 36 more e
begins-unopened Loose b c more l e = rw (opens-unopened b c 36 more e, l refl) refl

-- behind a mark stands what is no `(`
pub IsPlain-marked : (inside : Inside) (mark : Mark) (c : ℕ) (more : List ℕ) → Marks mark inside
    → (c == 40) ≡ false → IsPlain inside (c ∷ more) → IsPlain inside (spelled mark ++ c ∷ more)
IsPlain-marked inside unmarked c more m e h = h
IsPlain-marked inside dollar c more m e h =
    (begins-unopened inside 36 c more (λ i. refl) e, no_end_quote inside 36 refl (λ i. refl), h)
IsPlain-marked inside percent c more m e h = (
  begins-unopened inside 37 c more (λ i. absurd (m i)) e,
  no_end_quote inside 37 refl (λ i. refl),
  h,
)
IsPlain-marked inside at_sign c more m e h = (
  begins-unopened inside 64 c more (λ i. absurd (m i)) e,
  no_end_quote inside 64 refl (λ i. refl),
  h,
)

begins-alone : (inside : Inside) (b : ℕ) → FitsLoose inside b
    → begins_reference inside (b ∷ []) ≡ false
begins-alone Whole b l = refl
begins-alone Transform b l = refl
begins-alone Quoted b l = refl
begins-alone Loose b l = l refl

IsPlain-mark : (inside : Inside) (mark : Mark) → Marks mark inside
    → IsPlain inside (spelled mark ++ [])
IsPlain-mark inside unmarked m = tt
IsPlain-mark inside dollar m =
    (begins-alone inside 36 (λ i. refl), no_end_quote inside 36 refl (λ i. refl), tt)
IsPlain-mark inside percent m =
    (begins-alone inside 37 (λ i. absurd (m i)), no_end_quote inside 37 refl (λ i. refl), tt)
IsPlain-mark inside at_sign m =
    (begins-alone inside 64 (λ i. absurd (m i)), no_end_quote inside 64 refl (λ i. refl), tt)

opens-front : (k b : ℕ) (xs ys : List ℕ) → opens k (b ∷ (xs ++ ys)) ≡ false
    → opens k (b ∷ xs) ≡ false
opens-front k b [] ys e = refl
opens-front k b (x ∷ xs) ys e = e

pub or_left : (a b : Bool) → (a || b) ≡ false → a ≡ false
or_left true b e = e
or_left false b e = refl

pub or_right : (a b : Bool) → (a || b) ≡ false → b ≡ false
or_right true b e = cc
or_right false b e = e

none_front : (b : ℕ) (xs ys : List ℕ)
    → (opens 36 (b ∷ (xs ++ ys)) || (opens 37 (b ∷ (xs ++ ys)) || opens 64 (b ∷ (xs ++ ys))))
    ≡ false → (opens 36 (b ∷ xs) || (opens 37 (b ∷ xs) || opens 64 (b ∷ xs))) ≡ false
none_front b xs ys e =
    let o36 : Bool = opens 36 (b ∷ (xs ++ ys)) in
    let o37 : Bool = opens 37 (b ∷ (xs ++ ys)) in
    let o64 : Bool = opens 64 (b ∷ (xs ++ ys)) in
    let r : (o37 || o64) ≡ false = or_right o36 (o37 || o64) e in
    let a : opens 36 (b ∷ xs) ≡ false = opens-front 36 b xs ys (or_left o36 (o37 || o64) e) in
    let p : opens 37 (b ∷ xs) ≡ false = opens-front 37 b xs ys (or_left o37 o64 r) in
    let q : opens 64 (b ∷ xs) ≡ false = opens-front 64 b xs ys (or_right o37 o64 r) in
    rw (a, p, q) refl

loose_front : (b : ℕ) (xs ys : List ℕ) → (opens 36 (b ∷ (xs ++ ys)) || is_quotable b) ≡ false
    → (opens 36 (b ∷ xs) || is_quotable b) ≡ false
loose_front b xs ys e =
    let a : opens 36 (b ∷ xs) ≡ false = opens-front 36 b xs ys (or_left _ _ e) in
    let q : is_quotable b ≡ false = or_right (opens 36 (b ∷ (xs ++ ys))) (is_quotable b) e in
    rw (a, q) refl

pub begins-front : (inside : Inside) (b : ℕ) (xs ys : List ℕ)
    → begins_reference inside (b ∷ (xs ++ ys)) ≡ false → begins_reference inside (b ∷ xs) ≡ false
begins-front Whole b xs ys e = none_front b xs ys e
begins-front Transform b xs ys e = none_front b xs ys e
begins-front Quoted b xs ys e = opens-front 36 b xs ys e
begins-front Loose b xs ys e = loose_front b xs ys e

pub IsPlain-front : (inside : Inside) (xs ys : List ℕ) → IsPlain inside (xs ++ ys)
    → IsPlain inside xs
IsPlain-front inside [] ys h = tt
IsPlain-front inside (x ∷ xs) ys h =
    (begins-front inside x xs ys h.0, h.1, IsPlain-front inside xs ys h.2)

-- so far with its mark, and without it
pub IsPlain-settled : (inside : Inside) (plain : List ℕ) (mark : Mark) → Marks mark inside
    → IsPlainSoFar inside plain mark → IsPlain inside (settled plain mark)
IsPlain-settled inside plain mark m h =
    subst (λ t. IsPlain inside (plain ++ t)) (append-nil (spelled mark))
    (h [] (IsPlain-mark inside mark m))

pub IsPlain-unmarked : (inside : Inside) (plain : List ℕ) (mark : Mark) → Marks mark inside
    → IsPlainSoFar inside plain mark → IsPlain inside plain
IsPlain-unmarked inside plain mark m h =
    IsPlain-front inside plain (spelled mark) (IsPlain-settled inside plain mark m h)

-- a mark follows
pub so_far-marked : (inside : Inside) (plain : List ℕ) (mark next : Mark) (c : ℕ)
    → Marks mark inside → spelled next ≡ c ∷ [] → (c == 40) ≡ false → IsPlainSoFar inside plain mark
    → IsPlainSoFar inside (settled plain mark) next
so_far-marked inside plain mark next c m e f h = λ more k.
    let split : spelled next ++ more ≡ c ∷ more = ap (λ t. t ++ more) e in
    subst (λ t. IsPlain inside t) (sym (append_assoc plain (spelled mark) (spelled next ++ more)))
    (subst (λ t. IsPlain inside (plain ++ (spelled mark ++ t))) (sym split)
    (h (c ∷ more) (IsPlain-marked inside mark c more m f (subst (λ t. IsPlain inside t) split k))))

-- an ordinary byte follows
pub so_far-ordinary : (inside : Inside) (plain : List ℕ) (mark : Mark) (b : ℕ) → Marks mark inside
    → IsOrdinary b → FitsLoose inside b → is_end_quote inside b ≡ false → (b == 40) ≡ false
    → IsPlainSoFar inside plain mark → IsPlainSoFar inside (settled plain mark ++ b ∷ []) unmarked
so_far-ordinary inside plain mark b m o l q f h = λ more k.
    subst (λ t. IsPlain inside t)
    (sym (append_assoc (settled plain mark) (b ∷ []) more
    ∙ append_assoc plain (spelled mark) (b ∷ more)))
    (h (b ∷ more) (IsPlain-marked inside mark b more m f (IsPlain-ordinary inside b more o l q k)))

-- a `(` follows
pub so_far-open : (inside : Inside) (plain : List ℕ) → (inside ≡ Loose → ⊥)
    → IsPlainSoFar inside plain unmarked → IsPlainSoFar inside (plain ++ 40 ∷ []) unmarked
so_far-open inside plain l h = λ more k.
    subst (λ t. IsPlain inside t) (sym (append_assoc plain (40 ∷ []) more))
    (h (40 ∷ more) (IsPlain-ordinary inside 40 more
    (record { no_dollar = refl; no_percent = refl; no_at = refl }) (λ i. absurd (l i))
    (no_end_quote inside 40 refl (λ i. refl)) k))

-- a `(` follows a mark that opens nothing there
pub so_far-unopened : (plain : List ℕ) (mark : Mark) (c : ℕ) → spelled mark ≡ c ∷ []
    → (c == 36) ≡ false → (c == 39) ≡ false → IsPlainSoFar Quoted plain mark
    → IsPlainSoFar Quoted (plain ++ c ∷ 40 ∷ []) unmarked
so_far-unopened plain mark c e f q h = λ more k.
    let p : IsPlain Quoted (c ∷ 40 ∷ more) = (
      opens-other c 36 (40 ∷ more) f,
      q,
      IsPlain-ordinary Quoted 40 more
          (record { no_dollar = refl; no_percent = refl; no_at = refl }) (λ i. cc) refl k,
    ) in
    let split : spelled mark ++ 40 ∷ more ≡ c ∷ 40 ∷ more = ap (λ t. t ++ 40 ∷ more) e in
    subst (λ t. IsPlain Quoted t) (ap (λ t. plain ++ t) split
    ∙ sym (append_assoc plain (c ∷ 40 ∷ []) more))
    (h (40 ∷ more) (subst (λ t. IsPlain Quoted t) (sym split) p))
