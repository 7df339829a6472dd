-- One turn of a search for a fit.
use Rattle.std.proofs.Common.{
  ◌≡◌,
  ℕ,
  ◌+◌,
  ◌-◌,
  ◌*◌,
  ◌<◌,
  ◌≤◌,
  zero,
  suc,
  Bool,
  true,
  false,
  ◌||◌,
  ◌&&◌,
  List,
  [],
  ◌∷◌,
  ◌++◌,
  length,
  drop,
  refl,
  sym,
  ap,
  ◌∙◌,
  arith,
  subst,
  append_assoc,
  length-append,
  length-drop,
  map,
  get_or,
}
use Rattle.std.specs.List.{list_all}
use Rattle.std.proofs.lemmas.Bool.{and_parts, and_from, and_right, false≢true}
use Rattle.std.proofs.lemmas.List.{drop-drop, drop-map, drop_more, drop_all, length-map}
use Rattle.std.proofs.lemmas.List.Folds.{list_all-append}
use Rattle.std.proofs.Math.Nat.{mul-le-mul_left}
use Rattle.msb_glob.specs.Tokens.{Token, gap, one, some_tail, fits, passes}
use Rattle.msb_glob.specs.Search.{is_gap, is_one, later_tail, fits_again, Searching, effort}

or_nothing : (b : Bool) → (b || false) ≡ b
or_nothing true = refl
or_nothing false = refl

or_true : (a b : Bool) → b ≡ true → (a || b) ≡ true
or_true true b is = refl
or_true false b is = is

or_false : (a b : Bool) → a ≡ false → b ≡ false → (a || b) ≡ false
or_false true b first second = first
or_false false b first second = second

or_cases : {P : Type 0} (a b : Bool) → (a || b) ≡ true → (a ≡ true → P) → (b ≡ true → P) → P
or_cases true b is first second = first refl
or_cases false b is first second = second is

or_absorbs : (a b : Bool) → (b ≡ true → a ≡ true) → (a || b) ≡ a
or_absorbs true b follows = refl
or_absorbs false true follows = sym (follows refl)
or_absorbs false false follows = refl

module _ {X : Type 0} where
  -- a test that holds of some tail
  tails : (holds : List X → Bool) (xs : List X)
      → some_tail holds xs ≡ (holds xs || later_tail holds xs)
  tails holds [] = sym (or_nothing (holds []))
  tails holds (x ∷ xs) = refl

  shorter : (holds : List X → Bool) (n : ℕ) (xs : List X) → some_tail holds (drop (suc n) xs) ≡ true
      → some_tail holds (drop n xs) ≡ true
  shorter holds zero [] is = is
  shorter holds (suc n) [] is = is
  shorter holds zero (x ∷ xs) is = or_true (holds (x ∷ xs)) (some_tail holds xs) is
  shorter holds (suc n) (x ∷ xs) is = shorter holds n xs is

  -- what tokens of one entry each have taken, a gap behind them can have too
  after_ones : (ones tokens : List (Token X)) (xs : List X) → list_all is_one ones ≡ true
      → fits (ones ++ gap ∷ tokens) xs ≡ true
      → some_tail (fits tokens) (drop (length ones) xs) ≡ true
  after_ones [] tokens xs all is = is
  after_ones (gap ∷ ones) tokens xs all is = absurd (false≢true all)
  after_ones (one test ∷ ones) tokens [] all is = absurd (false≢true is)
  after_ones (one test ∷ ones) tokens (x ∷ xs) all is = after_ones ones tokens xs all
      (and_parts (test x) (fits (ones ++ gap ∷ tokens) xs) is).1

  absorbs : (ones tokens : List (Token X)) (xs : List X) → list_all is_one ones ≡ true
      → some_tail (fits (ones ++ gap ∷ tokens)) xs ≡ true
      → some_tail (fits tokens) (drop (length ones) xs) ≡ true
  absorbs ones tokens [] all is = after_ones ones tokens [] all is
  absorbs ones tokens (x ∷ xs) all is =
      or_cases (fits (ones ++ gap ∷ tokens) (x ∷ xs)) (some_tail (fits (ones ++ gap ∷ tokens)) xs)
      is (after_ones ones tokens (x ∷ xs) all)
      (λ later. shorter (fits tokens) (length ones) (x ∷ xs) (absorbs ones tokens xs all later))

  absorbs_later : (ones tokens : List (Token X)) (xs : List X) → list_all is_one ones ≡ true
      → later_tail (fits (ones ++ gap ∷ tokens)) xs ≡ true
      → some_tail (fits tokens) (drop (length ones) xs) ≡ true
  absorbs_later ones tokens [] all is = absurd (false≢true is)
  absorbs_later ones tokens (x ∷ xs) all is = shorter (fits tokens) (length ones) (x ∷ xs)
      (absorbs ones tokens xs all is)

  -- a list that is too short for its tokens
  too_short : (ones tokens : List (Token X)) (xs : List X) → list_all is_one ones ≡ true
      → length xs < length ones → fits (ones ++ tokens) xs ≡ false
  too_short [] tokens xs all short = absurd (omega arith)
  too_short (gap ∷ ones) tokens xs all short = absurd (false≢true all)
  too_short (one test ∷ ones) tokens [] all short = refl
  too_short (one test ∷ ones) tokens (x ∷ xs) all short = and_right (test x) _
      (too_short ones tokens xs all (omega arith))

  no_tail : (ones tokens : List (Token X)) (xs : List X) → list_all is_one ones ≡ true
      → length xs < length ones → some_tail (fits (ones ++ tokens)) xs ≡ false
  no_tail ones tokens [] all short = too_short ones tokens [] all short
  no_tail ones tokens (x ∷ xs) all short = or_false _ _ (too_short ones tokens (x ∷ xs) all short)
      (no_tail ones tokens xs all (omega arith))

  no_later_tail : (ones tokens : List (Token X)) (xs : List X) → list_all is_one ones ≡ true
      → length xs ≤ length ones → later_tail (fits (ones ++ tokens)) xs ≡ false
  no_later_tail ones tokens [] all short = refl
  no_later_tail ones tokens (x ∷ xs) all short = no_tail ones tokens xs all (omega arith)

  fits-nil : (tokens : List (Token X)) → fits tokens [] ≡ list_all is_gap tokens
  fits-nil [] = refl
  fits-nil (gap ∷ tokens) = fits-nil tokens
  fits-nil (one test ∷ tokens) = refl

  -- the search begins
  pub searching_from_start : (tokens : List (Token X)) (entries : List X)
      → Searching tokens entries 0 entries 0 entries
  searching_from_start tokens entries = record {
    in_range = omega arith;
    behind_star = omega arith;
    since = [];
    since_is = refl;
    since_ones = refl;
    rest_is = refl;
    whole = sym (or_nothing (fits tokens entries));
  }

  -- the search meets a gap, and forgets the one before it
  again_within : (tokens since : List (Token X)) (at : ℕ) (rest : List X) (star : ℕ) (from : List X)
      → drop star tokens ≡ since ++ gap ∷ drop (suc at) tokens
      → list_all is_one since ≡ true → rest ≡ drop (length since) from
      → fits_again tokens star from ≡ true → some_tail (fits (drop (suc at) tokens)) rest ≡ true
  again_within tokens since at rest zero from since_is ones rest_is again = absurd
      (false≢true again)
  again_within tokens since at rest (suc n) from since_is ones rest_is again =
      ap (some_tail (fits (drop (suc at) tokens))) rest_is
      ∙ absorbs_later since (drop (suc at) tokens) from ones
      (ap (λ ts. later_tail (fits ts) from) (sym since_is) ∙ again)

  pub searching_past_gap : (tokens : List (Token X)) (entries : List X) (at next : ℕ)
      (rest : List X) (star : ℕ) (from : List X) → next ≡ suc at → at < length tokens
      → drop at tokens ≡ gap ∷ drop (suc at) tokens → Searching tokens entries at rest star from
      → Searching tokens entries next rest next rest
  searching_past_gap tokens entries at next rest star from is within here s =
      let behind = drop (suc at) tokens in
      let P : ℕ → Type 0 = λ n. Searching tokens entries n rest n rest in
      subst P (sym is) (record {
        in_range = omega arith;
        behind_star = omega arith;
        since = [];
        since_is = refl;
        since_ones = refl;
        rest_is = refl;
        whole =
            s.whole ∙ ap (λ ts. fits ts rest || fits_again tokens star from) here
            ∙ or_absorbs (some_tail (fits behind) rest) (fits_again tokens star from)
            (again_within tokens s.since at rest star from
            (s.since_is ∙ ap (λ ts. s.since ++ ts) here) s.since_ones s.rest_is)
            ∙ tails (fits behind) rest;
      })

  -- a token takes its one entry
  searching_past_one : (tokens : List (Token X)) (entries : List X) (at next : ℕ) (rest : List X)
      (star : ℕ) (from : List X) (test : X → Bool) (x : X) (behind : List X)
      → next ≡ suc at → at < length tokens → drop at tokens ≡ one test ∷ drop (suc at) tokens
      → rest ≡ x ∷ behind → test x ≡ true
      → Searching tokens entries at rest star from → Searching tokens entries next behind star from
  searching_past_one tokens entries at next rest star from test x behind is within here first taken
      s =
      let P : ℕ → Type 0 = λ n. Searching tokens entries n behind star from in
      subst P (sym is) (record {
        in_range = omega arith;
        behind_star = omega (arith, s.behind_star);
        since = s.since ++ one test ∷ [];
        since_is = s.since_is ∙ ap (λ ts. s.since ++ ts) here
            ∙ sym (append_assoc s.since (one test ∷ []) (drop (suc at) tokens));
        since_ones = list_all-append is_one s.since (one test ∷ [])
            ∙ and_from _ _ s.since_ones refl;
        rest_is = ap (drop 1) (sym first ∙ s.rest_is) ∙ drop-drop 1 (length s.since) from
            ∙ ap (λ n. drop n from) (sym (length-append s.since (one test ∷ [])));
        whole =
            s.whole ∙ ap (λ ts. fits ts rest || fits_again tokens star from) here
            ∙ ap (λ xs. fits (one test ∷ drop (suc at) tokens) xs
            || fits_again tokens star from) first
            ∙ ap (λ b. (b && fits (drop (suc at) tokens) behind) || fits_again tokens star from)
            taken;
      })

  -- nothing can take the entry, so the last gap takes one more
  pub searching_back : (tokens : List (Token X)) (entries : List X) (at : ℕ) (rest : List X)
      (star : ℕ) (from : List X) (y : X) (behind : List X)
      → 0 < star → fits (drop at tokens) rest ≡ false → from ≡ y ∷ behind
      → Searching tokens entries at rest star from
      → Searching tokens entries star behind star behind
  searching_back tokens entries at rest zero from y behind some fails first s = absurd (omega arith)
  searching_back tokens entries at rest (suc n) from y behind some fails first s = record {
    in_range = omega (arith, s.in_range, s.behind_star);
    behind_star = omega arith;
    since = [];
    since_is = refl;
    since_ones = refl;
    rest_is = refl;
    whole =
        s.whole ∙ ap (λ b. b || later_tail (fits (drop (suc n) tokens)) from) fails
        ∙ ap (later_tail (fits (drop (suc n) tokens))) first
        ∙ tails (fits (drop (suc n) tokens)) behind;
  }

  pub stuck : (tokens : List (Token X)) (entries : List X) (at : ℕ) (rest : List X) (star : ℕ)
      (from : List X) → star ≡ 0 → fits (drop at tokens) rest ≡ false
      → Searching tokens entries at rest star from → fits tokens entries ≡ false
  stuck tokens entries at rest zero from none fails s = s.whole ∙ or_false _ false fails refl
  stuck tokens entries at rest (suc n) from none fails s = absurd (omega arith)

  -- nothing is left of the list
  pub searching_ends : (tokens : List (Token X)) (entries : List X) (at : ℕ) (rest : List X)
      (star : ℕ) (from : List X) → rest ≡ []
      → Searching tokens entries at rest star from
      → fits tokens entries ≡ list_all is_gap (drop at tokens)
  searching_ends tokens entries at rest zero from none s =
      s.whole ∙ or_nothing (fits (drop at tokens) rest) ∙ ap (fits (drop at tokens)) none
      ∙ fits-nil (drop at tokens)
  searching_ends tokens entries at rest (suc n) from none s =
      let short : length from ≤ length s.since = omega
      (arith, length-drop (length s.since) from, ap length (sym none ∙ s.rest_is)) in
      let again : fits_again tokens (suc n) from ≡ false =
      ap (λ ts. later_tail (fits ts) from) s.since_is
      ∙ no_later_tail s.since (drop at tokens) from s.since_ones short in
      s.whole ∙ ap (λ b. fits (drop at tokens) rest || b) again
      ∙ or_nothing (fits (drop at tokens) rest) ∙ ap (fits (drop at tokens)) none
      ∙ fits-nil (drop at tokens)

-- The tokens that a list of items stands for, as a matcher reads them.
gap_is : {X : Type 0} (token : Token X) → is_gap token ≡ true → token ≡ gap
gap_is gap is = refl
gap_is (one test) is = absurd (false≢true is)

fails_at : {X : Type 0} (token : Token X) (tokens : List (Token X)) (x : X) (xs : List X)
    → is_gap token ≡ false → passes token x ≡ false → fits (token ∷ tokens) (x ∷ xs) ≡ false
fails_at gap tokens x xs no_gap no_pass = absurd (false≢true (sym no_gap))
fails_at (one test) tokens x xs no_gap no_pass = ap (λ b. b && fits tokens xs) no_pass

less_at_most : (a b w p q : ℕ) → a ≤ b → p < q → a * w + p < b * w + q
less_at_most a b w p q most less = omega (arith, mul-le-mul_left w most)

less_by_one : (a b w p q : ℕ) → b ≡ suc a → p < w → a * w + p < b * w + q
less_by_one a b w p q is less = let most : suc a
    ≤ b = omega arith in omega (arith, mul-le-mul_left w most)

module _ {A X : Type 0} (token : A → Token X) where
  tokens_at : (items : List A) (at : ℕ) (d : A) → at < length items
      → drop at (map token items) ≡ token (get_or items at d) ∷ drop (suc at) (map token items)
  tokens_at items at d within =
      let next : at + 1 ≡ suc at = omega arith in
      drop-map token at items ∙ ap (map token) (drop_more items at d within)
      ∙ ap (λ ts. token (get_or items at d) ∷ ts)
      (sym (drop-map token (at + 1) items) ∙ ap (λ n. drop n (map token items)) next)

  from_is_longer : (items : List A) (entries : List X) (at : ℕ) (rest : List X) (star : ℕ)
      (from : List X) → Searching (map token items) entries at rest star from
      → length rest ≤ length from
  from_is_longer items entries at rest star from s = omega
      (arith, ap length s.rest_is, length-drop (length s.since) from)

  pub turn_at_gap : (items : List A) (entries : List X) (at : ℕ) (d : A) (rest : List X) (star : ℕ)
      (from : List X)
      → at < length items → is_gap (token (get_or items at d)) ≡ true
      → Searching (map token items) entries at rest star from
      → Searching (map token items) entries (at + 1) rest (at + 1) rest
      × (effort (map token items) (at + 1) rest < effort (map token items) at from)
  turn_at_gap items entries at d rest star from within is s =
      let long = length-map items token in (
        searching_past_gap (map token items) entries at (at + 1) rest star from (omega arith)
            (omega (arith, long))
            (tokens_at items at d within ∙ ap (λ t. t ∷ drop (suc at) (map token items))
            (gap_is (token (get_or items at d)) is)) s,
        less_at_most (length rest) (length from) _ _ _
            (from_is_longer items entries at rest star from s) (omega (arith, long)),
      )

  pub turn_at_one : (items : List A) (entries : List X) (at : ℕ) (d : A) (rest : List X) (star : ℕ)
      (from : List X) (x : X) (behind : List X)
      → at < length items → passes (token (get_or items at d)) x ≡ true → rest ≡ x ∷ behind
      → Searching (map token items) entries at rest star from
      → Searching (map token items) entries (at + 1) behind star from
      × (effort (map token items) (at + 1) from < effort (map token items) at from)
  turn_at_one items entries at d rest star from x behind within pass first s =
      let long = length-map items token in (
        past (token (get_or items at d)) pass (tokens_at items at d within) (omega (arith, long)),
        less_at_most (length from) (length from) _ _ _ (omega arith) (omega (arith, long)),
      )
    where
      past : (t : Token X) → passes t x ≡ true
          → drop at (map token items) ≡ t ∷ drop (suc at) (map token items)
          → at < length (map token items)
          → Searching (map token items) entries (at + 1) behind star from
      past gap pass here within = absurd (false≢true pass)
      past (one test) pass here within = searching_past_one (map token items) entries at (at + 1)
          rest star from test x behind (omega arith) within here first pass s

  pub turn_fails_at : (items : List A) (at : ℕ) (d : A) (x : X) (behind rest : List X)
      → at < length items
      → is_gap (token (get_or items at d)) ≡ false → passes (token (get_or items at d)) x ≡ false
      → rest ≡ x ∷ behind → fits (drop at (map token items)) rest ≡ false
  turn_fails_at items at d x behind rest within no_gap no_pass first =
      ap (λ ts. fits ts rest) (tokens_at items at d within)
      ∙ ap (fits (token (get_or items at d) ∷ drop (suc at) (map token items))) first
      ∙ fails_at (token (get_or items at d)) (drop (suc at) (map token items)) x behind no_gap
      no_pass

  pub turn_fails_past : (items : List A) (at : ℕ) (x : X) (behind rest : List X) → length items ≤ at
      → rest ≡ x ∷ behind → fits (drop at (map token items)) rest ≡ false
  turn_fails_past items at x behind rest past first =
      ap (λ ts. fits ts rest)
      (drop_all at (map token items) (omega (arith, length-map items token)))
      ∙ ap (fits []) first

  pub turn_back : (items : List A) (entries : List X) (at : ℕ) (rest : List X) (star : ℕ)
      (from : List X) (y : X) (behind : List X)
      → 0 < star → fits (drop at (map token items)) rest ≡ false → from ≡ y ∷ behind
      → Searching (map token items) entries at rest star from
      → Searching (map token items) entries star behind star behind
      × (effort (map token items) star behind < effort (map token items) at from)
  turn_back items entries at rest star from y behind some fails first s = (
    searching_back (map token items) entries at rest star from y behind some fails first s,
    less_by_one (length behind) (length from) (length (map token items) + 1)
        (length (map token items) - star) (length (map token items) - at) (ap length first)
        (omega arith),
  )

  pub never_short : (items : List A) (entries : List X) (at : ℕ) (rest : List X) (star : ℕ)
      (from : List X) (x : X) (behind : List X)
      → rest ≡ x ∷ behind → from ≡ [] → Searching (map token items) entries at rest star from → ⊥
  never_short items entries at rest star from x behind first none s =
      omega
      (arith, from_is_longer items entries at rest star from s, ap length first, ap length none)
