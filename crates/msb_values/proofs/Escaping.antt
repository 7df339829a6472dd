-- What escaping writes, and how it is read again.
use Rattle.std.proofs.Common.{
  ◌≡◌,
  ◌≢◌,
  ℕ,
  suc,
  ◌<◌,
  ◌≤◌,
  List,
  [],
  ◌∷◌,
  ◌++◌,
  ◌&&◌,
  length,
  get_or,
  Bool,
  true,
  false,
  cond,
  eqb,
  ltb,
  Option,
  Some,
  None,
  MatchOption,
  if◌then◌else◌,
  drop,
  codes,
  refl,
  sym,
  ap,
  subst,
  ◌∙◌,
  arith,
  append_assoc,
  lit<,
  encode_utf8,
}
use Rattle.std.specs.Option.{SomeIff}
use Rattle.std.specs.Char.{digit_value}
use Rattle.std.specs.Str.{encode_utf8_all, IsUtf8, IsCharBoundary}
use Rattle.std.proofs.lemmas.Bool.{eqb-true, ltb-true, ltb-false}
use Rattle.std.proofs.lemmas.Bool.Decides.{nat_tests}
use Rattle.std.proofs.lemmas.Grind.{flat_map-append}
use Rattle.std.proofs.lemmas.List.{append-nil}
use Rattle.std.proofs.lemmas.List.Concat.{flat_map-cons}
use Rattle.std.proofs.lemmas.Str.{
  inside_one,
  encode_ascii,
  encodes-append,
  IsCharBoundary-after_ascii,
}
use Rattle.msb_values.specs.Escapes.{escape_of, escaped, unescaped, is_hex, hex_number, number_at}

-- reading

unescaped-plain : (b : ℕ) (bs : List ℕ) → eqb b 37 ≡ false → unescaped (b ∷ bs) ≡ b ∷ unescaped bs
unescaped-plain b [] e = refl
unescaped-plain b (high ∷ []) e = refl
unescaped-plain b (high ∷ low ∷ rest) e =
    let read : Bool → List ℕ =
    λ t.
    elim (t && is_hex high && is_hex low) [
      | true ↦ encode_utf8 (hex_number high low) ++ unescaped rest
      | false ↦ b ∷ unescaped (high ∷ low ∷ rest)
    ] in
    ap read e

unescaped-hex : (high low : ℕ) (rest : List ℕ) → is_hex high ≡ true → is_hex low ≡ true
    → unescaped (37 ∷ high ∷ low ∷ rest) ≡ encode_utf8 (hex_number high low) ++ unescaped rest
unescaped-hex high low rest high_is low_is =
    let read : Bool → Bool → List ℕ =
    λ s t.
    elim (s && t) [
      | true ↦ encode_utf8 (hex_number high low) ++ unescaped rest
      | false ↦ 37 ∷ unescaped (high ∷ low ∷ rest)
    ] in
    ap (λ s. read s (is_hex low)) high_is ∙ ap (read true) low_is

number_at-reads : (bs : List ℕ)
    → MatchOption (number_at bs) (unescaped (37 ∷ bs) ≡ 37 ∷ unescaped bs)
    (λ n. unescaped (37 ∷ bs) ≡ encode_utf8 n ++ unescaped (drop 2 bs))
number_at-reads [] = refl
number_at-reads (high ∷ []) = refl
number_at-reads (high ∷ low ∷ rest) =
    let read : Bool → List ℕ =
    λ t.
    elim t [
      | true ↦ encode_utf8 (hex_number high low) ++ unescaped rest
      | false ↦ 37 ∷ unescaped (high ∷ low ∷ rest)
    ] in
    elim (is_hex high && is_hex low) as
    (λ t. MatchOption (if t then Some (hex_number high low) else None)
    (read t ≡ 37 ∷ unescaped (high ∷ low ∷ rest))
    (λ n. read t ≡ encode_utf8 n ++ unescaped rest)) [
      | true ↦ refl
      | false ↦ refl
    ]

pub unescaped_number : (bs : List ℕ) (n : ℕ) → number_at bs ≡ Some n
    → unescaped (37 ∷ bs) ≡ encode_utf8 n ++ unescaped (drop 2 bs)
unescaped_number bs n e =
    let P : Option ℕ
    → Type 0 = λ o. MatchOption o (unescaped (37 ∷ bs) ≡ 37 ∷ unescaped bs)
    (λ n. unescaped (37 ∷ bs) ≡ encode_utf8 n ++ unescaped (drop 2 bs)) in
    subst P e (number_at-reads bs)

pub unescaped_percent : (bs : List ℕ) → number_at bs ≡ None
    → unescaped (37 ∷ bs) ≡ 37 ∷ unescaped bs
unescaped_percent bs e =
    let P : Option ℕ
    → Type 0 = λ o. MatchOption o (unescaped (37 ∷ bs) ≡ 37 ∷ unescaped bs)
    (λ n. unescaped (37 ∷ bs) ≡ encode_utf8 n ++ unescaped (drop 2 bs)) in
    subst P e (number_at-reads bs)

eqb-other : (b : ℕ) → b ≢ 37 → eqb b 37 ≡ false
eqb-other b h = grind (arith, nat_tests)

pub unescaped_before : (bs rest : List ℕ) → ((i : ℕ) → i < length bs → get_or bs i 0 ≢ 37)
    → unescaped (bs ++ rest) ≡ bs ++ unescaped rest
unescaped_before [] rest none = refl
unescaped_before (b ∷ bs) rest none =
    unescaped-plain b (bs ++ rest) (eqb-other b (none 0 (omega arith)))
    ∙ ap (λ t. b ∷ t) (unescaped_before bs rest (λ i h. none (suc i) (omega arith)))

pub unescaped_none : (bs : List ℕ) → ((i : ℕ) → i < length bs → get_or bs i 0 ≢ 37)
    → unescaped bs ≡ bs
unescaped_none bs none = ap unescaped (sym (append-nil bs)) ∙ unescaped_before bs [] none
    ∙ append-nil bs

-- digits

is_hex-ascii : (b : ℕ) → is_hex b ≡ true → b < 128
is_hex-ascii b h = grind (arith, nat_tests)

number_at_second : (high low n : ℕ) (rest : List ℕ) (t : Bool) → is_hex low ≡ t → (s : Bool)
    → MatchOption (if s && t then Some n else None) (Unit {0})
    (λ _. (1 < length (high ∷ low ∷ rest)) × (low < 128))
number_at_second high low n rest true e true = (omega arith, is_hex-ascii low e)
number_at_second high low n rest true e false = tt
number_at_second high low n rest false e true = tt
number_at_second high low n rest false e false = tt

number_at-ascii : (bs : List ℕ)
    → MatchOption (number_at bs) (Unit {0}) (λ _. (1 < length bs) × (get_or bs 1 0 < 128))
number_at-ascii [] = tt
number_at-ascii (high ∷ []) = tt
number_at-ascii (high ∷ low ∷ rest) = number_at_second high low (hex_number high low) rest
    (is_hex low) refl (is_hex high)

pub boundary_after_digits : (bs : List ℕ) (n : ℕ) → IsUtf8 bs → number_at bs ≡ Some n
    → IsCharBoundary bs 2
boundary_after_digits bs n u e =
    let P : Option ℕ
    → Type 0 = λ o. MatchOption o (Unit {0}) (λ _. (1 < length bs) × (get_or bs 1 0 < 128)) in
    let second = subst P e (number_at-ascii bs) in
    IsCharBoundary-after_ascii bs 1 u second.0 second.1

is_hex-false : (b : ℕ) → ((digit_value b < 16) → ⊥) → is_hex b ≡ false
is_hex-false b h = grind (arith, nat_tests)

is_hex-true : (b : ℕ) → digit_value b < 16 → is_hex b ≡ true
is_hex-true b h = grind (arith, nat_tests)

pub to_digit-hex : (b : ℕ) (r : Option ℕ) → SomeIff r (digit_value b < 16) (digit_value b)
    → MatchOption r (is_hex b ≡ false) (λ value. (is_hex b ≡ true) × (value ≡ digit_value b)
    × (value < 16))
to_digit-hex b None h = is_hex-false b h
to_digit-hex b (Some value) h = (is_hex-true b h.0, h.1, omega (arith, h.0, h.1))

-- writing

abbrev Reads : ℕ → List ℕ → Type 0
Reads b written = (rest : List ℕ) → unescaped (written ++ rest) ≡ b ∷ unescaped rest

reads_code : (b high low : ℕ) → is_hex high ≡ true → is_hex low ≡ true → hex_number high low ≡ b
    → b < 128 → Reads b (37 ∷ high ∷ low ∷ [])
reads_code b high low high_is low_is e small rest =
    unescaped-hex high low rest high_is low_is
    ∙ ap (λ n. encode_utf8 n ++ unescaped rest) e
    ∙ ap (λ bs. bs ++ unescaped rest) (encode_ascii b small)

chosen : (b k : ℕ) (code rest : List ℕ) → Reads k code → (eqb b k ≡ false → Reads b rest)
    → (t : Bool) → eqb b k ≡ t → Reads b (cond t code rest)
chosen b k code rest code_reads rest_reads true e =
    let P : ℕ → Type 0 = λ n. Reads n code in
    subst P (sym (eqb-true b k e)) code_reads
chosen b k code rest code_reads rest_reads false e = rest_reads e

choose : (b k : ℕ) (code rest : List ℕ) → Reads k code → (eqb b k ≡ false → Reads b rest)
    → Reads b (cond (eqb b k) code rest)
choose b k code rest code_reads rest_reads = chosen b k code rest code_reads rest_reads (eqb b k)
    refl

escape_of-reads : (b : ℕ) → Reads b (escape_of b)
escape_of-reads b =
    choose b 37 (codes "%25") _ (reads_code 37 50 53 refl refl refl (lit< tt)) (λ other.
    choose b 36 (codes "%24") _ (reads_code 36 50 52 refl refl refl (lit< tt)) (λ _.
    choose b 64 (codes "%40") _ (reads_code 64 52 48 refl refl refl (lit< tt)) (λ _.
    choose b 39 (codes "%27") _ (reads_code 39 50 55 refl refl refl (lit< tt)) (λ _.
    choose b 59 (codes "%3B") _ (reads_code 59 51 66 refl refl refl (lit< tt)) (λ _.
    choose b 63 (codes "%3F") _ (reads_code 63 51 70 refl refl refl (lit< tt)) (λ _.
    choose b 42 (codes "%2A") (b ∷ []) (reads_code 42 50 65 refl refl refl (lit< tt))
    (λ _ rest. unescaped-plain b rest other)))))))

pub unescaped-escaped : (bs : List ℕ) → unescaped (escaped bs) ≡ bs
unescaped-escaped [] = refl
unescaped-escaped (b ∷ bs) =
    ap unescaped (flat_map-cons escape_of b bs) ∙ escape_of-reads b (escaped bs)
    ∙ ap (λ t. b ∷ t) (unescaped-escaped bs)

escape_of_wide : (b : ℕ) → 128 ≤ b → escape_of b ≡ b ∷ []
escape_of_wide b h = grind (arith, nat_tests)

escaped_wide : (bs : List ℕ) → ((k : ℕ) → k < length bs → 128 ≤ get_or bs k 0) → escaped bs ≡ bs
escaped_wide [] wide = refl
escaped_wide (b ∷ bs) wide =
    flat_map-cons escape_of b bs
    ∙ ap (λ t. t ++ escaped bs) (escape_of_wide b (wide 0 (omega arith)))
    ∙ ap (λ t. b ∷ t) (escaped_wide bs (λ k h. wide (suc k) (omega arith)))

-- of a character

pub escaped_ascii : (c : ℕ) → c < 128 → escaped (encode_utf8 c) ≡ escape_of c
escaped_ascii c small = ap escaped (encode_ascii c small) ∙ flat_map-cons escape_of c []
    ∙ append-nil (escape_of c)

wide_at : (b c : ℕ) → 128 ≤ c → (b < 128 → c ≡ b) → (t : Bool) → ltb b 128 ≡ t → 128 ≤ b
wide_at b c wide inside true e = omega (arith, wide, inside (ltb-true b 128 e))
wide_at b c wide inside false e = ltb-false b 128 e

-- no byte of a character that isn't ASCII is ASCII
wide_bytes : (c : ℕ) → 128 ≤ c → (k : ℕ) → k < length (encode_utf8 c)
    → 128 ≤ get_or (encode_utf8 c) k 0
wide_bytes c wide k h =
    let b = get_or (encode_utf8 c) k 0 in
    wide_at b c wide (inside_one c [] (encode_utf8 c) k (sym (append-nil (encode_utf8 c))) h)
    (ltb b 128) refl

escaped_same_at : (c : ℕ) → escape_of c ≡ c ∷ [] → (t : Bool) → ltb c 128 ≡ t
    → escaped (encode_utf8 c) ≡ encode_utf8 c
escaped_same_at c e true small =
    let lt = ltb-true c 128 small in
    escaped_ascii c lt ∙ e ∙ sym (encode_ascii c lt)
escaped_same_at c e false wide = escaped_wide (encode_utf8 c) (wide_bytes c (ltb-false c 128 wide))

pub escaped_same : (c : ℕ) → escape_of c ≡ c ∷ [] → escaped (encode_utf8 c) ≡ encode_utf8 c
escaped_same c e = escaped_same_at c e (ltb c 128) refl

pub escaped_more : (cs : List ℕ) (c : ℕ) (out new : List ℕ) → out ≡ escaped (encode_utf8_all cs)
    → new ≡ out ++ escaped (encode_utf8 c) → new ≡ escaped (encode_utf8_all (cs ++ c ∷ []))
escaped_more cs c out new so_far e =
    e
    ∙ ap (λ t. t ++ escaped (encode_utf8 c)) so_far
    ∙ sym (flat_map-append escape_of (encode_utf8_all cs) (encode_utf8 c))
    ∙ ap (λ t. escaped (encode_utf8_all cs ++ t)) (sym (append-nil (encode_utf8 c)))
    ∙ ap escaped (sym (encodes-append cs (c ∷ [])))

-- a turn of the reading

pub read_escape : (plain new after rest : List ℕ) (n : ℕ) → number_at after ≡ Some n
    → rest ≡ drop 2 after → new ≡ plain ++ encode_utf8 n
    → new ++ unescaped rest ≡ plain ++ unescaped (37 ∷ after)
read_escape plain new after rest n number left pushed =
    ap (λ t. t ++ unescaped rest) pushed
    ∙ append_assoc plain (encode_utf8 n) (unescaped rest)
    ∙ ap (λ t. plain ++ (encode_utf8 n ++ unescaped t)) left
    ∙ ap (λ t. plain ++ t) (sym (unescaped_number after n number))

pub read_percent : (plain new rest before after text : List ℕ) → plain ++ unescaped rest ≡ text
    → (rest ≡ before ++ (37 ∷ after)) × ((i : ℕ) → i < length before → get_or before i 0 ≢ 37)
    → new ≡ plain ++ before → new ++ unescaped (37 ∷ after) ≡ text
read_percent plain new rest before after text so_far parts pushed =
    ap (λ t. t ++ unescaped (37 ∷ after)) pushed
    ∙ append_assoc plain before (unescaped (37 ∷ after))
    ∙ ap (λ t. plain ++ t) (sym (unescaped_before before (37 ∷ after) parts.1))
    ∙ ap (λ t. plain ++ unescaped t) (sym parts.0)
    ∙ so_far
