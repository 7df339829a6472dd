-- What `parse` and the checked operations give, as the definitions have it.
use Rattle.std.proofs.Common.{
  ◌≡◌,
  ◌≢◌,
  ℕ,
  ◌<◌,
  ◌≤◌,
  ◌^◌,
  Bool,
  true,
  false,
  ◌&&◌,
  cond,
  List,
  [],
  ◌∷◌,
  length,
  get_or,
  drop,
  ℤ,
  pos,
  negsuc,
  Option,
  Some,
  None,
  Ok,
  Err,
  SomeIff,
  FitsSigned,
  w64,
  leb,
  leb-true,
  lt-ltb,
  le-ltb,
  ap,
  sym,
  ◌∙◌,
  subst,
  refl,
  true≢false,
  arith,
}
use Rattle.std.specs.Char.{is_ascii_digit}
use Rattle.std.specs.List.{list_all}
use Rattle.std.specs.Str.{all_ascii_digits}
use Rattle.std.specs.Str.Parse.{
  IsNumeral,
  digits_value,
  starts_with_minus,
  signed_digits_value,
  without_leading_sign,
  without_leading_plus,
  ParsesSigned,
}
use Rattle.std.proofs.lemmas.Str.Parse.{
  IsNumeralModel,
  numerals_by_value,
  tells_all_ascii_digits,
  not_in_digits,
  without_leading_plus_none,
}
use Rattle.msb_functions.specs.Numbers.{is_numeral, is_number, fits, if_fits, or_overflow, number}
use Rattle.msb_functions.specs.declared.faults.FuncFault.TheVariants.{BadArgument, Overflow}

-- 64 bits hold the number where the test passes
pub fits_from : (z : ℤ) → FitsSigned w64 z → fits z ≡ true
fits_from (pos n) h = lt-ltb n (2 ^ 63) h.sfits
fits_from (negsuc n) h = lt-ltb n (2 ^ 63) h.sfits

not_below : (n m : ℕ) → (n < m → ⊥) → m ≤ n
not_below n m h = omega arith

pub fits_not : (z : ℤ) → (FitsSigned w64 z → ⊥) → fits z ≡ false
fits_not (pos n) h =
    le-ltb n (2 ^ 63) (not_below n (2 ^ 63) (λ below. h (record { sfits = below })))
fits_not (negsuc n) h =
    le-ltb n (2 ^ 63) (not_below n (2 ^ 63) (λ below. h (record { sfits = below })))

pub if_fits_is : (r : Option ℤ) (z : ℤ) → SomeIff r (FitsSigned w64 z) z → r ≡ if_fits z
if_fits_is (Some x) z h = ap Some h.1 ∙ sym (ap (λ b. cond b (Some z) None) (fits_from z h.0))
if_fits_is None z h = sym (ap (λ b. cond b (Some z) None) (fits_not z h))

digits_same : (ds : List ℕ) → list_all is_ascii_digit ds ≡ all_ascii_digits ds
digits_same [] = refl
digits_same (d ∷ ds) = ap (λ b. is_ascii_digit d && b) (digits_same ds)

own : IsNumeralModel (λ ds. all_ascii_digits ds ≡ true) (digits_value 10)
own = numerals_by_value (λ ds. all_ascii_digits ds ≡ true) tells_all_ascii_digits

both : (a b : Bool) → (a && b) ≡ true → (a ≡ true) × (b ≡ true)
both true b h = (refl, h)
both false b h = absurd (true≢false (sym h))

pub numeral : (ds : List ℕ) → is_numeral ds ≡ true → (0 < length ds) × (all_ascii_digits ds ≡ true)
numeral ds h =
    let some = both (leb 1 (length ds)) (leb (length ds) 19 && list_all is_ascii_digit ds) h in (
      leb-true 1 (length ds) some.0,
      sym (digits_same ds)
          ∙ (both (leb (length ds) 19) (list_all is_ascii_digit ds) some.1).1,
    )

is_numeral-IsNumeral : (ds : List ℕ) → is_numeral ds ≡ true → IsNumeral 10 ds
is_numeral-IsNumeral ds h = let parts = numeral ds h in (parts.0, own.to ds parts.1)

no_plus : (ds : List ℕ) → is_numeral ds ≡ true → get_or ds 0 0 ≢ 43
no_plus ds h =
    let parts = numeral ds h in not_in_digits own ds 43 parts.1 (λ r. omega arith) 0 parts.0

by_sign : (text : List ℕ) (b : Bool) → starts_with_minus text ≡ b
    → is_numeral (cond b (drop 1 text) text) ≡ true
    → IsNumeral 10 (cond b (drop 1 text) (without_leading_plus text))
by_sign text true sign h = is_numeral-IsNumeral (drop 1 text) h
by_sign text false sign h =
    subst (λ ds. IsNumeral 10 ds) (sym (without_leading_plus_none text (no_plus text h)))
    (is_numeral-IsNumeral text h)

pub numeral_behind_sign : (text : List ℕ) → is_number text ≡ true
    → IsNumeral 10 (without_leading_sign text)
numeral_behind_sign text h = by_sign text (starts_with_minus text) refl h

-- the answers of `number`
pub number_read : (E : Type 0) (text : List ℕ) (n : ℤ) → is_number text ≡ true
    → ParsesSigned {E = E} w64 10 text (Ok n)
    → number text ≡ Ok n
number_read E text n is h =
    ap (λ b. cond b (or_overflow (if_fits (signed_digits_value 10 text))) (Err BadArgument)) is
    ∙ ap (λ b. or_overflow (cond b (Some (signed_digits_value 10 text)) None)) (fits_from _ h.0.1)
    ∙ ap Ok (sym h.1)

pub number_over : (E : Type 0) (text : List ℕ) (e : E) → is_number text ≡ true
    → ParsesSigned {E = E} w64 10 text (Err e)
    → number text ≡ Err Overflow
number_over E text e is h =
    ap (λ b. cond b (or_overflow (if_fits (signed_digits_value 10 text))) (Err BadArgument)) is
    ∙ ap (λ b. or_overflow (cond b (Some (signed_digits_value 10 text)) None))
    (fits_not _ (λ f. h (numeral_behind_sign text is, f)))

pub number_bad : (text : List ℕ) → is_number text ≡ false → number text ≡ Err BadArgument
number_bad text is =
    ap (λ b. cond b (or_overflow (if_fits (signed_digits_value 10 text))) (Err BadArgument)) is
