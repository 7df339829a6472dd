-- A text of one or more digits, as a parse reads it.
use Rattle.std.proofs.Common.{
  ◌≡◌,
  ◌≢◌,
  ℕ,
  ◌<◌,
  ◌≤◌,
  ◌^◌,
  List,
  length,
  get_or,
  Bool,
  true,
  false,
  cond,
  Some,
  None,
  Result,
  Ok,
  Err,
  refl,
  ap,
}
use Rattle.std.specs.Prelude.{◌&&◌, nat_le, nat_lt}
use Rattle.std.specs.Result.{OkIff, result_ok}
use Rattle.std.specs.Str.{all_ascii_digits}
use Rattle.std.specs.Str.Parse.{ParsesUnsigned, digits_value}
use Rattle.std.proofs.lemmas.Bool.{le-leb, lt-ltb, ltb-true}
use Rattle.std.proofs.lemmas.Str.Parse.{
  IsNumeralModel,
  numerals_by_value,
  parse_plain,
  tells_all_ascii_digits,
}
use Rattle.msb_words.specs.Values.{number_of}

digits : IsNumeralModel (λ ds. all_ascii_digits ds ≡ true) (digits_value 10)
digits = numerals_by_value _ tells_all_ascii_digits

module _ (most : ℕ) (value : List ℕ) (short : length value ≤ most) where
  abbrev IsRead : Type 0
  IsRead = (all_ascii_digits value ≡ true) × (0 < length value) × (digits_value 10 value < 2 ^ 64)

  unread : (a b c : Bool) → nat_lt 0 (length value) ≡ a → all_ascii_digits value ≡ b
      → nat_lt (digits_value 10 value) (2 ^ 64) ≡ c → ¬ IsRead
      → None ≡ cond ((a && nat_le (length value) most && b) && c) (Some (digits_value 10 value))
      None
  unread true true true some are below bad = absurd
      (bad (are, ltb-true 0 (length value) some, ltb-true (digits_value 10 value) (2 ^ 64) below))
  unread true true false some are below bad = rw (le-leb (length value) most short) refl
  unread true false c some are below bad = rw (le-leb (length value) most short) refl
  unread false b c some are below bad = refl

  read_as : {E : Type 0} (r : Result ℕ E) → OkIff r IsRead (digits_value 10 value)
      → result_ok r ≡ number_of most value
  read_as (Ok x) h = rw (
    lt-ltb 0 (length value) h.0.1,
    le-leb (length value) most short,
    h.0.0,
    lt-ltb
        (digits_value 10 value) (2 ^ 64) h.0.2,
  ) (ap Some h.1)
  read_as (Err e) bad = unread _ _ _ refl refl refl bad

  -- without a sign
  pub digits_read : {E : Type 0} (r : Result ℕ E) → get_or value 0 0 ≢ 43
      → ParsesUnsigned 64 10 value r → result_ok r ≡ number_of most value
  digits_read r no_sign parses = read_as r (parse_plain digits 64 value r parses no_sign)
