-- The whole numbers of 64 bits with sign, as texts.
use Rattle.std.specs.Prelude.{
  ◌^◌,
  Bool,
  ◌&&◌,
  nat_lt,
  nat_le,
  length,
  drop,
  ℤ,
  pos,
  negsuc,
  Option,
  Some,
  None,
  Result,
  Ok,
  Err,
  if◌then◌else◌,
}
use Rattle.std.specs.Fmt.{signed_decimal}
use Rattle.std.specs.Char.{is_ascii_digit}
use Rattle.std.specs.List.{list_all}
use Rattle.std.specs.Str.Parse.{starts_with_minus, signed_digits_value}
use Rattle.msb_laws.specs.Words.{Text}
use Rattle.msb_functions.specs.declared.faults.FuncFault.{FuncFault}
use Rattle.msb_functions.specs.declared.faults.FuncFault.TheVariants.{BadArgument, Overflow}

-- 1 to 19 digits
abbrev pub is_numeral : Text → Bool
is_numeral digits =
    nat_le 1 (length digits) && (nat_le (length digits) 19 && list_all is_ascii_digit digits)

-- an optional `-` and a numeral
abbrev pub without_minus : Text → Text
without_minus text = if starts_with_minus text then drop 1 text else text

abbrev pub is_number : Text → Bool
is_number text = is_numeral (without_minus text)

-- it fits 64 bits with sign
abbrev pub fits : ℤ → Bool
fits (pos n) = nat_lt n (2 ^ 63)
fits (negsuc n) = nat_lt n (2 ^ 63)

abbrev pub if_fits : ℤ → Option ℤ
if_fits z = if fits z then Some z else None

abbrev pub or_overflow : Option ℤ → Result ℤ FuncFault
or_overflow (Some z) = Ok z
or_overflow None = Err Overflow

-- the number that a text is
abbrev pub number : Text → Result ℤ FuncFault
number text =
    if is_number text then or_overflow (if_fits (signed_digits_value 10 text)) else Err BadArgument

-- a number is written with a `-` where it is below 0, and without leading zeros
abbrev pub number_text : Option ℤ → Result Text FuncFault
number_text (Some z) = Ok (signed_decimal z)
number_text None = Err Overflow
