-- Texts as numbers, exactly. (MSBuild conditions.)
use Rattle.std.specs.Prelude.{
  ℕ,
  ◌+◌,
  ◌-◌,
  ◌*◌,
  ◌^◌,
  Bool,
  true,
  false,
  ◌&&◌,
  ◌==◌,
  nat_lt,
  nat_le,
  [],
  ◌∷◌,
  length,
  drop,
  Option,
  Some,
  None,
  option_map,
  if◌then◌else◌,
}
use Rattle.std.specs.List.{list_all, before_first, after_first, position_or_len}
use Rattle.std.specs.Char.{digit_value}
use Rattle.std.specs.Str.Parse.{digits_value}
use Rattle.msb_laws.specs.Words.{Text}
use Rattle.msb_condition.specs.declared.numbers.Number.{Number}
use Rattle.msb_condition.specs.Tokens.{begins}

abbrev pub is_digit : ℕ → ℕ → Bool
is_digit radix b = nat_lt (digit_value b) radix

-- from 1 to so many digits
abbrev pub are_digits : ℕ → ℕ → Text → Bool
are_digits radix most digits = nat_lt 0 (length digits) && nat_le (length digits) most
    && list_all (is_digit radix) digits

-- what they write
abbrev pub written : ℕ → ℕ → Text → Option ℕ
written radix most digits = if are_digits radix most digits then Some (digits_value radix digits)
    else None

-- a number by its sign and its size, in units of 10^-18
abbrev pub of_size : Bool → ℕ → Number
of_size negative size = record { negative = negative; size = size }

abbrev pub of_whole : Bool → Option ℕ → Option Number
of_whole negative whole = option_map (λ n. of_size negative (n * 10 ^ 18)) whole

-- `0x` and 1 to 16 digits
abbrev pub hex_number : Text → Option Number
hex_number digits = of_whole false (written 16 16 digits)

abbrev pub is_point : ℕ → Bool
is_point b = b == 46

-- digits without a point
abbrev pub whole_number : Bool → Text → Option Number
whole_number negative digits = of_whole negative (written 10 18 digits)

-- a whole, and so many digits behind the point
abbrev pub of_parts : Bool → ℕ → Option ℕ → Option ℕ → Option Number
of_parts negative digits (Some whole) (Some fraction) = Some
    (of_size negative (whole * 10 ^ 18 + fraction * 10 ^ (18 - digits)))
of_parts negative digits (Some whole) None = None
of_parts negative digits None fraction = None

-- digits before the point and behind it, at most 18 in all
abbrev pub parted_number : Bool → Text → Text → Option Number
parted_number negative before after =
    if nat_le (length before + length after) 18
    then of_parts negative (length after) (written 10 18 before) (written 10 18 after)
    else None

-- a number without its sign
abbrev pub plain_number : Bool → Text → Option Number
plain_number negative text =
    if position_or_len is_point text == length text then whole_number negative text
    else parted_number negative (before_first is_point text) (after_first is_point text)

-- `+`, `-` or `0x`, or else a digit
abbrev pub begun_number : ℕ → Text → Option Number
begun_number b rest =
    if b == 43 then plain_number false rest else
    if b == 45 then plain_number true rest else
    if b == 48 && begins 120 rest then hex_number (drop 1 rest) else plain_number false (b ∷ rest)

abbrev pub number_of : Text → Option Number
number_of [] = None
number_of (b ∷ rest) = begun_number b rest

-- how far a number is above zero, and below it
abbrev pub above : Number → ℕ
above number = if number.negative then 0 else number.size

abbrev pub below : Number → ℕ
below number = if number.negative then number.size else 0

abbrev pub is_less : Number → Number → Bool
is_less left right = nat_lt (above left + below right) (above right + below left)

abbrev pub is_equal : Number → Number → Bool
is_equal left right = above left + below right == above right + below left
