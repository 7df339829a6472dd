use Rattle.std.proofs.Common.{◌≡◌, true, take}
use Rattle.std.specs.List.{list_all}
use Rattle.std.specs.Str.Parse.{digits_value}
use Rattle.msb_condition.specs.Numbers.{is_digit}
use Rattle.msb_condition.proofs.numbers.read_digits.Given as goal

abbrev pub invariant-loop-byte : goal.invariant-loop-byte
invariant-loop-byte l = record {
  digits : list_all (is_digit l.radix) (take l.byte-index l.digits) ≡ true;
  value : l.value ≡ digits_value l.radix (take l.byte-index l.digits);
}
