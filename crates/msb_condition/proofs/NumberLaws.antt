-- Digits, as far as a loop has read them.
use Rattle.std.proofs.Common.{
  ◌≡◌,
  ℕ,
  ◌+◌,
  ◌*◌,
  ◌^◌,
  ◌<◌,
  ◌≤◌,
  Bool,
  true,
  false,
  List,
  [],
  ◌∷◌,
  length,
  take,
  get_or,
  refl,
  sym,
  ap,
  ◌∙◌,
  arith,
}
use Rattle.std.specs.Prelude.{◌&&◌}
use Rattle.std.specs.List.{list_all}
use Rattle.std.specs.Char.{digit_value}
use Rattle.std.specs.Str.Parse.{digits_value, AllDigits}
use Rattle.std.proofs.lemmas.List.Folds.{list_all_more}
use Rattle.std.proofs.lemmas.List.{length-take-le}
use Rattle.std.proofs.lemmas.Int.Digits.{digits_value_more, digits_value-lt}
use Rattle.std.proofs.Math.Nat.{pow-le-pow_right}
use Rattle.std.proofs.lemmas.Bool.{ltb-true, lt-ltb}
use Rattle.msb_condition.specs.Numbers.{is_digit}

both : (a b : Bool) → (a && b) ≡ true → (a ≡ true) × (b ≡ true)
both true b e = (refl, e)
both false b e = cc

pub all_digits : (radix : ℕ) (ds : List ℕ) → list_all (is_digit radix) ds ≡ true
    → AllDigits radix ds
all_digits radix [] e = tt
all_digits radix (d ∷ ds) e =
    let p = both (is_digit radix d) (list_all (is_digit radix) ds) e in
    (ltb-true (digit_value d) radix p.0, all_digits radix ds p.1)

pub more_digits : (radix : ℕ) (ds : List ℕ) (i : ℕ) → i < length ds
    → list_all (is_digit radix) (take i ds) ≡ true → digit_value (get_or ds i 0) < radix
    → list_all (is_digit radix) (take (i + 1) ds) ≡ true
more_digits radix ds i l e h = list_all_more (is_digit radix) ds i 0 l
    ∙ ap (λ a. a && is_digit radix (get_or ds i 0)) e ∙ lt-ltb (digit_value (get_or ds i 0)) radix h

pub value_small : (radix most : ℕ) (ds : List ℕ) → 0 < radix → length ds ≤ most
    → list_all (is_digit radix) ds ≡ true → digits_value radix ds < radix ^ most
value_small radix most ds r l e =
    let a = digits_value-lt radix ds (all_digits radix ds e) in
    let b : radix ^ length ds ≤ radix ^ most = pow-le-pow_right r l in
    omega (arith, a, b)

pub next_small : (radix most : ℕ) (ds : List ℕ) (i : ℕ) → 0 < radix → length ds ≤ most
    → i < length ds → list_all (is_digit radix) (take i ds) ≡ true
    → digit_value (get_or ds i 0) < radix
    → digits_value radix (take i ds) * radix + digit_value (get_or ds i 0) < radix ^ most
next_small radix most ds i r l h e d =
    let n : length (take (i + 1) ds) ≤ most = let k : length (take (i + 1) ds)
    ≡ i + 1 = length-take-le (i + 1) ds (omega arith) in omega arith in
    let v = value_small radix most (take (i + 1) ds) r n (more_digits radix ds i h e d) in
    let m = digits_value_more radix ds i h in
    omega (arith, v, m)

-- the next digit, in terms of what the loop has
pub record Next (radix most : ℕ) (ds : List ℕ) (i value digit : ℕ) : Type 0 where
  pub digits : list_all (is_digit radix) (take (i + 1) ds) ≡ true
  pub value_is : value * radix + digit ≡ digits_value radix (take (i + 1) ds)
  pub small : value * radix + digit < radix ^ most

pub next : (radix most : ℕ) (ds : List ℕ) (i value digit : ℕ) → 0 < radix → length ds ≤ most
    → i < length ds → list_all (is_digit radix) (take i ds) ≡ true
    → value ≡ digits_value radix (take i ds)
    → digit_value (get_or ds i 0) < radix → digit ≡ digit_value (get_or ds i 0)
    → Next radix most ds i value digit
next radix most ds i value digit r l h e v d is =
    let a : value * radix + digit ≡ digits_value radix (take i ds) * radix
    + digit_value (get_or ds i 0) = rw (v, is) refl in
    let b = next_small radix most ds i r l h e d in
    record {
      digits = more_digits radix ds i h e d;
      value_is = a ∙ sym (digits_value_more radix ds i h);
      small = omega (arith, a, b);
    }
