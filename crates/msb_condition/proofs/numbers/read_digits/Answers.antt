use Rattle.std.proofs.Common.{◌≡◌, ◌<◌, ◌^◌, sym, ap, ◌∙◌, subst, arith, true}
use Rattle.std.specs.Char.{digit_value}
use Rattle.std.specs.List.{list_all}
use Rattle.std.proofs.lemmas.List.{take_all}
use Rattle.msb_condition.specs.Numbers.{is_digit}
use Rattle.msb_condition.proofs.NumberLaws.{Next, next, value_small}
use Rattle.msb_condition.proofs.numbers.read_digits.Goals as goal

found : (c : goal.In-Some)
    → Next c.args.radix c.args.most c.args.digits.now c.loop-byte.byte-index c.loop-byte.value
    c.in-Some.digit
found c =
    next _ _ _ _ _ _ (omega arith) c.if-digits-most.false c.loop-byte-test.true
    c.loop-byte.invariant.digits c.loop-byte.invariant.value
    (subst (λ b. digit_value b < c.args.radix) c.from.ensures c.in-Some.ensures.value.0)
    (c.in-Some.ensures.value.1 ∙ ap digit_value c.from.ensures)

pub overflow_add-value : goal.overflow_add-value
overflow_add-value c = let n = (found c).small in omega (arith, n, c.requires.fits)

pub overflow_mul-value : goal.overflow_mul-value
overflow_mul-value c = let n = (found c).small in omega (arith, n, c.requires.fits)

pub loop-byte-preserved : goal.loop-byte-preserved
loop-byte-preserved c = record { digits = (found c).digits; value = (found c).value_is }

pub returns-clause-bound : goal.returns-clause-bound
returns-clause-bound c =
    let e = take_all c.loop-byte.byte-index c.args.digits.now (c.loop-byte-test.false) in
    let a = subst (λ ds. list_all (is_digit c.args.radix) ds ≡ true) e c.loop-byte.invariant.digits
    in
    let v = value_small c.args.radix c.args.most c.args.digits.now (omega arith)
    c.if-digits-most.false a in
    subst (λ n. n < c.args.radix ^ c.args.most)
    (sym
    (c.loop-byte.invariant.value
    ∙ ap (λ ds. Rattle.std.specs.Str.Parse.digits_value c.args.radix ds) e)) v
