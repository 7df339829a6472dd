use Rattle.std.proofs.Common.{arith, sym, lit<, ◌∙◌}
use Rattle.std.proofs.lemmas.Bool.{eqb-false}
use Rattle.msb_words.proofs.Digits.{digits_read}
use Rattle.msb_words.proofs.numbers.number_of.Goals as goal

pub returns : goal.returns
returns c =
    let no_sign = eqb-false _ 43 (sym (c.starts_with.ensures.byte (lit< tt) (lit< tt) (λ _ _ h. h))
    ∙ c.if-starts_with.false) in
    c.ok.ensures.value ∙ digits_read c.args.most c.args.value.now (omega arith) c.parse.result
    no_sign c.parse.ensures.value.0
