use Rattle.std.proofs.Common.{[], Err, refl, sym, ap, ◌∙◌, subst}
use Rattle.std.proofs.lemmas.Result.{err_from_is_err_and}
use Rattle.msb_condition.specs.Leads.{starts_and, starts_or}
use Rattle.msb_condition.specs.Places.{tokens_at, token_in}
use Rattle.msb_condition.specs.Reading.{IsRead, IsRefused, condition_of}
use Rattle.msb_condition.specs.View.{tree_of}
use Rattle.msb_condition.proofs.ReadLaws.{begins, ends_well, goes_on}
use Rattle.msb_condition.proofs.parsing.read.Goals as goal

pub returns-in_err-cond : goal.returns-in_err-cond
returns-in_err-cond c =
    let p = err_from_is_err_and c.from_residual.result c.from_residual.ensures.1 in
    let text = c.args.text.now in
    let first = c.in-Some.field-0 in
    subst (λ r. IsRead r (condition_of text)) (ap Err (sym p.2) ∙ sym p.1)
    (subst (IsRefused c.in_err-cond.field-0.0)
    (sym (begins text (token_in text first) (tokens_at first.end text) c.in-Some.ensures.next))
    (c.in_err-cond.ensures.leads [] refl refl))

pub returns-in-Some-token_at : goal.returns-in-Some-token_at
returns-in-Some-token_at c =
    let text = c.args.text.now in
    let token = c.in-Some-token_at.token in
    let first = c.in-Some.field-0 in
    let next = c.in-Some-token_at.ensures.next in
    subst (IsRefused c.stray.result)
    (sym (begins text (token_in text first) (tokens_at first.end text) c.in-Some.ensures.next
    ∙ c.in_ok-cond.ensures.leads [] refl refl
    ∙ goes_on text c.in_ok-cond.end (token_in text token) token.end (tree_of c.in_ok-cond.cond)
    next))
    (c.stray.ensures [] (tree_of c.in_ok-cond.cond)
    (sym (ap starts_and next) ∙ c.in_ok-cond.ensures.no_and)
    (sym (ap starts_or next) ∙ c.in_ok-cond.ensures.no_or) (λ _. refl))

pub returns-in-None : goal.returns-in-None
returns-in-None c =
    let text = c.args.text.now in
    let first = c.in-Some.field-0 in
    begins text (token_in text first) (tokens_at first.end text) c.in-Some.ensures.next
    ∙ c.in_ok-cond.ensures.leads [] refl refl
    ∙ ends_well text c.in_ok-cond.end (tree_of c.in_ok-cond.cond) c.in-None.ensures.next
