use Rattle.std.proofs.Common.{◌≡◌, true, false, ap, sym, ◌∙◌, subst}
use Rattle.std.specs.Prelude.{IfOk}
use Rattle.target_order.specs.declared.asks.OrderAsk.TheVariants.{Depends}
use Rattle.target_order.specs.declared.asks.OrderAnswer.TheVariants.{Truth}
use Rattle.target_order.specs.declared.visits.Step.TheVariants.{
  BeforeSkip,
  After,
  Errors,
  Depends as AtDepends,
}
use Rattle.target_order.specs.Progress.{name_at}
use Rattle.target_order.specs.AsksLeft.{asks_left}
use Rattle.target_order.specs.Left.{left}
use Rattle.target_order.specs.Answers.{Asks, fits}
use Rattle.target_order.specs.Search.{IsSound}
use Rattle.target_order.specs.Steps.{going_asks, step_after, names_after, top_target}
use Rattle.target_order.proofs.Taking.{
  first_left,
  first_fewer,
  truth_asks,
  truth_fewer,
  for_depends,
  answer_asks,
  answer_fewer,
  asks_at_ok,
  fewer_at_ok,
  lower_on_ok,
}
use Rattle.target_order.proofs.walk.OrderWalk.advance.Goals as goal

pub returns-in-First-clause-asks : goal.returns-in-First-clause-asks
returns-in-First-clause-asks c =
    let p = c.args.self.now in
    let sound = subst (λ q. IsSound q c.self.inside.places) c.self.view_is c.self.invariant in
    let fit = subst (λ a. fits p.asked a ≡ true) c.in-First.is c.requires in
    subst (λ tree. IfOk c.go_on.result (λ ask. Asks tree ask c.go_on.new.self))
    (first_left p sound.progress fit ∙ ap (left p) (sym c.in-First.is)) c.go_on.ensures.asks

pub returns-in-First-clause-fewer : goal.returns-in-First-clause-fewer
returns-in-First-clause-fewer c =
    let p = c.args.self.now in
    let sound = subst (λ q. IsSound q c.self.inside.places) c.self.view_is c.self.invariant in
    let fit = subst (λ a. fits p.asked a ≡ true) c.in-First.is c.requires in
    lower_on_ok c.go_on.result (asks_left c.go_on.new.self) (going_asks p) (asks_left p)
    c.go_on.ensures.fewer (first_fewer p sound.progress fit)

pub returns-in-Truth-true-clause-asks : goal.returns-in-Truth-true-clause-asks
returns-in-Truth-true-clause-asks c =
    let p = c.args.self.now in
    let sound = subst (λ q. IsSound q c.self.inside.places) c.self.view_is c.self.invariant in
    let is : c.args.answer.now ≡ Truth true = cc
    (c.in-Truth-true.is, c.in-Truth-true.field-0-is, c.in-Truth-true.field-0-test) in
    let fit = subst (λ a. fits p.asked a ≡ true) is c.requires in
    asks_at_ok c.ask_depends.result (left p c.args.answer.now)
    (Depends (name_at p.table (top_target p))) c.ask_depends.new.self (for_depends p)
    c.ask_depends.ensures.ask c.ask_depends.ensures.ok
    (subst (λ tree. Asks tree (Depends (name_at p.table (top_target p))) (for_depends p))
    (ap (left p) (sym is)) (truth_asks p sound.progress fit))

pub returns-in-Truth-true-clause-fewer : goal.returns-in-Truth-true-clause-fewer
returns-in-Truth-true-clause-fewer c =
    let p = c.args.self.now in
    let sound = subst (λ q. IsSound q c.self.inside.places) c.self.view_is c.self.invariant in
    let is : c.args.answer.now ≡ Truth true = cc
    (c.in-Truth-true.is, c.in-Truth-true.field-0-is, c.in-Truth-true.field-0-test) in
    let fit = subst (λ a. fits p.asked a ≡ true) is c.requires in
    fewer_at_ok c.ask_depends.result c.ask_depends.new.self (for_depends p) (asks_left p)
    c.ask_depends.ensures.ok (truth_fewer p sound.progress fit)

pub returns-in-Truth-false-clause-asks : goal.returns-in-Truth-false-clause-asks
returns-in-Truth-false-clause-asks c =
    let p = c.args.self.now in
    let sound = subst (λ q. IsSound q c.self.inside.places) c.self.view_is c.self.invariant in
    let is : c.args.answer.now ≡ Truth false = cc
    (c.in-Truth-false.is, c.in-Truth-false.field-0-is, c.in-Truth-false.field-0-test) in
    answer_asks p c.self.inside.places sound c.args.answer.now c.requires (λ e. cc (e, is))
    (λ e. cc (e, is)) BeforeSkip c.none.result (sym (ap step_after is))
    (c.none.ensures ∙ sym (ap names_after is))
    c.go_through.result c.go_through.new.self c.go_through.ensures.asks

pub returns-in-Truth-false-clause-fewer : goal.returns-in-Truth-false-clause-fewer
returns-in-Truth-false-clause-fewer c =
    let p = c.args.self.now in
    let sound = subst (λ q. IsSound q c.self.inside.places) c.self.view_is c.self.invariant in
    let is : c.args.answer.now ≡ Truth false = cc
    (c.in-Truth-false.is, c.in-Truth-false.field-0-is, c.in-Truth-false.field-0-test) in
    answer_fewer p c.self.inside.places sound c.args.answer.now c.requires (λ e. cc (e, is))
    (λ e. cc (e, is)) BeforeSkip c.none.result (sym (ap step_after is))
    (c.none.ensures ∙ sym (ap names_after is))
    c.go_through.result c.go_through.new.self c.go_through.ensures.fewer c.go_through.ensures.short

pub returns-in_ok-of-in-Names-clause-asks : goal.returns-in_ok-of-in-Names-clause-asks
returns-in_ok-of-in-Names-clause-asks c =
    let p = c.args.self.now in
    let sound = subst (λ q. IsSound q c.self.inside.places) c.self.view_is c.self.invariant in
    let is = c.in-Names.is in
    answer_asks p c.self.inside.places sound c.args.answer.now c.requires (λ e. cc (e, is))
    (λ e. cc (e, is)) AtDepends c.in_ok-of-in-Names.field-0 (sym (ap step_after is))
    (c.in_ok-of-in-Names.ensures ∙ sym (ap names_after is))
    c.go_through-in-Names.result c.go_through-in-Names.new.self c.go_through-in-Names.ensures.asks

pub returns-in_ok-of-in-Names-clause-fewer : goal.returns-in_ok-of-in-Names-clause-fewer
returns-in_ok-of-in-Names-clause-fewer c =
    let p = c.args.self.now in
    let sound = subst (λ q. IsSound q c.self.inside.places) c.self.view_is c.self.invariant in
    let is = c.in-Names.is in
    answer_fewer p c.self.inside.places sound c.args.answer.now c.requires (λ e. cc (e, is))
    (λ e. cc (e, is)) AtDepends c.in_ok-of-in-Names.field-0 (sym (ap step_after is))
    (c.in_ok-of-in-Names.ensures ∙ sym (ap names_after is))
    c.go_through-in-Names.result c.go_through-in-Names.new.self c.go_through-in-Names.ensures.fewer
    c.go_through-in-Names.ensures.short

pub returns-in-Ok-clause-asks : goal.returns-in-Ok-clause-asks
returns-in-Ok-clause-asks c =
    let p = c.args.self.now in
    let sound = subst (λ q. IsSound q c.self.inside.places) c.self.view_is c.self.invariant in
    let is = c.in-Ok.is in
    answer_asks p c.self.inside.places sound c.args.answer.now c.requires (λ e. cc (e, is))
    (λ e. cc (e, is)) After c.none-in-Ok.result (sym (ap step_after is))
    (c.none-in-Ok.ensures ∙ sym (ap names_after is))
    c.go_through-in-Ok.result c.go_through-in-Ok.new.self c.go_through-in-Ok.ensures.asks

pub returns-in-Ok-clause-fewer : goal.returns-in-Ok-clause-fewer
returns-in-Ok-clause-fewer c =
    let p = c.args.self.now in
    let sound = subst (λ q. IsSound q c.self.inside.places) c.self.view_is c.self.invariant in
    let is = c.in-Ok.is in
    answer_fewer p c.self.inside.places sound c.args.answer.now c.requires (λ e. cc (e, is))
    (λ e. cc (e, is)) After c.none-in-Ok.result (sym (ap step_after is))
    (c.none-in-Ok.ensures ∙ sym (ap names_after is))
    c.go_through-in-Ok.result c.go_through-in-Ok.new.self c.go_through-in-Ok.ensures.fewer
    c.go_through-in-Ok.ensures.short

pub returns-in_ok-of-in-Failed-clause-asks : goal.returns-in_ok-of-in-Failed-clause-asks
returns-in_ok-of-in-Failed-clause-asks c =
    let p = c.args.self.now in
    let sound = subst (λ q. IsSound q c.self.inside.places) c.self.view_is c.self.invariant in
    let is = c.in-Failed.is in
    answer_asks p c.self.inside.places sound c.args.answer.now c.requires (λ e. cc (e, is))
    (λ e. cc (e, is)) Errors c.in_ok-of-in-Failed.field-0 (sym (ap step_after is))
    (c.in_ok-of-in-Failed.ensures ∙ sym (ap names_after is))
    c.go_through-in-Failed.result c.go_through-in-Failed.new.self
    c.go_through-in-Failed.ensures.asks

pub returns-in_ok-of-in-Failed-clause-fewer : goal.returns-in_ok-of-in-Failed-clause-fewer
returns-in_ok-of-in-Failed-clause-fewer c =
    let p = c.args.self.now in
    let sound = subst (λ q. IsSound q c.self.inside.places) c.self.view_is c.self.invariant in
    let is = c.in-Failed.is in
    answer_fewer p c.self.inside.places sound c.args.answer.now c.requires (λ e. cc (e, is))
    (λ e. cc (e, is)) Errors c.in_ok-of-in-Failed.field-0 (sym (ap step_after is))
    (c.in_ok-of-in-Failed.ensures ∙ sym (ap names_after is))
    c.go_through-in-Failed.result c.go_through-in-Failed.new.self
    c.go_through-in-Failed.ensures.fewer c.go_through-in-Failed.ensures.short
