use Rattle.std.proofs.Common.{
  ◌≤◌,
  ◌<◌,
  ◌++◌,
  ◌∷◌,
  [],
  map,
  take,
  drop,
  get_or,
  length,
  sym,
  ap,
  ◌∙◌,
  arith,
}
use Rattle.std.proofs.lemmas.List.{map-append}
use Rattle.msb_laws.specs.Words.{Name}
use Rattle.target_order.specs.declared.visits.OpenVisit.{OpenVisit}
use Rattle.target_order.specs.Progress.{name_at}
use Rattle.target_order.specs.Search.{visit_at}
use Rattle.target_order.proofs.Stack.{part_more}
use Rattle.target_order.proofs.walk.OrderWalk.circle.Goals as goal

pub loop-at-preserved : goal.loop-at-preserved
loop-at-preserved c =
    let p = c.args.self.now in
    let at = c.loop-at.at in
    let order : c.args.place ≤ at = c.loop-at.auto.at in
    let lt : at < length p.visits = let d = c.requires.deep in let t = c.loop-at-test.true in omega
    arith in
    let visit = c.get.ensures ∙ ap (λ q. visit_at q.visits at) c.self.view_is in
    let name = c.in_ok-copy.ensures
    ∙ (c.name.ensures
    ∙ (ap (λ q. get_or q.table.names c.get.result.now.target []) c.self.view_is
    ∙ ap (λ (v : OpenVisit). name_at p.table v.target) visit)) in
    let part = drop c.args.place (take at p.visits) in
    c.in_ok-push.ensures.ok
    ∙ (ap (λ ns. ns ++ c.in_ok-copy.field-0 ∷ []) c.loop-at.invariant
    ∙ (ap (λ (n : Name). map (λ (v : OpenVisit). name_at p.table v.target) part ++ n ∷ []) name
    ∙ (sym
    (map-append (λ (v : OpenVisit). name_at p.table v.target) part (visit_at p.visits at ∷ []))
    ∙ ap (map (λ (v : OpenVisit). name_at p.table v.target))
    (sym (part_more p.visits c.args.place at order lt)))))
