use Rattle.std.proofs.Common.{List, ap, sym, ◌∙◌, subst}
use Rattle.target_order.specs.declared.visits.OpenVisit.{OpenVisit}
use Rattle.target_order.specs.declared.visits.Asked.TheVariants.{Body}
use Rattle.target_order.specs.Search.{IsSound}
use Rattle.target_order.specs.Steps.{at_body, IsPlace}
use Rattle.target_order.specs.Fields.{progress}
use Rattle.target_order.proofs.Sound.{body_sound}
use Rattle.target_order.proofs.walk.OrderWalk.wait_for_body.Goals as goal

pub invariant_of-self : goal.invariant_of-self
invariant_of-self c =
    let p = progress c.self.inside in
    let place = subst (λ q. IsPlace q c.args.depth c.args.step) (sym c.self.view_is)
    c.requires.place in
    subst
    (λ (vs : List OpenVisit). IsSound (record p { visits = vs; asked = Body })
    c.self.inside.places) (sym c.in_ok-self-inside.ensures)
    (body_sound p c.self.inside.places c.args.depth c.args.step c.args.passed c.self.invariant place
    c.requires.some c.requires.calm)

pub returns-clause-ok : goal.returns-clause-ok
returns-clause-ok c =
    let p = progress c.self.inside in
    ap (λ (vs : List OpenVisit). record p { visits = vs; asked = Body }) c.in_ok-self-inside.ensures
    ∙ ap (λ q. at_body q c.args.depth c.args.step c.args.passed) c.self.view_is
