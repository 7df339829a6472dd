use Rattle.std.proofs.Common.{Some, sym, ap, ◌∙◌, subst}
use Rattle.std.proofs.Math.Logic.{∥∥₁_elim}
use Rattle.std.proofs.Props.{props}
use Rattle.request_machine.specs.Former.{IsVisitOf, body_before}
use Rattle.request_machine.specs.Visited.{seen_stage}
use Rattle.request_machine.proofs.former.replace_body.Goals as goal

pub replace_at-requires : goal.replace_at-requires
replace_at-requires g c = ∥∥₁_elim c.requires.fits (hlevel props)
    (λ x. (subst (λ s. IsVisitOf x.0 (body_before s c.args.at)) c.in-Visits.is x.1).1)

pub returns : goal.returns
returns g c = record {
  now = ap Some c.replace_at.ensures.now ∙ sym (ap (λ s. body_before s c.args.at) c.in-Visits.is);
  before = ap Some c.replace_at.ensures.before ∙ sym (ap seen_stage c.in-Visits.is);
}
