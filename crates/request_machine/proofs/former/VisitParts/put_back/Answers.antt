use Rattle.std.proofs.Common.{Some, option_map, sym, ap, ◌∙◌, subst}
use Rattle.std.proofs.Math.Logic.{∥∥₁_elim}
use Rattle.std.proofs.Props.{props}
use Rattle.request_machine.specs.Former.{IsVisitOf, with_parts}
use Rattle.request_machine.specs.Visited.{seen_stage}
use Rattle.request_machine.proofs.PutBack.{with_parts_is}
use Rattle.request_machine.proofs.former.VisitParts.put_back.Goals as goal

pub replace-visited-requires : goal.replace-visited-requires
replace-visited-requires g c = record {
  asks_body = ∥∥₁_elim c.requires.fits (hlevel props)
      (λ x.
      (subst (λ s. IsVisitOf x.0 (option_map (with_parts c.args.self) (seen_stage s)))
      c.in-Visits.is x.1).0);
  own_body = ∥∥₁_elim c.requires.fits (hlevel props)
      (λ x.
      (subst (λ s. IsVisitOf x.0 (option_map (with_parts c.args.self) (seen_stage s)))
      c.in-Visits.is x.1).1);
}

pub returns : goal.returns
returns g c =
    let e = c.replace-visited.ensures in
    ap Some
    (with_parts_is c.replace-visited.new.visit c.in-Visits.visit c.args.self e.instance
    e.state e.order e.own e.target e.at)
    ∙ sym (ap (λ s. option_map (with_parts c.args.self) (seen_stage s)) c.in-Visits.is)
