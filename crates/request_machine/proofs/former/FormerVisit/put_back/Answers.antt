use Rattle.std.proofs.Common.{subst}
use Rattle.std.proofs.Math.Logic.{∥∥₁_map}
use Rattle.request_machine.specs.Former.{IsVisitOf, visit_before, with_parts}
use Rattle.request_machine.proofs.PutBack.{is_visit}
use Rattle.request_machine.proofs.former.FormerVisit.put_back.Goals as goal

pub put_back-requires : goal.put_back-requires
put_back-requires g c =
    let fits = ∥∥₁_map c.requires
    (λ x. (x.0, subst (λ f. IsVisitOf x.0 (visit_before c.args.stage.now f)) c.in-Parts.is x.1))
    in
    record { visits = is_visit c.args.stage.now (with_parts c.in-Parts.parts) fits; fits = fits }
