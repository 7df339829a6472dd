use Rattle.std.proofs.Common.{sym, ap, ◌∙◌, subst}
use Rattle.std.proofs.Math.Logic.{∥∥₁_map}
use Rattle.request_machine.specs.Former.{
  IsFormer,
  body_before,
  position_before,
  visit_before,
  had_begun,
  with_at,
}
use Rattle.request_machine.proofs.PutBack.{is_visit, shown_begun, shown_own, shown_position}
use Rattle.request_machine.proofs.former.Former.put_back.Goals as goal

pub replace_body-now-requires : goal.replace_body-now-requires
replace_body-now-requires g c =
    let r = c.args.request.now in
    let fits = ∥∥₁_map c.requires
    (λ x. (r.key.instance, subst (IsFormer r.key.instance r.stage) c.in-Body.is x)) in
    record { visits = is_visit r.stage (with_at c.in-Body.at) fits; fits = fits }

pub returns-in-Body-clause-stands : goal.returns-in-Body-clause-stands
returns-in-Body-clause-stands g c =
    let calls = g.T.CountedTools.calls in
    let r = c.args.request.now in
    let fits = ∥∥₁_map c.requires (subst (IsFormer r.key.instance r.stage) c.in-Body.is) in
    shown_position calls r.world.now r.key c.in-Body.journal r.runs c.replace_body-now.new.stage
    (body_before r.stage c.in-Body.at) r.key.instance c.replace_body-now.ensures.now fits
    ∙ sym (ap (position_before calls r) c.in-Body.is)

pub returns-in-Body-clause-begun : goal.returns-in-Body-clause-begun
returns-in-Body-clause-begun g c =
    let r = c.args.request.now in
    let fits = ∥∥₁_map c.requires (subst (IsFormer r.key.instance r.stage) c.in-Body.is) in
    shown_begun c.replace_body-now.new.stage (body_before r.stage c.in-Body.at) r.key.instance
    c.replace_body-now.ensures.now fits ∙ sym (ap had_begun c.in-Body.is)

pub put_back-requires : goal.put_back-requires
put_back-requires g c =
    let r = c.args.request.now in ∥∥₁_map c.requires
    (λ x. (r.key.instance, subst (IsFormer r.key.instance r.stage) c.in-Visit.is x))

pub invariant_of-request-in-Visit : goal.invariant_of-request-in-Visit
invariant_of-request-in-Visit g c =
    let r = c.args.request.now in
    let fits = ∥∥₁_map c.requires (subst (IsFormer r.key.instance r.stage) c.in-Visit.is) in
    record {
      own_run = shown_own c.put_back.new.stage (visit_before r.stage c.in-Visit.visit)
          r.key.instance c.put_back.ensures fits;
      known = r.known;
    }

pub returns-in-Visit-clause-stands : goal.returns-in-Visit-clause-stands
returns-in-Visit-clause-stands g c =
    let calls = g.T.CountedTools.calls in
    let r = c.args.request.now in
    let fits = ∥∥₁_map c.requires (subst (IsFormer r.key.instance r.stage) c.in-Visit.is) in
    shown_position calls r.world.now r.key c.in-Visit.journal c.in-Visit.runs c.put_back.new.stage
    (visit_before r.stage c.in-Visit.visit) r.key.instance c.put_back.ensures fits
    ∙ sym (ap (position_before calls r) c.in-Visit.is)

pub returns-in-Visit-clause-begun : goal.returns-in-Visit-clause-begun
returns-in-Visit-clause-begun g c =
    let r = c.args.request.now in
    let fits = ∥∥₁_map c.requires (subst (IsFormer r.key.instance r.stage) c.in-Visit.is) in
    shown_begun c.put_back.new.stage (visit_before r.stage c.in-Visit.visit) r.key.instance
    c.put_back.ensures fits ∙ sym (ap had_begun c.in-Visit.is)
