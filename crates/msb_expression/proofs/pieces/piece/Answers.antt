use Rattle.std.proofs.Common.{sym, ◌∙◌, refl}
use Rattle.std.proofs.lemmas.Result.{err_from_is_err_and}
use Rattle.msb_expression.specs.Machine.{inner, property}
use Rattle.msb_expression.proofs.NamePlaces.{Refuses-same}
use Rattle.msb_expression.proofs.StepPlaces.{
  leads_err,
  property_at,
  metadata_at,
  nested_at,
  bad_at,
  end_at,
}
use Rattle.msb_expression.proofs.pieces.piece.Goals as goal

pub returns-in_err-name-in-Property-clause-leads : goal.returns-in_err-name-in-Property-clause-leads
returns-in_err-name-in-Property-clause-leads c = λ place pieces e.
    let p = err_from_is_err_and c.from_residual.result c.from_residual.ensures.1 in
    leads_err c.args.text.now _ p.0 _ _ _ _ p.1 p.2
    (property_at (inner place pieces) c.args.inside c.args.text.now c.args.at
    (sym c.in-Property.ensures))
    (c.in_err-name-in-Property.ensures.leads (inner place pieces) property (λ name. refl))

pub returns-in_err-name-in-Metadata-clause-leads : goal.returns-in_err-name-in-Metadata-clause-leads
returns-in_err-name-in-Metadata-clause-leads c = λ place pieces e.
    let p = err_from_is_err_and c.from_residual-in_err-name-in-Metadata.result
    c.from_residual-in_err-name-in-Metadata.ensures.1 in
    leads_err c.args.text.now _ p.0 _ _ _ _ p.1 p.2
    (metadata_at (inner place pieces) c.args.inside c.args.text.now c.args.at e
    (sym c.in-Metadata.ensures))
    (c.in_err-name-in-Metadata.ensures.leads place pieces)

pub returns-in-End-clause-leads : goal.returns-in-End-clause-leads
returns-in-End-clause-leads c = λ place pieces e.
    (end_at place pieces c.args.inside c.args.text.now c.args.at (sym c.in-End.ensures), refl)

pub returns-in_ok-name-in-Property-clause-leads : goal.returns-in_ok-name-in-Property-clause-leads
returns-in_ok-name-in-Property-clause-leads c = λ place pieces e.
    property_at (inner place pieces) c.args.inside c.args.text.now c.args.at
    (sym c.in-Property.ensures)
    ∙ c.in_ok-name-in-Property.ensures.leads (inner place pieces) property (λ name. refl)

pub returns-in_ok-name-in-Metadata-clause-leads : goal.returns-in_ok-name-in-Metadata-clause-leads
returns-in_ok-name-in-Metadata-clause-leads c = λ place pieces e.
    metadata_at (inner place pieces) c.args.inside c.args.text.now c.args.at e
    (sym c.in-Metadata.ensures)
    ∙ c.in_ok-name-in-Metadata.ensures.leads place pieces

pub returns-in-Items-clause-leads : goal.returns-in-Items-clause-leads
returns-in-Items-clause-leads c = λ place pieces e.
    Refuses-same c.args.text.now _ _ _
    (nested_at place pieces c.args.inside c.args.text.now c.args.at e (sym c.in-Items.ensures))
    c.refusal-in-Items.ensures

pub returns-in-Bad-clause-leads : goal.returns-in-Bad-clause-leads
returns-in-Bad-clause-leads c = λ place pieces e.
    Refuses-same c.args.text.now _ _ _
    (bad_at place pieces c.args.inside c.args.text.now c.args.at e (sym c.in-Bad.ensures))
    c.refusal.ensures
