use Rattle.std.proofs.Common.{sym, ◌∙◌, refl}
use Rattle.msb_expression.specs.Machine.{inner, metadata, name_ended}
use Rattle.msb_expression.proofs.NamePlaces.{Refuses-same}
use Rattle.msb_expression.proofs.RefPlaces.{
  close_cut,
  name_ended_stops,
  dot_stops,
  run-name_ended,
  run-close,
}
use Rattle.msb_expression.proofs.references.own_metadata.Goals as goal

pub returns-in-Close-clause-leads : goal.returns-in-Close-clause-leads
returns-in-Close-clause-leads c = λ place pieces.
    c.in_ok-name.ensures.leads (inner place pieces) metadata
    ∙ run-name_ended (inner place pieces) metadata c.in_ok-name.name c.args.text.now _ _
    c.in_ok-name.ensures.over
    (c.spaces_end-end.ensures.over (name_ended (inner place pieces) metadata c.in_ok-name.name)
    refl)
    ∙ run-close (inner place pieces) metadata c.in_ok-name.name c.args.text.now _
    (sym c.in-Close.ensures)

pub returns-in-Close-clause-cut : goal.returns-in-Close-clause-cut
returns-in-Close-clause-cut c = close_cut c.args.text.now _ c.utf8.text (sym c.in-Close.ensures)

pub returns-in-Dot-clause-leads : goal.returns-in-Dot-clause-leads
returns-in-Dot-clause-leads c = λ place pieces.
    Refuses-same c.args.text.now _ _ _
    (c.in_ok-name.ensures.leads (inner place pieces) metadata
    ∙ run-name_ended (inner place pieces) metadata c.in_ok-name.name c.args.text.now _ _
    c.in_ok-name.ensures.over
    (c.spaces_end-end.ensures.over (name_ended (inner place pieces) metadata c.in_ok-name.name)
    refl)
    ∙ dot_stops place pieces c.in_ok-name.name _ (sym c.in-Dot.ensures))
    c.refusal.ensures

pub returns-in_default : goal.returns-in_default
returns-in_default c = record {
  leads = λ place pieces.
      Refuses-same c.args.text.now _ _ _
      (c.in_ok-name.ensures.leads (inner place pieces) metadata
      ∙ run-name_ended (inner place pieces) metadata c.in_ok-name.name c.args.text.now _ _
      c.in_ok-name.ensures.over
      (c.spaces_end-end.ensures.over
      (name_ended (inner place pieces) metadata c.in_ok-name.name) refl)
      ∙ name_ended_stops (inner place pieces) metadata c.in_ok-name.name _
      c.spaces_end-end.ensures.no_space (λ e. c.in_default.not-Close (c.sort_at.ensures ∙ e))
      (λ e. absurd (c.in_default.not-Dot (c.sort_at.ensures ∙ e))))
      c.refusal-in_default.ensures;
  after = tt;
  within = tt;
  cut = tt;
}
