use Rattle.std.proofs.Common.{sym, ◌∙◌, refl}
use Rattle.msb_expression.specs.Machine.{name_ended}
use Rattle.msb_expression.proofs.NamePlaces.{Refuses-same}
use Rattle.msb_expression.proofs.RefPlaces.{close_cut, name_ended_stops, run-name_ended, run-close}
use Rattle.msb_expression.proofs.references.closed_name.Goals as goal

pub returns-in-Close-clause-leads : goal.returns-in-Close-clause-leads
returns-in-Close-clause-leads c = λ host which m.
    c.in_ok-name.ensures.leads host which
    ∙ run-name_ended host which c.in_ok-name.name c.args.text.now _ _ c.in_ok-name.ensures.over
    (c.spaces_end-end.ensures.over (name_ended host which c.in_ok-name.name) refl)
    ∙ run-close host which c.in_ok-name.name c.args.text.now _ (sym c.in-Close.ensures)

pub returns-in-Close-clause-cut : goal.returns-in-Close-clause-cut
returns-in-Close-clause-cut c = close_cut c.args.text.now _ c.utf8.text (sym c.in-Close.ensures)

pub returns-in_default : goal.returns-in_default
returns-in_default c = record {
  leads = λ host which m.
      Refuses-same c.args.text.now _ _ _
      (c.in_ok-name.ensures.leads host which
      ∙ run-name_ended host which c.in_ok-name.name c.args.text.now _ _ c.in_ok-name.ensures.over
      (c.spaces_end-end.ensures.over (name_ended host which c.in_ok-name.name) refl)
      ∙ name_ended_stops host which c.in_ok-name.name _ c.spaces_end-end.ensures.no_space
      (λ e. c.in_default.not-Close (c.sort_at.ensures ∙ e)) (λ e. m c.in_ok-name.name))
      c.refusal.ensures;
  after = tt;
  within = tt;
  cut = tt;
}
