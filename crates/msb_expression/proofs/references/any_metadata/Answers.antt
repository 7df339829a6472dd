use Rattle.std.proofs.Common.{sym, ◌∙◌, refl}
use Rattle.msb_expression.specs.declared.sorts.Sort.TheVariants.{Dot}
use Rattle.msb_expression.specs.Machine.{whole, metadata, qualified, name_opened, name_ended}
use Rattle.msb_expression.proofs.NamePlaces.{Refuses-same}
use Rattle.msb_expression.proofs.Places.{run-at}
use Rattle.msb_expression.proofs.RefPlaces.{close_cut, name_ended_stops, run-name_ended, run-close}
use Rattle.msb_expression.proofs.StepPlaces.{leads_same}
use Rattle.msb_expression.proofs.references.any_metadata.Goals as goal

pub returns-in-Close-clause-leads : goal.returns-in-Close-clause-leads
returns-in-Close-clause-leads c = λ parts.
    c.in_ok-first.ensures.leads (whole parts) metadata
    ∙ run-name_ended (whole parts) metadata c.in_ok-first.first c.args.text.now _ _
    c.in_ok-first.ensures.over
    (c.spaces_end-end.ensures.over (name_ended (whole parts) metadata c.in_ok-first.first) refl)
    ∙ run-close (whole parts) metadata c.in_ok-first.first c.args.text.now _
    (sym c.in-Close.ensures)

pub returns-in-Close-clause-cut : goal.returns-in-Close-clause-cut
returns-in-Close-clause-cut c = close_cut c.args.text.now _ c.utf8.text (sym c.in-Close.ensures)

pub returns-in-Dot-clause-leads : goal.returns-in-Dot-clause-leads
returns-in-Dot-clause-leads c = λ parts.
    leads_same c.args.text.now _ _ _ _
    (c.in_ok-first.ensures.leads (whole parts) metadata
    ∙ run-name_ended (whole parts) metadata c.in_ok-first.first c.args.text.now _ _
    c.in_ok-first.ensures.over
    (c.spaces_end-end.ensures.over (name_ended (whole parts) metadata c.in_ok-first.first) refl)
    ∙ run-at c.args.text.now c.spaces_end-end.result
    (name_ended (whole parts) metadata c.in_ok-first.first)
    (name_opened (whole parts) (qualified c.in_ok-first.first)) Dot (sym c.in-Dot.ensures)
    (λ k. cc) refl)
    (c.qualified_metadata.ensures.leads parts)

pub returns-in_default : goal.returns-in_default
returns-in_default c = record {
  leads = λ parts.
      Refuses-same c.args.text.now _ _ _
      (c.in_ok-first.ensures.leads (whole parts) metadata
      ∙ run-name_ended (whole parts) metadata c.in_ok-first.first c.args.text.now _ _
      c.in_ok-first.ensures.over
      (c.spaces_end-end.ensures.over (name_ended (whole parts) metadata c.in_ok-first.first)
      refl)
      ∙ name_ended_stops (whole parts) metadata c.in_ok-first.first _
      c.spaces_end-end.ensures.no_space (λ e. c.in_default.not-Close (c.sort_at.ensures ∙ e))
      (λ e. absurd (c.in_default.not-Dot (c.sort_at.ensures ∙ e))))
      c.refusal.ensures;
  after = tt;
  within = tt;
  cut = tt;
}
