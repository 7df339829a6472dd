use Rattle.std.proofs.Common.{◌∙◌, refl}
use Rattle.msb_expression.specs.Machine.{name_opened}
use Rattle.msb_expression.proofs.NamePlaces.{
  Refuses-same,
  name_stops,
  run-name_at,
  run-taken_at,
  taken_stops,
}
use Rattle.msb_expression.proofs.names.name.Goals as goal

pub returns-in_ok-name_at-in-Letter-clause-leads : goal.returns-in_ok-name_at-in-Letter-clause-leads
returns-in_ok-name_at-in-Letter-clause-leads c = λ host which.
    c.spaces_end-start.ensures.over (name_opened host which) refl
    ∙ run-name_at host which c.args.text.now _ _ _ c.in_ok-name_at-in-Letter.ensures.name

pub returns-in_ok-name_at-in-Letter-clause-takes : goal.returns-in_ok-name_at-in-Letter-clause-takes
returns-in_ok-name_at-in-Letter-clause-takes c = λ mode named t.
    c.spaces_end-start.ensures.over mode t.stays
    ∙ run-taken_at mode named c.args.text.now _ _ _ t c.in_ok-name_at-in-Letter.ensures.name

pub returns-in_default : goal.returns-in_default
returns-in_default c = record {
  leads = λ host which.
      Refuses-same c.args.text.now _ _ _
      (c.spaces_end-start.ensures.over (name_opened host which) refl
      ∙ name_stops host which _ c.spaces_end-start.ensures.no_space
      (λ e. c.in_default.not-Letter (c.sort_at.ensures ∙ e)))
      c.refusal.ensures;
  takes = λ mode named t.
      Refuses-same c.args.text.now _ _ _
      (c.spaces_end-start.ensures.over mode t.stays
      ∙ taken_stops mode named _ t c.spaces_end-start.ensures.no_space
      (λ e. c.in_default.not-Letter (c.sort_at.ensures ∙ e)))
      c.refusal.ensures;
  after = tt;
  within = tt;
  over = tt;
}
