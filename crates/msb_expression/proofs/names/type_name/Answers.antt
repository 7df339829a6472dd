use Rattle.std.proofs.Common.{◌∙◌, refl}
use Rattle.msb_expression.specs.Machine.{type_opened}
use Rattle.msb_expression.proofs.NamePlaces.{Refuses-same, type_stops, run-type_at}
use Rattle.msb_expression.proofs.names.type_name.Goals as goal

pub returns-in_ok-type_at-in-Letter-clause-leads : goal.returns-in_ok-type_at-in-Letter-clause-leads
returns-in_ok-type_at-in-Letter-clause-leads c = λ parts.
    c.spaces_end-start.ensures.over (type_opened parts) refl
    ∙ run-type_at parts c.args.text.now _ _ _ c.in_ok-type_at-in-Letter.ensures.name
    c.in_ok-type_at-in-Letter.ensures.ends

pub returns-in_default : goal.returns-in_default
returns-in_default c = record {
  leads = λ parts.
      Refuses-same c.args.text.now _ _ _
      (c.spaces_end-start.ensures.over (type_opened parts) refl
      ∙ type_stops parts _ c.spaces_end-start.ensures.no_space
      (λ e. c.in_default.not-Letter (c.sort_at.ensures ∙ e)))
      c.refusal.ensures;
  after = tt;
  within = tt;
}
