use Rattle.std.proofs.Common.{sym, ◌∙◌, ap}
use Rattle.msb_expression.specs.declared.sorts.Sort.TheVariants.{
  Open,
  Close,
  Comma,
  Dollar,
  Percent,
  At,
}
use Rattle.msb_expression.specs.Machine.{opened_start, bad_if_loose}
use Rattle.msb_expression.proofs.RefPlaces.{start_here}
use Rattle.msb_expression.proofs.starts.start_at.Goals as goal

pub returns-in-Dollar : goal.returns-in-Dollar
returns-in-Dollar c = c.if_opened.ensures ∙ sym
    (start_here c.args.inside c.args.text.now c.args.at Dollar (sym c.in-Dollar.ensures) (λ k. cc))

pub returns-in-Percent : goal.returns-in-Percent
returns-in-Percent c =
    c.bad_if_loose.ensures
    ∙ ap (bad_if_loose _) (c.if_opened-in-Percent.ensures
    ∙ ap (opened_start _) c.metadata.ensures)
    ∙ sym (start_here c.args.inside c.args.text.now c.args.at Percent (sym c.in-Percent.ensures)
    (λ k. cc))

pub returns-in-At : goal.returns-in-At
returns-in-At c =
    c.bad_if_loose-in-At.ensures
    ∙ ap (bad_if_loose _) (c.if_opened-in-At.ensures ∙ ap (opened_start _) c.items.ensures)
    ∙ sym (start_here c.args.inside c.args.text.now c.args.at At (sym c.in-At.ensures) (λ k. cc))

pub returns-in-Open : goal.returns-in-Open
returns-in-Open c =
    c.bad_if_loose-in-Open.ensures
    ∙ sym (start_here c.args.inside c.args.text.now c.args.at Open (sym c.in-Open.ensures)
    (λ k. cc))

pub returns-in-Comma : goal.returns-in-Comma
returns-in-Comma c =
    c.part.ensures ∙ sym (start_here c.args.inside c.args.text.now c.args.at Comma
    (sym c.in-Comma.ensures) (λ k. cc))

pub returns-in-Close : goal.returns-in-Close
returns-in-Close c =
    c.part-in-Close.ensures
    ∙ sym (start_here c.args.inside c.args.text.now c.args.at Close (sym c.in-Close.ensures)
    (λ k. cc))
