use Rattle.std.proofs.Common.{Some, ap, sym, ◌∙◌, slice_get, reverse}
use Rattle.std.proofs.lemmas.List.{reverse-reverse}
use Rattle.result_cache.specs.Table.{TableRuns}
use Rattle.result_cache.proofs.table.Table.finished_at.Goals as goal

pub returns-in-Some : goal.returns-in-Some
returns-in-Some c =
    ap (λ r. Some (record { run = r; made = c.in-Some.made.now })) c.get.ensures
    ∙ (c.in-Some.ensures
    ∙ (ap (λ l. slice_get l c.args.at) (sym (reverse-reverse c.self.inside.finished.records))
    ∙ ap (λ (t : TableRuns). slice_get (reverse t.finished) c.args.at) c.self.view_is))

pub returns-in-None : goal.returns-in-None
returns-in-None c =
    c.in-None.ensures
    ∙ (ap (λ l. slice_get l c.args.at) (sym (reverse-reverse c.self.inside.finished.records))
    ∙ ap (λ (t : TableRuns). slice_get (reverse t.finished) c.args.at) c.self.view_is)
