use Rattle.std.proofs.Common.{◌≡◌, None, ap, sym, ◌∙◌}
use Rattle.result_cache.specs.Kept.{KeptRuns, all_of}
use Rattle.result_cache.specs.Table.{found}
use Rattle.result_cache.proofs.RunLists.{found-here, found-later}
use Rattle.result_cache.proofs.finished.Finished.find.Goals as goal

pub returns-in-Some : goal.returns-in-Some
returns-in-Some c =
    let run = c.args.run.now in
    sym (ap (λ (v : KeptRuns). found v.records run) (sym c.self.view_is)
    ∙ found-here (all_of c.self.inside.layers) c.self.inside.recent.items run c.in-Some.made.now
    (sym (c.in-Some.ensures ∙ ap (λ l. found (all_of l) run) c.as_slice.ensures)))

pub returns-in-None : goal.returns-in-None
returns-in-None c =
    let run = c.args.run.now in
    let none : found (all_of c.self.inside.layers) run ≡ None =
    sym (c.in-None.ensures ∙ ap (λ l. found (all_of l) run) c.as_slice.ensures) in
    c.find_recent.ensures
    ∙ (ap (λ l. found l run) c.deref.ensures.value
    ∙ (sym (found-later (all_of c.self.inside.layers) c.self.inside.recent.items run none)
    ∙ ap (λ (v : KeptRuns). found v.records run) c.self.view_is))
