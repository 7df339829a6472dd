use Rattle.std.proofs.Common.{◌<◌, [], ◌∷◌, ◌++◌, ap, sym, subst, ◌∙◌, arith, append_assoc}
use Rattle.result_cache.specs.Kept.{KeptRuns, runs_of, all_of}
use Rattle.result_cache.specs.Same.{AreDistinct}
use Rattle.result_cache.specs.Table.{FinishedRun}
use Rattle.result_cache.proofs.LayerSteps.{counted_next}
use Rattle.result_cache.proofs.finished.Finished.push.Goals as goal

pub invariant_of-self : goal.invariant_of-self
invariant_of-self c =
    let v = c.self.invariant in
    let countable = v.countable in
    let roomy = v.roomy in
    let f : FinishedRun = record { run = c.args.run; made = c.args.made } in
    let some : 0 < c.self.inside.room =
    subst (λ (v : KeptRuns). 0 < v.room) (sym c.self.view_is) c.requires.room in
    record {
      counted =
          counted_next (all_of c.self.inside.layers) c.self.inside.recent.items
          c.push.new.self.items f c.self.inside.count v.counted c.in-Ok.ensures.items;
      countable = omega arith;
      roomy = omega (arith, c.in-Ok.ensures.len, c.in-Ok.ensures.capacity);
    }

pub settle-requires : goal.settle-requires
settle-requires c =
    let f : FinishedRun = record { run = c.args.run; made = c.args.made } in
    subst (λ l. AreDistinct (runs_of l))
    (ap (λ (v : KeptRuns). v.records ++ f ∷ []) (sym c.self.view_is)
    ∙ (append_assoc (all_of c.self.inside.layers) c.self.inside.recent.items (f ∷ [])
    ∙ ap (λ l. all_of c.self.inside.layers ++ l) (sym c.in-Ok.ensures.items)))
    c.requires.distinct
