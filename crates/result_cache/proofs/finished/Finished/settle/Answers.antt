use Rattle.std.proofs.Common.{◌++◌, ap, sym, subst, ◌∙◌, length, arith}
use Rattle.std.proofs.lemmas.List.{append-nil}
use Rattle.result_cache.specs.Kept.{KeptRuns, runs_of, all_of}
use Rattle.result_cache.specs.Same.{AreDistinct}
use Rattle.result_cache.proofs.finished.Finished.settle.Goals as goal

pub with_layer_of-requires : goal.with_layer_of-requires
with_layer_of-requires c =
    subst (λ l. AreDistinct (runs_of l))
    (ap (λ (v : KeptRuns). v.records) (sym c.self.view_is)
    ∙ sym (λ j. all_of (c.as_slice.ensures j) ++ c.deref.ensures.value j)) c.requires

pub invariant_of-self : goal.invariant_of-self
invariant_of-self c =
    let v = c.self.invariant in
    let roomy = v.roomy in
    let all = c.in_ok-self-inside.field-0 in
    record {
      counted =
          v.counted ∙ ap length (sym (ap (λ l. all_of all ++ l) c.clear.ensures.items
          ∙ (append-nil (all_of all) ∙ (c.in_ok-self-inside.ensures
          ∙ (λ j. all_of (c.as_slice.ensures j) ++ c.deref.ensures.value j)))));
      countable = v.countable;
      roomy = omega (arith, c.clear.ensures.len, c.clear.ensures.capacity);
    }
