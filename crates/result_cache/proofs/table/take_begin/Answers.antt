use Rattle.std.proofs.Common.{Some, ap, sym, ◌∙◌}
use Rattle.result_cache.proofs.table.take_begin.Goals as goal

pub returns-clause-taken : goal.returns-clause-taken
returns-clause-taken c =
    let run = c.pair_mut-begin.result.0.now in (
      run,
      c.pair_mut-begin.ensures.value ∙ ap (λ o. Some (run, o)) (sym c.replace.ensures.value),
    )
