use Rattle.std.proofs.Common.{ap, sym, ◌∙◌}
use Rattle.std.proofs.lemmas.Result.{err_from_is_err_and}
use Rattle.msb_words.specs.Values.{global_of}
use Rattle.msb_words.proofs.Turns.{passed_on, global_stops}
use Rattle.msb_words.proofs.globals.each_global.Goals as goal

pub returns-in_err-name : goal.returns-in_err-name
returns-in_err-name c =
    let p = err_from_is_err_and c.from_residual.result c.from_residual.ensures.1 in
    rw (p.1, p.2)
    (passed_on _ (global_of c.as_str.result.now) _
    (λ none. global_stops c.args.entries.now c.loop-entry.entry-index c.entry-item.result
    c.loop-entry.globals _ c.loop-entry.invariant c.loop-entry-test.true c.entry-item.is
    (ap global_of (sym c.as_str.ensures) ∙ none))
    c.in_err-name.ensures)
