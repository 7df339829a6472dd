use Rattle.std.proofs.Common.{sym, ◌∙◌, drop}
use Rattle.msb_expression.specs.declared.starts.Start.TheVariants.{Stop}
use Rattle.msb_expression.proofs.PlainPlaces.{start_is}
use Rattle.msb_expression.proofs.StepPlaces.{quote_at}
use Rattle.msb_expression.proofs.pieces.pieces.Goals as goal

pub piece-requires-clause-no_stop : goal.piece-requires-clause-no_stop
piece-requires-clause-no_stop c = λ e.
    c.requires.not_loose (start_is c.args.inside (drop c.loop-pieces.next c.args.text.now) Stop e).3

pub returns-in-Quote-clause-leads : goal.returns-in-Quote-clause-leads
returns-in-Quote-clause-leads c = λ place e.
    c.loop-pieces.invariant.goes place e
    ∙ quote_at place c.loop-pieces.pieces c.args.inside c.args.text.now c.loop-pieces.next e
    (sym c.in-Quote.ensures)
