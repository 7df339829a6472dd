use Rattle.std.proofs.Common.{◌∙◌, sym, ap, drop}
use Rattle.msb_expression.specs.Grammar.{trimmed_pieces}
use Rattle.msb_expression.specs.Machine.{call_arg_ended, with_arg, run}
use Rattle.msb_expression.proofs.loose.loose.Goals as goal

pub returns-clause-leads : goal.returns-clause-leads
returns-clause-leads c = λ a.
    c.in_ok-pieces.ensures.leads a
    ∙ ap (λ ps. run (drop c.in_ok-pieces.end c.args.text.now) (call_arg_ended (with_arg a ps)))
    (sym (c.in_ok-trim_pieces.ensures ∙ ap trimmed_pieces c.as_slice.ensures))
