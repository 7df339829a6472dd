use Rattle.std.proofs.Common.{sym, ap, ◌∙◌, ◌++◌, string_bytes}
use Rattle.msb_values.proofs.Escaping.{escaped_same}
use Rattle.msb_values.proofs.escapes.push_escaped.Goals as goal

pub returns-in_ok-push-in-None : goal.returns-in_ok-push-in-None
returns-in_ok-push-in-None c =
    c.in_ok-push-in-None.ensures.bytes
    ∙ ap (λ t. string_bytes c.args.written.now ++ t)
    (sym (escaped_same c.args.character c.in-None.ensures))
