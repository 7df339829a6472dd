use Rattle.std.proofs.Common.{string_bytes}
use Rattle.msb_values.proofs.Escaping.{read_escape}
use Rattle.msb_values.proofs.escapes.push_unescaped.Goals as goal

pub returns-in_ok-push-in-Some-clause-read : goal.returns-in_ok-push-in-Some-clause-read
returns-in_ok-push-in-Some-clause-read c =
    read_escape (string_bytes c.args.plain.now) (string_bytes c.push.new.self) c.args.after.now
    c.in-Some.rest.now c.in-Some.character
    c.in-Some.ensures.0 c.in-Some.ensures.1 c.in_ok-push-in-Some.ensures.bytes
