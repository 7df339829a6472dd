use Rattle.std.proofs.Common.{rules}
use Rattle.msb_expand.proofs.Refusing.{too_many}
use Rattle.msb_expand.proofs.functions.call.Goals as goal

-- a function takes at most two arguments
pub returns : goal.returns
returns c =
    rw (too_many c.args.project.now c.args.name.now _ c.args.args.now _ c.in_default.len_at_least)
    (search rules)
