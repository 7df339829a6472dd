use Rattle.std.proofs.Common.{◌≡◌, option_copied, drop}
use Rattle.msb_expand.specs.Tokens.{value_in}
use Rattle.msb_expand.proofs.batched.value_in.Given as goal

abbrev pub invariant-loop-kind : goal.invariant-loop-kind
invariant-loop-kind l = value_in (option_copied l.qualifier) l.name (drop l.kind-index l.values)
    ≡ value_in (option_copied l.qualifier) l.name l.values
