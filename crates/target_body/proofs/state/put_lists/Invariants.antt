use Rattle.std.proofs.Common.{◌≡◌}
use Rattle.msb_values.specs.Pairs.{all_put}
use Rattle.target_body.proofs.state.put_lists.Given as goal

abbrev pub invariant-loop-kind : goal.invariant-loop-kind
invariant-loop-kind l = all_put l.lists l.kind-iterator ≡ all_put l.initial.lists l.more
