use Rattle.std.proofs.Common.{◌≡◌, ◌-◌, ◌≤◌, ℕ, false, List, [], length, drop}
use Rattle.std.specs.Str.{IsCharBoundary}
use Rattle.msb_expression.specs.Machine.{
  CallHeads,
  run,
  call_arg_wanted,
  arguments_of,
  with_all_args,
  is_behind_spaces,
}
use Rattle.msb_expression.proofs.calls.some_args.Given as goal

abbrev pub invariant-loop-args : goal.invariant-loop-args
invariant-loop-args l = record {
  after : l.at ≤ l.next;
  within : l.next ≤ length l.text;
  cut : IsCharBoundary l.text l.next;
  wanted : l.args ≡ [] → is_behind_spaces 41 (drop l.next l.text) ≡ false;
  goes : (heads : CallHeads) (function : List ℕ)
      → run (drop l.at l.text) (call_arg_wanted (arguments_of heads function) false)
      ≡ run (drop l.next l.text) (call_arg_wanted (with_all_args heads function l.args) false);
}

abbrev pub decreases-loop-args : goal.decreases-loop-args
decreases-loop-args l = length l.text - l.next
