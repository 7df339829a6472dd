use Rattle.std.proofs.Common.{◌≡◌, ◌-◌, ◌≤◌, true, length, drop}
use Rattle.msb_expression.specs.declared.sorts.Sort.TheVariants.{Space}
use Rattle.msb_expression.specs.Machine.{
  CallHeads,
  may_be_plain,
  run,
  called,
  with_calls,
  first_sort,
}
use Rattle.msb_expression.proofs.calls.all_calls.Given as goal

abbrev pub invariant-loop-calls : goal.invariant-loop-calls
invariant-loop-calls l = record {
  after : l.at ≤ l.next;
  within : l.next ≤ length l.text;
  no_space : first_sort (drop l.next l.text) ≡ Space → ⊥;
  plain : (heads : CallHeads) → may_be_plain (with_calls heads l.fn.calls) ≡ true
      → may_be_plain (with_calls heads l.calls) ≡ true;
  goes : (heads : CallHeads) → may_be_plain (with_calls heads l.fn.calls) ≡ true
      → run (drop l.at l.text) (called (with_calls heads l.fn.calls))
      ≡ run (drop l.next l.text) (called (with_calls heads l.calls));
}

abbrev pub decreases-loop-calls : goal.decreases-loop-calls
decreases-loop-calls l = length l.text - l.next
