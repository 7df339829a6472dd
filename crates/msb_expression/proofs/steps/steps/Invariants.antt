use Rattle.std.proofs.Common.{◌≡◌, ◌-◌, ◌≤◌, length, drop}
use Rattle.msb_expression.specs.declared.sorts.Sort.TheVariants.{Space}
use Rattle.msb_expression.specs.Machine.{Heads, run, stepping, with_steps, first_sort}
use Rattle.msb_expression.proofs.steps.steps.Given as goal

abbrev pub invariant-loop-steps : goal.invariant-loop-steps
invariant-loop-steps l = record {
  after : l.at ≤ l.next;
  within : l.next ≤ length l.text;
  no_space : first_sort (drop l.next l.text) ≡ Space → ⊥;
  goes : (heads : Heads) → run (drop l.at l.text) (stepping heads)
      ≡ run (drop l.next l.text) (stepping (with_steps heads l.steps));
}

abbrev pub decreases-loop-steps : goal.decreases-loop-steps
decreases-loop-steps l = length l.text - l.next
