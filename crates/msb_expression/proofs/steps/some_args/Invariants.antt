use Rattle.std.proofs.Common.{◌≡◌, ◌-◌, ◌≤◌, ℕ, List, [], length, drop}
use Rattle.std.specs.Str.{IsCharBoundary}
use Rattle.msb_expression.specs.Machine.{Heads, run, in_text, inner, in_argument, unmarked}
use Rattle.msb_expression.proofs.steps.some_args.Given as goal

abbrev pub invariant-loop-args : goal.invariant-loop-args
invariant-loop-args l = record {
  after : l.at ≤ l.next;
  within : l.next ≤ length l.text;
  cut : IsCharBoundary l.text l.next;
  goes : (heads : Heads) (function : List ℕ)
      → run (drop l.at l.text) (in_text (inner (in_argument heads function []) []) [] unmarked)
      ≡ run (drop l.next l.text)
      (in_text (inner (in_argument heads function l.args) []) [] unmarked);
}

abbrev pub decreases-loop-args : goal.decreases-loop-args
decreases-loop-args l = length l.text - l.next
