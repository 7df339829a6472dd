use Rattle.std.proofs.Common.{◌≡◌, ◌+◌, ◌≤◌, List, length, drop, codes}
use Rattle.msb_expression.specs.declared.expression.Part.{Part}
use Rattle.msb_expression.specs.Machine.{run, property_opened, build_begun}
use Rattle.msb_expression.proofs.calls.build_end.Given as goal

-- the byte `[` is read by the first turn, and each further one by the next
abbrev pub invariant-loop-expected : goal.invariant-loop-expected
invariant-loop-expected l = record {
  at : l.end ≡ l.at + l.expected-index;
  within : l.end ≤ length l.text;
  goes : (parts : List Part) → run (drop l.at l.text) (property_opened parts)
      ≡ run (drop l.end l.text) (build_begun parts (drop l.expected-index (codes "[msbuild]::")));
}
