use Rattle.std.proofs.Common.{◌≡◌, ◌+◌, ◌≤◌, drop}
use Rattle.msb_condition.specs.declared.extents.Inside.TheVariants.{Reference}
use Rattle.msb_condition.specs.Extents.{reference_len, depth_of}
use Rattle.msb_condition.proofs.extents.reference_len.Given as goal

abbrev pub invariant-loop-at : goal.invariant-loop-at
invariant-loop-at l = record {
  counted : reference_len (Reference 0) l.text ≡ l.at + reference_len l.inside (drop l.at l.text);
  shallow : depth_of l.inside ≤ l.at;
}
