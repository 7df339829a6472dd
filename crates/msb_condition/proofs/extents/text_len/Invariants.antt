use Rattle.std.proofs.Common.{◌≡◌, ◌+◌, ◌≤◌, drop}
use Rattle.msb_condition.specs.declared.extents.Inside.TheVariants.{Text}
use Rattle.msb_condition.specs.Extents.{text_len, depth_of}
use Rattle.msb_condition.proofs.extents.text_len.Given as goal

abbrev pub invariant-loop-at : goal.invariant-loop-at
invariant-loop-at l = record {
  counted : text_len Text l.text ≡ l.at + text_len l.inside (drop l.at l.text);
  shallow : depth_of l.inside ≤ l.at;
}
