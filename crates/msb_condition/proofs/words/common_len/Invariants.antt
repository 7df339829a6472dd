use Rattle.std.proofs.Common.{◌≡◌, ◌+◌, ◌-◌, ◌≤◌, length, drop}
use Rattle.std.specs.List.{common_prefix_len}
use Rattle.std.specs.Char.{eq_ignore_ascii_case}
use Rattle.msb_condition.proofs.words.common_len.Given as goal

abbrev pub invariant-loop-len : goal.invariant-loop-len
invariant-loop-len l = record {
  in_word : l.len ≤ length l.word;
  in_other : l.len ≤ length l.other;
  counted : common_prefix_len eq_ignore_ascii_case l.word l.other
      ≡ l.len + common_prefix_len eq_ignore_ascii_case (drop l.len l.word) (drop l.len l.other);
}

abbrev pub decreases-loop-len : goal.decreases-loop-len
decreases-loop-len l = length l.word - l.len
