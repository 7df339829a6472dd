use Rattle.std.proofs.Common.{◌≡◌, ◌+◌, drop}
use Rattle.std.specs.List.{position_or_len}
use Rattle.msb_condition.specs.Numbers.{is_point}
use Rattle.msb_condition.proofs.numbers.point_at.Given as goal

abbrev pub invariant-loop-at : goal.invariant-loop-at
invariant-loop-at l = position_or_len is_point l.text
    ≡ l.at + position_or_len is_point (drop l.at l.text)
