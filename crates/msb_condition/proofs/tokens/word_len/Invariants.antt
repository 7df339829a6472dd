use Rattle.std.proofs.Common.{◌≡◌, ◌+◌, drop}
use Rattle.std.specs.List.{prefix_len}
use Rattle.msb_condition.specs.Tokens.{is_word_byte}
use Rattle.msb_condition.proofs.tokens.word_len.Given as goal

abbrev pub invariant-loop-at : goal.invariant-loop-at
invariant-loop-at l = prefix_len is_word_byte l.text
    ≡ l.at + prefix_len is_word_byte (drop l.at l.text)
