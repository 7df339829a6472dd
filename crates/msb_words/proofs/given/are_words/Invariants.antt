use Rattle.std.proofs.Common.{◌≡◌, drop, map}
use Rattle.std.specs.Prelude.{string_bytes}
use Rattle.std.specs.List.{list_all}
use Rattle.msb_words.specs.Words.{is_word}
use Rattle.msb_words.proofs.given.are_words.Given as goal

abbrev pub invariant-loop-word : goal.invariant-loop-word
invariant-loop-word l =
    list_all is_word (map string_bytes (drop l.word-index l.words))
    ≡ list_all is_word (map string_bytes l.words)
