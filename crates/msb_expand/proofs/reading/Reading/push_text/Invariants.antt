use Rattle.std.proofs.Common.{◌≡◌, ◌==◌, length}
use Rattle.std.specs.Str.{IsUtf8}
use Rattle.std.specs.List.{slice_split}
use Rattle.msb_expand.specs.Entries.{reading_of}
use Rattle.msb_expand.specs.Values.{with_pieces}
use Rattle.msb_expand.proofs.reading.Reading.push_text.Given as goal

abbrev pub invariant-loop-piece : goal.invariant-loop-piece
invariant-loop-piece l = record {
  utf8 : IsUtf8 l.rest;
  so_far : with_pieces (reading_of l.self) (slice_split (λ b. b == 59) l.rest)
      ≡ with_pieces (reading_of l.initial.self) (slice_split (λ b. b == 59) l.text);
}

abbrev pub decreases-loop-piece : goal.decreases-loop-piece
decreases-loop-piece l = length l.rest
