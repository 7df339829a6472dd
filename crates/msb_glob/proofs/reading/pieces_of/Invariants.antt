use Rattle.std.proofs.Common.{◌≡◌, ◌++◌, length}
use Rattle.msb_glob.specs.Parsed.{pieces_of}
use denote.Shadow.{shadow}
use denote.Text.{Utf8}
use Rattle.msb_glob.proofs.reading.pieces_of.Given as goal

abbrev pub invariant-loop-part : goal.invariant-loop-part
invariant-loop-part l = record {
  is_text : shadow (Utf8 l.rest);
  so_far : l.pieces ++ pieces_of l.rest
      ≡ pieces_of l.fn.segment;
}

abbrev pub decreases-loop-part : goal.decreases-loop-part
decreases-loop-part l = length l.rest
