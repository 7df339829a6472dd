use Rattle.std.proofs.Common.{◌≡◌, ◌++◌, length}
use Rattle.msb_glob.specs.Parsed.{cleared}
use denote.Shadow.{shadow}
use denote.Text.{Utf8}
use Rattle.msb_glob.proofs.reading.normalize_escapes.Given as goal

abbrev pub invariant-loop-part : goal.invariant-loop-part
invariant-loop-part l = record {
  is_text : shadow (Utf8 l.rest);
  so_far : l.whole ++ cleared l.rest
      ≡ cleared l.fn.text;
}

abbrev pub decreases-loop-part : goal.decreases-loop-part
decreases-loop-part l = length l.rest
