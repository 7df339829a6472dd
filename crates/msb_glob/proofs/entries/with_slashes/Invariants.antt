use Rattle.std.proofs.Common.{◌≡◌, ◌++◌, length}
use Rattle.msb_glob.specs.Parsed.{with_slashes}
use denote.Shadow.{shadow}
use denote.Text.{Utf8}
use Rattle.msb_glob.proofs.entries.with_slashes.Given as goal

abbrev pub invariant-loop-part : goal.invariant-loop-part
invariant-loop-part l = record {
  is_text : shadow (Utf8 l.rest);
  so_far : l.whole ++ with_slashes l.rest
      ≡ with_slashes l.fn.text;
}

abbrev pub decreases-loop-part : goal.decreases-loop-part
decreases-loop-part l = length l.rest
