use Rattle.std.proofs.Common.{◌≡◌, ◌++◌, length}
use Rattle.std.specs.Str.{IsUtf8}
use Rattle.std.specs.List.{flat_map}
use Rattle.msb_expand.specs.Values.{uncut_byte}
use Rattle.msb_expand.proofs.whole.escape_semicolons.Given as goal

abbrev pub invariant-loop-before : goal.invariant-loop-before
invariant-loop-before l = record {
  utf8 : IsUtf8 l.rest;
  so_far : l.written ++ flat_map uncut_byte l.rest
      ≡ flat_map uncut_byte l.text;
}

abbrev pub decreases-loop-before : goal.decreases-loop-before
decreases-loop-before l = length l.rest
