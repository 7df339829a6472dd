use Rattle.std.proofs.Common.{◌≡◌, string_bytes}
use Rattle.std.specs.Str.{encode_utf8_all}
use Rattle.msb_values.specs.Escapes.{escaped}
use Rattle.msb_values.proofs.escapes.escape.Given as goal

abbrev pub invariant-loop-character : goal.invariant-loop-character
invariant-loop-character l = string_bytes l.written ≡ escaped (encode_utf8_all l.yielded)
