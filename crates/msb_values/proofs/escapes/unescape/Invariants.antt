use Rattle.std.proofs.Common.{◌≡◌, ◌++◌, length, string_bytes}
use Rattle.std.specs.Str.{IsUtf8}
use Rattle.msb_values.specs.Escapes.{unescaped}
use Rattle.msb_values.proofs.escapes.unescape.Given as goal

abbrev pub invariant-loop-before : goal.invariant-loop-before
invariant-loop-before l = record
    { utf8 : IsUtf8 l.rest; so_far : string_bytes l.plain ++ unescaped l.rest ≡ unescaped l.text }

abbrev pub decreases-loop-before : goal.decreases-loop-before
decreases-loop-before l = length l.rest
