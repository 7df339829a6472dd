use Rattle.std.proofs.Common.{◌≡◌, false, drop}
use Rattle.msb_glob.specs.Parsed.{doubles_star}
use Rattle.msb_glob.proofs.reading.doubles_star.Given as goal

abbrev pub invariant-loop-byte : goal.invariant-loop-byte
invariant-loop-byte l = doubles_star l.before (drop l.byte-index l.byte-items)
    ≡ doubles_star false l.segment
