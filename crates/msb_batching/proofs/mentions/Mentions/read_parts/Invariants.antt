use Rattle.std.proofs.Common.{◌≡◌, drop}
use Rattle.msb_batching.specs.Growing.{spoken_of, with_parts}
use Rattle.msb_batching.proofs.mentions.Mentions.read_parts.Given as goal

abbrev pub invariant-loop-part : goal.invariant-loop-part
invariant-loop-part l = with_parts (spoken_of l.self) (drop l.part-index l.parts)
    ≡ with_parts (spoken_of l.fn.self) l.parts
