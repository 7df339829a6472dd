use Rattle.std.proofs.Common.{◌≡◌, drop}
use Rattle.msb_batching.specs.References.{unqualified}
use Rattle.msb_batching.proofs.mentions.first_unqualified.Given as goal

abbrev pub invariant-loop-reference : goal.invariant-loop-reference
invariant-loop-reference l = unqualified (drop l.reference-index l.references)
    ≡ unqualified l.references
