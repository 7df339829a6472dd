use Rattle.std.proofs.Common.{◌≡◌, ◌++◌, map, drop}
use Rattle.msb_items.specs.ReadTexts.{exprs_in}
use Rattle.msb_items.proofs.batched.expressions.Given as goal

abbrev pub invariant-loop-text : goal.invariant-loop-text
invariant-loop-text l = map (λ text. text.now) l.texts.items ++ exprs_in (drop l.text-index l.read)
    ≡ exprs_in l.read
