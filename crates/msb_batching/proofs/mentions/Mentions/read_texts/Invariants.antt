use Rattle.std.proofs.Common.{◌≡◌, map, drop}
use Rattle.msb_batching.specs.Growing.{spoken_of, with_texts}
use Rattle.msb_batching.proofs.mentions.Mentions.read_texts.Given as goal

abbrev pub invariant-loop-text : goal.invariant-loop-text
invariant-loop-text l = with_texts (spoken_of l.self)
    (map (λ text. text.now) (drop l.text-index l.texts))
    ≡ with_texts (spoken_of l.fn.self) (map (λ text. text.now) l.texts)
