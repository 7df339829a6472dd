use Rattle.std.proofs.Common.{◌∙◌, ap, map, option_copied, option_to_list}
use Rattle.msb_batching.specs.Growing.{with_named, with_texts}
use Rattle.msb_batching.proofs.Spoken.{spoken_is}
use Rattle.msb_batching.proofs.mentions.Mentions.of.Goals as goal

pub returns : goal.returns
returns c =
    c.in_ok-add_own.ensures
    ∙ ap (λ s. with_named s (option_to_list (option_copied c.args.own)))
    (c.in_ok-read_texts.ensures ∙ ap (λ s. with_texts s (map (λ text. text.now) c.args.texts.now))
    c.new-mentions.ensures)
    ∙ spoken_is (map (λ text. text.now) c.args.texts.now) (option_copied c.args.own)
