use Rattle.std.proofs.Common.{◌∙◌, ap}
use Rattle.std.specs.List.{list_any}
use Rattle.msb_items.specs.RepeatKeys.{same_key}
use Rattle.msb_items.proofs.repeats.without_repeats.Goals as goal

pub returns : goal.returns
returns c = c.new_items.ensures c.args.there.now
    (λ key. c.in_ok-keys.ensures key ∙ ap (list_any (λ one. same_key one key))
    c.in_ok-keys_of.ensures)
