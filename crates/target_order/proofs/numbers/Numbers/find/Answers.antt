use Rattle.std.proofs.Common.{◌∙◌, ap}
use Rattle.target_order.specs.Progress.{number_of}
use Rattle.target_order.proofs.Names.{number_within}
use Rattle.target_order.proofs.numbers.Numbers.find.Goals as goal

pub returns-clause-within : goal.returns-clause-within
returns-clause-within c =
    let found = c.copied.ensures
    ∙ (c.get.ensures.value
    ∙ (c.self.invariant.finds c.args.name.now
    ∙ ap (λ names. number_of names c.args.name.now) c.self.view_is)) in
    number_within c.args.self.now c.args.name.now c.copied.result found
