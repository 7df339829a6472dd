use Rattle.std.proofs.Common.{◌+◌, ◌-◌, ◌++◌, [], ◌∷◌, ap, sym, ◌∙◌, append_assoc}
use Rattle.trial_set.specs.Sets.{numbers_from}
use Rattle.trial_set.proofs.Counting.{numbers_from-step}
use Rattle.trial_set.proofs.sets.numbers.Goals as goal

pub loop-number-preserved : goal.loop-number-preserved
loop-number-preserved c =
    let n = c.loop-number.number in
    let rest = numbers_from (c.args.size + 1 - (n + 1)) (n + 1) in
    let old = c.loop-number.numbers.items in
    ap (λ ns. ns ++ rest) c.in_ok-push.ensures.items
    ∙ append_assoc old (n ∷ []) rest
    ∙ sym (ap (λ ns. old ++ ns) (numbers_from-step (c.args.size + 1) n c.loop-number-test.true))
    ∙ c.loop-number.invariant
