use Rattle.std.proofs.Common.{◌∙◌}
use Rattle.result_cache.specs.SameRecords.{same_act}
use Rattle.result_cache.proofs.Truths.{pointwise-zip}
use Rattle.msb_outcomes.proofs.trial.are_same.Goals as goal

pub returns-then-one-other : goal.returns-then-one-other
returns-then-one-other c =
    c.pairs_are_same.ensures
    ∙ pointwise-zip same_act c.args.one.now c.args.other.now c.if-one-other.true
