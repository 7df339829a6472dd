use Rattle.std.proofs.Common.{◌∙◌}
use Rattle.result_cache.proofs.Truths.{pointwise-zip}
use Rattle.result_cache.proofs.compared.all_same.Goals as goal

pub returns-then-a-b : goal.returns-then-a-b
returns-then-a-b g c =
    c.pairs_are_same.ensures ∙ pointwise-zip g.T.Alike.same c.args.a.now c.args.b.now c.if-a-b.true
