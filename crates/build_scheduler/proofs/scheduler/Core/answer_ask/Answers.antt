use Rattle.std.proofs.Common.{◌∙◌}
use Rattle.std.proofs.Math.Logic.{∥∥₁_map}
use Rattle.build_scheduler.proofs.scheduler.Core.answer_ask.Goals as goal

pub result-requires-clause-asks : goal.result-requires-clause-asks
result-requires-clause-asks g c =
    ∥∥₁_map c.requires.own
    (λ o.
    record {
      position = (g.W.Walker.seen c.args.walk).position;
      stands = o.stands;
      asks = c.requires.asks ∙ c.in-Finished.is;
    })
