use Rattle.std.proofs.Common.{[], sym}
use Rattle.std.proofs.lemmas.List.{append-nil}
use Rattle.engine_tests.proofs.any_order.assign_least.Goals as goal

pub returns-in-None-clause-continues : goal.returns-in-None-clause-continues
returns-in-None-clause-continues g c =
    ∣ ([], sym (append-nil c.args.core.now.history.events)) ∣₁
