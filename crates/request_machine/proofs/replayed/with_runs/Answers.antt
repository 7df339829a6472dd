use Rattle.std.proofs.Common.{◌≡◌, IsSome, Some, sym, ap, ◌∙◌, subst}
use Rattle.std.proofs.lemmas.Result.{IfOk-weaker}
use Rattle.result_cache.specs.Replay.{replay_all}
use Rattle.request_machine.proofs.replayed.with_runs.Goals as goal

pub take_runs-requires : goal.take_runs-requires
take_runs-requires c =
    let table = c.args.table.now.finished in
    subst (λ j. IsSome (replay_all table c.args.runs.now j)) (sym c.in_ok-after.ensures) c.requires

pub returns : goal.returns
returns c =
    let replayed = replay_all c.args.table.now.finished c.args.runs.now in
    let taken = ap replayed (sym c.in_ok-after.ensures) ∙ c.in_ok-take_runs.ensures in
    IfOk-weaker c.settle.result _ (λ after. replayed c.args.journal.now ≡ Some after)
    (λ after is. taken ∙ ap Some (sym is)) c.settle.ensures
