use Rattle.std.proofs.Common.{◌≡◌, [], IsSome, Some, ap, sym, ◌∙◌, subst}
use Rattle.std.proofs.lemmas.Result.{IfOk-weaker}
use Rattle.result_cache.specs.Replay.{replay_all}
use Rattle.build_outcome.proofs.replay.replay_runs.Goals as goal

pub take_runs-requires : goal.take_runs-requires
take_runs-requires c =
    subst (λ j. IsSome (replay_all c.args.table.now.finished c.args.runs.now j))
    (sym c.in_ok-journal.ensures) c.requires

pub returns : goal.returns
returns c =
    let replayed = replay_all c.args.table.now.finished c.args.runs.now in
    let taken = ap replayed (sym c.in_ok-journal.ensures) ∙ c.in_ok-take_runs.ensures in
    IfOk-weaker c.settle.result _ (λ journal. replayed [] ≡ Some journal)
    (λ journal is. taken ∙ ap Some (sym is)) c.settle.ensures
