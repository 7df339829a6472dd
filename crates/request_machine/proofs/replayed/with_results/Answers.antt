use Rattle.std.proofs.Common.{◌≡◌, IsSome, Some, sym, ap, ◌∙◌, subst}
use Rattle.std.proofs.lemmas.Result.{IfOk-weaker}
use Rattle.build_meaning.specs.SoFar.{runs_of}
use Rattle.result_cache.specs.Replay.{replay_all}
use Rattle.request_machine.proofs.replayed.with_results.Goals as goal

pub take_results-requires : goal.take_results-requires
take_results-requires c =
    let table = c.args.learnt.now.finished in
    subst (λ j. IsSome (replay_all table (runs_of c.args.results.now) j))
    (sym c.in_ok-after.ensures) c.requires

pub returns : goal.returns
returns c =
    let table = c.args.learnt.now.finished in
    let replayed = replay_all table (runs_of c.args.results.now) in
    let taken = ap replayed (sym c.in_ok-after.ensures) ∙ c.in_ok-take_results.ensures in
    IfOk-weaker c.settle.result _ (λ after. replayed c.args.journal.now ≡ Some after)
    (λ after is. taken ∙ ap Some (sym is)) c.settle.ensures
