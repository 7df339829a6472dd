use Rattle.std.proofs.Common.{IsSome, ◌∙◌, ap, sym, subst}
use Rattle.result_cache.specs.Replay.{replay_all}
use Rattle.request_machine.proofs.RunsReplayed.{result_defined, result_step}
use Rattle.request_machine.proofs.replayed.take_results.Goals as goal

pub take_runs-requires : goal.take_runs-requires
take_runs-requires c =
    let table = c.args.learnt.now.finished in
    let journal = c.loop-result.journal in
    subst (λ runs. IsSome (replay_all table runs journal)) (sym c.as_slice.ensures)
    (result_defined table c.args.results.now c.loop-result.result-index c.result-item.result
    c.loop-result-test.true c.result-item.is journal
    (subst (λ o. IsSome o) (sym c.loop-result.invariant) c.requires))

pub loop-result-preserved : goal.loop-result-preserved
loop-result-preserved c =
    let table = c.args.learnt.now.finished in
    let journal = c.loop-result.journal in
    let after = c.take_runs.new.self in
    result_step table c.args.results.now c.loop-result.result-index c.result-item.result
    c.loop-result-test.true c.result-item.is journal after
    (ap (λ runs. replay_all table runs journal) (sym c.as_slice.ensures)
    ∙ c.in_ok-take_runs.ensures)
    ∙ c.loop-result.invariant
