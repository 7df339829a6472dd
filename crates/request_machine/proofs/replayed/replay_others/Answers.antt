use Rattle.std.proofs.Common.{◌≡◌, IsSome, Some, sym, ◌∙◌, subst}
use Rattle.std.proofs.lemmas.Result.{IfOk-weaker}
use Rattle.build_meaning.specs.SoFar.{runs_of}
use Rattle.result_cache.specs.Replay.{replay_all}
use Rattle.request_machine.proofs.RunsReplayed.{rest_replayed}
use Rattle.request_machine.proofs.replayed.replay_others.Goals as goal

pub with_results-requires-then-branch : goal.with_results-requires-then-branch
with_results-requires-then-branch c =
    subst IsSome (rest_replayed c.args.learnt.now.finished c.args.results.now c.in-Some.first.now
    c.args.replayed.now.runs c.args.journal.now c.args.replayed.now.journal c.in-Some.ensures.value
    (sym c.in_ok-are_of-in-Some.ensures ∙ c.if-branch.true) c.requires.known) c.requires.replays

pub returns-then-branch : goal.returns-then-branch
returns-then-branch c =
    let table = c.args.learnt.now.finished in
    let all = rest_replayed table c.args.results.now c.in-Some.first.now
    c.args.replayed.now.runs c.args.journal.now c.args.replayed.now.journal c.in-Some.ensures.value
    (sym c.in_ok-are_of-in-Some.ensures ∙ c.if-branch.true) c.requires.known in
    IfOk-weaker c.with_results-then-branch.result _
    (λ after. replay_all table (runs_of c.args.results.now) c.args.journal.now ≡ Some after)
    (λ after so. all ∙ so) c.with_results-then-branch.ensures
