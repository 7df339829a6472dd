use Rattle.std.proofs.Common.{◌≡◌, [], IsSome, IfSome, Some, ap, sym, ◌∙◌, subst}
use Rattle.std.proofs.lemmas.Result.{IfOk-weaker}
use Rattle.result_cache.specs.Replay.{replay_all}
use Rattle.result_cache.specs.Table.{TableRuns}
use Rattle.build_outcome.specs.Outcomes.{built, IsOutcomeAt}
use Rattle.build_outcome.proofs.RootOver.{root-replays, root-outcome}
use Rattle.build_outcome.proofs.outcome.Outcome.of.Goals as goal

pub of_root-requires : goal.of_root-requires
of_root-requires g c =
    let m = g.W.Walker in
    let core = c.args.core.now in
    subst (λ (t : TableRuns). IsSome (replay_all t.finished c.in-Some-Root.root.runs []))
    (sym c.table.ensures.table) (root-replays m.seen (m.world_of core.world) c.in-Some-Root.root
    core.legal (ap Some (sym c.in-Some-Root.field-0-is) ∙ c.in-Some-Root.ensures.end)
    c.end.ensures.told)

pub returns-in-Some-Root-clause-outcome : goal.returns-in-Some-Root-clause-outcome
returns-in-Some-Root-clause-outcome g c =
    let m = g.W.Walker in
    let core = c.args.core.now in
    let root = c.in-Some-Root.root in
    IfOk-weaker c.of_root.result (λ outcome. IfSome (replay_all c.table.result.now.finished
    root.runs []) (λ journal. outcome ≡ built c.args.low root journal)) (λ outcome. ∥ IsOutcomeAt
    (m.world_of core.world) c.args.low core.history.events core.end outcome ∥₁)
    (λ outcome h. root-outcome m.seen (m.world_of core.world) root c.args.low outcome core.legal
    (ap Some (sym c.in-Some-Root.field-0-is) ∙ c.in-Some-Root.ensures.end) c.end.ensures.told
    (subst (λ (t : TableRuns). IfSome (replay_all t.finished root.runs []) (λ journal. outcome
    ≡ built c.args.low root journal)) c.table.ensures.table h)) c.of_root.ensures.outcome
