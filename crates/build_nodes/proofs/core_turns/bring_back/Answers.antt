use Rattle.std.proofs.Common.{drop, subst}
use Rattle.std.proofs.Math.Logic.{∥∥₁_elim, ∥∥₁_map₂}
use Rattle.build_meaning.specs.History.{AreOfOthers}
use Rattle.build_nodes.proofs.Away.{asking-back, asking-here, asking-still, ask-prop}
use Rattle.build_nodes.proofs.core_turns.bring_back.Goals as goal

pub go_on-requires-clause-own : goal.go_on-requires-clause-own
go_on-requires-clause-own g c =
    let m = g.W.Walker in
    let core = c.args.core.now in
    let asking = c.args.asking in
    let others = subst (λ l. AreOfOthers asking.id (drop asking.number l)) c.history.ensures.events
    (c.are_of_others.ensures c.if-are_of_others.true) in
    ∥∥₁_map₂ core.legal c.requires.asking (λ x k. asking-still m.seen m.earlier c.args.node
    (m.world_of core.world) x asking k others)

pub go_on-requires-clause-here : goal.go_on-requires-clause-here
go_on-requires-clause-here g c =
    let m = g.W.Walker in
    let core = c.args.core.now in
    let asking = c.args.asking in
    let others = subst (λ l. AreOfOthers asking.id (drop asking.number l)) c.history.ensures.events
    (c.are_of_others.ensures c.if-are_of_others.true) in
    ∥∥₁_map₂ core.legal c.requires.asking (λ x k. asking-here m.seen m.earlier c.args.node
    (m.world_of core.world) x asking k others)

pub go_on-requires-clause-back : goal.go_on-requires-clause-back
go_on-requires-clause-back g c =
    let m = g.W.Walker in
    let core = c.args.core.now in
    let asking = c.args.asking in
    let others = subst (λ l. AreOfOthers asking.id (drop asking.number l)) c.history.ensures.events
    (c.are_of_others.ensures c.if-are_of_others.true) in
    ∥∥₁_map₂ core.legal c.requires.asking (λ x k. asking-back m.seen m.earlier c.args.node
    (m.world_of core.world) x asking k others)

pub go_on-requires-clause-asks : goal.go_on-requires-clause-asks
go_on-requires-clause-asks g c = ∥∥₁_elim c.requires.asking (ask-prop _ _) (λ k. k.asks)
