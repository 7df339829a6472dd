use Rattle.std.proofs.Common.{drop, subst}
use Rattle.std.proofs.Math.Logic.{∥∥₁_map₂}
use Rattle.build_meaning.specs.History.{AreOfOthers}
use Rattle.build_nodes.proofs.Away.{answered-here, answered-still}
use Rattle.build_nodes.proofs.core_turns.give_back.Goals as goal

pub retire-requires-clause-out : goal.retire-requires-clause-out
retire-requires-clause-out g c =
    let m = g.W.Walker in
    let core = c.args.core.now in
    let a = c.args.answered in
    let others = subst (λ l. AreOfOthers a.id (drop a.number l)) c.history.ensures.events
    (c.are_of_others.ensures c.if-are_of_others.true) in
    ∥∥₁_map₂ core.legal c.requires.answered (λ x k. answered-still m.seen m.earlier c.args.node
    (m.world_of core.world) x a k others)

pub retire-requires-clause-here : goal.retire-requires-clause-here
retire-requires-clause-here g c =
    let m = g.W.Walker in
    let core = c.args.core.now in
    let a = c.args.answered in
    let others = subst (λ l. AreOfOthers a.id (drop a.number l)) c.history.ensures.events
    (c.are_of_others.ensures c.if-are_of_others.true) in
    ∥∥₁_map₂ core.legal c.requires.answered (λ x k. answered-here m.seen m.earlier c.args.node
    (m.world_of core.world) x a k others)
