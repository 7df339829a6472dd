use Rattle.std.proofs.Common.{drop, subst}
use Rattle.build_meaning.specs.History.{AreOfOthers}
use Rattle.engine_tests.proofs.Others.{still-own}
use Rattle.engine_tests.proofs.any_order.bring_back.Goals as goal

pub answer_ask-requires-clause-own : goal.answer_ask-requires-clause-own
answer_ask-requires-clause-own g c =
    let m = g.W.Walker in
    let core = c.args.core.now in
    let asking = c.args.asking in
    let others = subst (λ events. AreOfOthers asking.id (drop asking.number events))
    c.history.ensures.events (c.are_of_others.ensures c.if-are_of_others.true) in
    still-own (m.world_of core.world) core.legal asking.id asking.number (m.seen asking.walk)
    asking.ask c.requires.asking others
