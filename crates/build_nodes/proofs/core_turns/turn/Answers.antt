use Rattle.std.proofs.Common.{drop, sym, ap, ◌∙◌}
use Rattle.std.specs.List.{list_any}
use Rattle.build_nodes.specs.Leaving.{is_retire_of}
use Rattle.build_nodes.specs.Turns.{number_of}
use Rattle.build_nodes.proofs.Active.{active-now, retired-now}
use Rattle.build_nodes.proofs.Leaves.{left-told}
use Rattle.build_nodes.proofs.Marks.{copied-none, copied-some}
use Rattle.build_nodes.proofs.core_turns.turn.Goals as goal

pub returns-then-is_some-clause-next : goal.returns-then-is_some-clause-next
returns-then-is_some-clause-next g c = left-told c.args.node c.args.core.now.history.events _
    (copied-some _ _ c.end.ensures.end (sym c.is_some.ensures ∙ c.if-is_some.true))

pub returns-then-has_retired-clause-next : goal.returns-then-has_retired-clause-next
returns-then-has_retired-clause-next g c =
    let now = c.args.core.now in
    let node = c.args.node in
    retired-now node c.number.result now.history.events now.end
    (ap (λ es. list_any (is_retire_of node) (drop c.number.result es))
    (sym c.history.ensures.events) ∙ (sym c.has_retired.ensures ∙ c.if-has_retired.true))

pub assign_next-requires-clause-active : goal.assign_next-requires-clause-active
assign_next-requires-clause-active g c =
    let m = g.W.Walker in
    let now = c.args.core.now in
    let node = c.args.node in
    let brought = c.args.brought in
    let none = copied-none _ _ c.end.ensures.end (sym c.is_some.ensures ∙ c.if-is_some.false) in
    let others = ap (λ es. list_any (is_retire_of node) (drop (number_of brought) es))
    (sym c.history.ensures.events)
    ∙ (ap (λ n. list_any (is_retire_of node) (drop n c.history.result.now))
    (sym c.number.ensures) ∙ (sym c.has_retired.ensures ∙ c.if-has_retired.false)) in
    active-now m.seen m.earlier node (m.world_of now.world) now.history.events now.end brought none
    others c.requires.brought

pub bring_back-requires-clause-active : goal.bring_back-requires-clause-active
bring_back-requires-clause-active g c =
    let m = g.W.Walker in
    let now = c.args.core.now in
    let node = c.args.node in
    let brought = c.args.brought in
    let none = copied-none _ _ c.end.ensures.end (sym c.is_some.ensures ∙ c.if-is_some.false) in
    let others = ap (λ es. list_any (is_retire_of node) (drop (number_of brought) es))
    (sym c.history.ensures.events)
    ∙ (ap (λ n. list_any (is_retire_of node) (drop n c.history.result.now))
    (sym c.number.ensures) ∙ (sym c.has_retired.ensures ∙ c.if-has_retired.false)) in
    active-now m.seen m.earlier node (m.world_of now.world) now.history.events now.end brought none
    others c.requires.brought

pub give_back-requires-clause-active : goal.give_back-requires-clause-active
give_back-requires-clause-active g c =
    let m = g.W.Walker in
    let now = c.args.core.now in
    let node = c.args.node in
    let brought = c.args.brought in
    let none = copied-none _ _ c.end.ensures.end (sym c.is_some.ensures ∙ c.if-is_some.false) in
    let others = ap (λ es. list_any (is_retire_of node) (drop (number_of brought) es))
    (sym c.history.ensures.events)
    ∙ (ap (λ n. list_any (is_retire_of node) (drop n c.history.result.now))
    (sym c.number.ensures) ∙ (sym c.has_retired.ensures ∙ c.if-has_retired.false)) in
    active-now m.seen m.earlier node (m.world_of now.world) now.history.events now.end brought none
    others c.requires.brought
