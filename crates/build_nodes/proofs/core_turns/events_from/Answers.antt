use Rattle.std.proofs.Common.{◌-◌, length, drop, sym, arith}
use Rattle.std.proofs.lemmas.List.{drop_all, length-drop, take_all}
use Rattle.build_nodes.proofs.core_turns.events_from.Goals as goal

pub returns-then-number-events : goal.returns-then-number-events
returns-then-number-events c =
    sym (drop_all c.args.number c.args.events.now (omega (arith, c.if-number-events.true)))

pub returns : goal.returns
returns c =
    let events = c.args.events.now in
    let number = c.args.number in
    take_all (length events - number) (drop number events)
    (omega (arith, length-drop number events))
