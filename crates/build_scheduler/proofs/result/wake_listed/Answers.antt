use Rattle.std.proofs.Common.{◌∙◌}
use Rattle.build_scheduler.proofs.SlotNumbers.{popped-waits, woken-listed, all-woken}
use Rattle.build_scheduler.proofs.result.wake_listed.Goals as goal

pub wake_one-requires-clause-room : goal.wake_one-requires-clause-room
wake_one-requires-clause-room g c =
    (popped-waits c.args.id c.loop-number.slots.items c.loop-number.ready
    c.loop-number.waiting.numbers c.pop.new.self.numbers c.in-Some.number
    c.loop-number.invariant.listed c.in-Some.ensures).2

pub loop-number-preserved : goal.loop-number-preserved
loop-number-preserved g c =
    let y = woken-listed c.args.id c.loop-number.slots.items c.wake_one.new.slots.items
    c.loop-number.ready c.wake_one.new.ready c.loop-number.waiting.numbers
    c.pop.new.self.numbers c.in-Some.number
    c.loop-number.invariant.listed c.in-Some.ensures c.wake_one.ensures.slots
    c.wake_one.ensures.ready c.wake_one.ensures.room in
    record { listed = y.0; same = y.1 ∙ c.loop-number.invariant.same }

pub returns-clause-slots : goal.returns-clause-slots
returns-clause-slots g c =
    all-woken c.args.id c.loop-number.slots.items c.args.slots.now.items c.loop-number.ready
    c.loop-number.waiting.numbers c.loop-number.invariant.listed c.in_default.ensures.0
    c.loop-number.invariant.same
