use Rattle.std.proofs.Common.{ap, sym, ◌∙◌, subst}
use Rattle.build_meaning.specs.Lists.{put}
use Rattle.build_scheduler.specs.declared.slot.Slot.TheVariants.{Calling, Done as Over}
use Rattle.build_scheduler.specs.Calls.{CanTake}
use Rattle.build_scheduler.specs.HandedBack.{IsLeft}
use Rattle.build_scheduler.proofs.Passing.{can_take-calls}
use Rattle.build_scheduler.proofs.SlotNumbers.{put-put}
use Rattle.build_scheduler.proofs.done.pass_journal.Goals as goal

pub take_calls-calls-requires : goal.take_calls-calls-requires
take_calls-calls-requires g c =
    let m = g.W.Walker in
    let seen = m.seen in
    can_take-calls seen c.args.table.now.finished (seen c.args.call) _ c.requires.can

pub take_journal-left-requires-clause-known : goal.take_journal-left-requires-clause-known
take_journal-left-requires-clause-known g c =
    let m = g.W.Walker in
    let seen = m.seen in
    (subst (CanTake seen c.args.table.now.finished (seen c.args.call))
    c.take_calls-calls.ensures.was c.requires.can).0

pub take_journal-left-requires-clause-replays : goal.take_journal-left-requires-clause-replays
take_journal-left-requires-clause-replays g c =
    let m = g.W.Walker in
    let seen = m.seen in
    (subst (CanTake seen c.args.table.now.finished (seen c.args.call))
    c.take_calls-calls.ensures.was c.requires.can).1

pub returns-clause-passed : goal.returns-clause-passed
returns-clause-passed g c = record {
  before = c.take_calls-calls.result;
  now = c.take_journal-left.new.self;
  was = c.take_calls-calls.ensures.was;
  taken = c.take_journal-left.ensures.taken;
  is =
      c.put_slot.ensures ∙ (ap (λ xs. put xs c.args.caller (Calling c.take_journal-left.new.self))
      c.take_calls-calls.ensures.is ∙ put-put c.args.slots.now.items c.args.caller Over
      (Calling c.take_journal-left.new.self));
}

pub returns-clause-left : goal.returns-clause-left
returns-clause-left g c =
    subst (λ slot. IsLeft slot c.args.id c.args.call c.take_journal-left.result)
    (sym c.take_calls-calls.ensures.was) c.take_journal-left.ensures.left
