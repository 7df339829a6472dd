use Rattle.std.proofs.Common.{◌+◌, ◌||◌, ◌&&◌, ◌==◌, sym, ◌∙◌, ap, arith}
use Rattle.build_meaning.specs.Lists.{put}
use Rattle.build_scheduler.specs.declared.slot.Slot.TheVariants.{Done as Over}
use Rattle.build_scheduler.specs.Numbers.{among}
use Rattle.build_scheduler.specs.Shown.{one_unless}
use Rattle.build_scheduler.proofs.SlotNumbers.{put-put}
use Rattle.build_scheduler.proofs.done.resume.Goals as goal

pub returns-then-is_ready : goal.returns-then-is_ready
returns-then-is_ready g c = record {
  calls = c.take_calls-calls.result;
  slot = c.tell-next.result;
  was = c.take_calls-calls.ensures.was;
  tells = c.tell-next.ensures;
  is = c.put_slot.ensures
      ∙ (ap (λ xs. put xs c.args.caller c.tell-next.result) c.take_calls-calls.ensures.is
      ∙ put-put c.args.slots.now.items c.args.caller Over c.tell-next.result);
  listed = λ n. c.insert.ensures.numbers n ∙ ap
      (λ b. (b && c.args.caller == n) || among n c.args.ready.now.numbers) c.if-is_ready.ensures;
  room = ap (λ b. c.args.ready.now.room + one_unless b) (sym c.if-is_ready.ensures)
      ∙ omega (arith, c.insert.ensures.room);
}

pub returns-else-is_ready : goal.returns-else-is_ready
returns-else-is_ready g c = record {
  calls = c.take_calls-calls.result;
  slot = c.tell-next.result;
  was = c.take_calls-calls.ensures.was;
  tells = c.tell-next.ensures;
  is = c.put_slot.ensures
      ∙ (ap (λ xs. put xs c.args.caller c.tell-next.result) c.take_calls-calls.ensures.is
      ∙ put-put c.args.slots.now.items c.args.caller Over c.tell-next.result);
  listed = λ n. ap (λ b. (b && c.args.caller == n) || among n c.args.ready.now.numbers)
      c.if-is_ready.ensures;
  room = ap (λ b. c.args.ready.now.room + one_unless b) (sym c.if-is_ready.ensures);
}
