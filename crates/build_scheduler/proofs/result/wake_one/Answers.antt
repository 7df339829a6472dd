use Rattle.std.proofs.Common.{Some, ◌∙◌, ap}
use Rattle.build_meaning.specs.Lists.{put}
use Rattle.build_scheduler.specs.declared.slot.Slot.TheVariants.{Ready, Done}
use Rattle.build_scheduler.specs.declared.walker.Answer.TheVariants.{Use}
use Rattle.build_scheduler.proofs.SlotNumbers.{put-put}
use Rattle.build_scheduler.proofs.result.wake_one.Goals as goal

pub returns-clause-slots : goal.returns-clause-slots
returns-clause-slots g c =
    let walk = c.into_waiting-walk.result.0 in
    record {
      walk = walk;
      by = c.into_waiting-walk.result.1;
      was = c.replace_slot.ensures.was ∙ ap Some c.into_waiting-walk.ensures;
      is = c.put_ready.ensures
          ∙ (ap (λ xs. put xs c.args.number (Ready walk Use)) c.replace_slot.ensures.is
          ∙ put-put c.args.slots.now.items c.args.number Done (Ready walk Use));
    }
