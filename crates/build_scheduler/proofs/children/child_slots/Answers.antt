use Rattle.build_scheduler.specs.declared.slot.Slot.TheVariants.{Ready}
use Rattle.build_scheduler.specs.declared.walker.Answer.TheVariants.{First}
use Rattle.build_scheduler.specs.Children.{IsChildSlot}
use Rattle.build_scheduler.specs.Position.{ask_of}
use Rattle.build_scheduler.proofs.NewRequests.{asked-call, paired-more}
use Rattle.build_scheduler.proofs.children.child_slots.Goals as goal

pub child-requires : goal.child-requires
child-requires g c = asked-call c.args.calls.now (ask_of (g.W.Walker.seen c.args.walk.now).position)
    c.key-item.result c.loop-key.key-index c.requires c.loop-key-test.true c.key-item.is

pub loop-key-preserved : goal.loop-key-preserved
loop-key-preserved g c =
    let m = g.W.Walker in
    paired-more (IsChildSlot m.seen (m.seen c.args.walk.now)) c.loop-key.slots.items
    c.push.new.self.items c.args.calls.now c.loop-key.key-index (Ready c.in_ok-child.field-0 First)
    c.key-item.result c.loop-key-test.true c.key-item.is (record {
      world = c.in_ok-child.ensures.world;
      position = c.in_ok-child.ensures.begins;
      asked =
          c.in_ok-child.ensures.asked;
      learnt = c.in_ok-child.ensures.learnt;
    })
    c.in_ok-push.ensures.items c.loop-key.invariant
