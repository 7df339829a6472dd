use Rattle.build_scheduler.proofs.KeptLists.{fewer-same, fewer-then}
use Rattle.build_scheduler.proofs.kept.KeptEnds.count.Goals as goal

pub loop-call-init : goal.loop-call-init
loop-call-init g c = fewer-same c.args.self.now.instances.items

pub loop-call-preserved : goal.loop-call-preserved
loop-call-preserved g c =
    fewer-then c.args.self.now.instances.items c.loop-call.self.instances.items
    c.count_one.new.self.instances.items c.loop-call.invariant c.count_one.ensures
