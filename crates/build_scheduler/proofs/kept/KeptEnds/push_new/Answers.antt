use Rattle.build_scheduler.proofs.KeptLists.{fewer-added, fewer-is}
use Rattle.build_scheduler.proofs.kept.KeptEnds.push_new.Goals as goal

pub returns : goal.returns
returns g c =
    fewer-added c.args.self.now.instances.items c.push.new.self.items c.in_ok-push.ensures.items

pub returns-in_err-push : goal.returns-in_err-push
returns-in_err-push g c =
    fewer-is c.args.self.now.instances.items c.push.new.self.items c.in_err-push.ensures.items
