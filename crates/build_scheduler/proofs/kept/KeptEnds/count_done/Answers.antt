use Rattle.build_scheduler.proofs.KeptLists.{fewer-same}
use Rattle.build_scheduler.proofs.kept.KeptEnds.count_done.Goals as goal

pub returns-in-None : goal.returns-in-None
returns-in-None g c = fewer-same c.args.self.now.instances.items
