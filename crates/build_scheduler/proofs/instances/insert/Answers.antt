use Rattle.result_cache.specs.Same.{same_instance}
use Rattle.build_scheduler.proofs.InstanceCounts.{inserted-instance}
use Rattle.build_scheduler.proofs.instances.insert.Goals as goal

pub returns-clause-ok : goal.returns-clause-ok
unfolding same_instance
returns-clause-ok c = inserted-instance c.args.seen.now.keys c.args.instance.now
    c.in_ok-copy.field-0 c.insert.new.self.keys c.in_ok-copy.ensures c.in_ok-insert.ensures.keys
