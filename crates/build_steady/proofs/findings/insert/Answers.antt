use Rattle.result_cache.specs.Same.{same_instance}
use Rattle.build_scheduler.proofs.InstanceCounts.{inserted-instance}
use Rattle.build_steady.proofs.findings.insert.Goals as goal

pub returns : goal.returns
unfolding same_instance
returns c = inserted-instance c.args.instances.now.keys c.args.instance.now c.in_ok-copy.field-0
    c.insert.new.self.keys c.in_ok-copy.ensures c.in_ok-insert.ensures.keys
