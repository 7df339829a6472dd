use Rattle.request_machine.proofs.Names.{taken_first, taken_more}
use Rattle.request_machine.proofs.reply.collect_returned.Goals as goal

pub loop-at-init : goal.loop-at-init
loop-at-init c = rw c.new-by.ensures (taken_first c.args.returned.now c.args.names.now)

pub loop-at-preserved : goal.loop-at-preserved
loop-at-preserved c =
    rw c.in_ok-push_returned.ensures
    (taken_more c.args.returned.now c.args.names.now c.loop-at.at c.loop-at.by
    c.index-names-at.result c.loop-at.invariant c.loop-at-test.true c.index-names-at.is)
