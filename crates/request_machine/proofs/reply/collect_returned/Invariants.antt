use Rattle.request_machine.proofs.Names.{AreTaken}
use Rattle.request_machine.proofs.reply.collect_returned.Given as goal

abbrev pub invariant-loop-at : goal.invariant-loop-at
invariant-loop-at l = AreTaken l.returned l.names l.at l.by
