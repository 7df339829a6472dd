use Rattle.build_nodes.proofs.CoreCrossing.{shared-crosses}
use Rattle.build_nodes.proofs.Leaves.{left-stays}
use Rattle.build_nodes.proofs.nodes.join_one.Goals as goal

pub join-requires-send-S : goal.join-requires-send-S
join-requires-send-S g c κs within = shared-crosses _ _ _ g.W.Walker c.type_bounds.send-W
    c.type_bounds.send-W-Origin _

pub returns-clause-left : goal.returns-clause-left
returns-clause-left g c = left-stays c.args.node.number _ _ c.join.ensures.continues.1
    c.requires.left
