use Rattle.build_nodes.proofs.CoreCrossing.{shared-crosses}
use Rattle.build_nodes.proofs.nodes.go_on.Goals as goal

pub park_idle-requires-send-S : goal.park_idle-requires-send-S
park_idle-requires-send-S g c κs within = shared-crosses _ _ _ g.W.Walker c.type_bounds.send-W
    c.type_bounds.send-W-Origin _

pub park_held-requires-send-S : goal.park_held-requires-send-S
park_held-requires-send-S g c κs within = shared-crosses _ _ _ g.W.Walker c.type_bounds.send-W
    c.type_bounds.send-W-Origin _
