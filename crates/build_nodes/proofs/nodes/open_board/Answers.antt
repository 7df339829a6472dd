use Rattle.build_nodes.proofs.CoreCrossing.{shared-crosses}
use Rattle.build_nodes.proofs.nodes.open_board.Goals as goal

pub open-requires-send-S : goal.open-requires-send-S
open-requires-send-S g c κs within = shared-crosses _ _ _ g.W.Walker c.type_bounds.send-W
    c.type_bounds.send-W-Origin _
