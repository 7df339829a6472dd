use denote.Param.Send.{sendable}
use Rattle.std.proofs.Common.{All, subst, sym}
use Rattle.request_machine.specs.NodeContexts.{Suits}
use Rattle.request_machine.specs.Worlds.{root_of, world_of}
use Rattle.request_machine.proofs.Crossing.{NodeContext-send, Walk-send}
use Rattle.msb_outcomes.proofs.Beginning.{begins_there}
use Rattle.msb_outcomes.proofs.on_nodes.build_at_contexts.Goals as goal

pub build_on_many-requires-send-W : goal.build_on_many-requires-send-W
build_on_many-requires-send-W g c κs within =
    let y = c.type_bounds.send-T in search (Walk-send, sendable) depth 20

pub build_on_many-requires-send-W-Place : goal.build_on_many-requires-send-W-Place
build_on_many-requires-send-W-Place g c κs within =
    let y = c.type_bounds.send-T in search (NodeContext-send, sendable) depth 20

pub build_on_many-requires-clause-fits : goal.build_on_many-requires-clause-fits
build_on_many-requires-clause-fits g c κs within =
    let tools = g.T.CountedTools.answer in
    subst (λ w.
    All (λ context. Suits tools context.world.now context.instances w) c.args.contexts.items)
    (sym c.in_ok-walk.ensures.world) c.requires.suit

pub build_on_many-requires-clause-begins : goal.build_on_many-requires-clause-begins
build_on_many-requires-clause-begins g c κs within =
    let tools = g.T.CountedTools.answer in
    begins_there (world_of tools c.args.world.now)
    (world_of tools c.in_ok-walk.walk.request.world.now) (root_of c.args.world.now)
    c.in_ok-key.key _ c.in_ok-walk.ensures.begins c.in_ok-walk.ensures.world c.in_ok-key.ensures
