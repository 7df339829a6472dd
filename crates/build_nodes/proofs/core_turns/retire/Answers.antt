use Rattle.build_nodes.proofs.Leaves.{retired-continues, retired-left, retired-spent}
use Rattle.build_nodes.proofs.core_turns.retire.Goals as goal

pub returns-clause-continues : goal.returns-clause-continues
returns-clause-continues g c =
    let now = c.args.core.now in
    let next = c.retire.new.self in
    retired-continues (g.W.Walker.world_of now.world) now.history.nodes now.history.events
    next.history.events c.args.held.id now.end next.end c.retire.result c.requires.running
    c.retire.ensures.retired

pub returns-clause-spent : goal.returns-clause-spent
returns-clause-spent g c =
    let now = c.args.core.now in
    let next = c.retire.new.self in
    retired-spent (g.W.Walker.world_of now.world) now.history.nodes now.history.events
    next.history.events c.args.held.id now.end next.end c.retire.result next.history.nodes
    c.retire.ensures.nodes c.retire.ensures.retired

pub returns-clause-next : goal.returns-clause-next
returns-clause-next g c =
    let now = c.args.core.now in
    let next = c.retire.new.self in
    retired-left (g.W.Walker.world_of now.world) now.history.nodes now.history.events
    next.history.events c.args.held.id now.end next.end c.retire.result c.args.node
    c.requires.here c.retire.ensures.retired
