use denote.RattleType.{RattleType}
use denote.Struct.Declared as Struct
use denote.Param.Send.{IsSend, recorded_send, sendable, struct_send}
use Rattle.std.proofs.Common.{All, subst, sym}
use Rattle.msb_instance.specs.Kept.{AreEvaluated}
use Rattle.request_machine.specs.NodeContexts.{Suits}
use Rattle.request_machine.specs.Worlds.{root_of, world_of}
use Rattle.request_machine.proofs.Crossing.{NodeContext-send, Walk-send}
use Rattle.msb_outcomes.proofs.Beginning.{begins_there}
use Rattle.engine_tests.specs.contracts.refusing.Refusing as Refusing
use Rattle.engine_tests.proofs.refusing.build_at.Goals as goal

Refusing-send : (W : RattleType) → IsSend W → IsSend (Refusing.the_row W)
Refusing-send W s = recorded_send _ _ _ (Refusing.the_type W).to_one
    (struct_send (Struct.shape (Refusing.the_type W)) (s, (search sendable, tt)))

pub contexts_of-requires : goal.contexts_of-requires
contexts_of-requires g c =
    subst (AreEvaluated c.args.world.now.tree.files) (sym c.new.ensures) (tt, tt)

pub build_walk-requires-send-W : goal.build_walk-requires-send-W
build_walk-requires-send-W g c κs within = let y = c.type_bounds.send-T in search
    (Refusing-send, Walk-send, sendable) depth 20

pub build_walk-requires-send-W-Place : goal.build_walk-requires-send-W-Place
build_walk-requires-send-W-Place g c κs within =
    let y = c.type_bounds.send-T in search (NodeContext-send, sendable) depth 20

pub build_walk-requires-clause-fits : goal.build_walk-requires-clause-fits
build_walk-requires-clause-fits g c κs within =
    let tools = g.T.CountedTools.answer in
    subst
    (λ w. All (λ context. Suits tools context.world.now context.instances w)
    c.in_ok-contexts.contexts.items)
    (sym c.in_ok-walk.ensures.world) c.in_ok-contexts.ensures.suit

pub build_walk-requires-clause-begins : goal.build_walk-requires-clause-begins
build_walk-requires-clause-begins g c κs within =
    let tools = g.T.CountedTools.answer in
    begins_there (world_of tools c.args.world.now)
    (world_of tools c.in_ok-walk.walk.request.world.now) (root_of c.args.world.now)
    c.in_ok-key.key _
    c.in_ok-walk.ensures.begins c.in_ok-walk.ensures.world c.in_ok-key.ensures
