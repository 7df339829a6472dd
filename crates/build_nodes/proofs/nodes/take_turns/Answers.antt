use Rattle.std.proofs.Common.{refl}
use Rattle.build_nodes.specs.Turns.{IsIdle}
use Rattle.build_nodes.proofs.Active.{idle-first}
use Rattle.build_nodes.proofs.Turning.{some-true}
use Rattle.build_nodes.proofs.nodes.take_turns.Goals as goal

pub loop-init : goal.loop-init
loop-init g c =
    let m = g.W.Walker in
    let seen = m.seen in
    let node = c.args.node.now in
    let s = c.requires.seated in (
      (refl, s.1, s.2, s.3),
      refl,
      some-true node.seat.world
          (λ first. ∥ IsIdle seen m.earlier node.number (m.world_of first.world) node.seat.seen 0
          ∥₁)
          (λ first. idle-first seen m.earlier node.number (m.world_of first.world) node.seat.seen)
          s.3,
    )
