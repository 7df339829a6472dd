use Rattle.std.proofs.Common.{subst, sym}
use Rattle.msb_instance.specs.Kept.{AreEvaluated}
use Rattle.request_machine.specs.Worlds.{root_of, world_of}
use Rattle.msb_outcomes.proofs.Beginning.{begins_there}
use Rattle.engine_tests.proofs.any_order.in_any_order.Goals as goal

pub watch_build-requires-clause-place : goal.watch_build-requires-clause-place
watch_build-requires-clause-place g c = (
  c.in_ok-walk.ensures.world,
  subst (AreEvaluated c.args.world.now.tree.files)
      (sym c.new.ensures) (tt, tt),
)

pub watch_build-requires-clause-begins : goal.watch_build-requires-clause-begins
watch_build-requires-clause-begins g c =
    let tools = g.T.CountedTools.answer in
    begins_there (world_of tools c.args.world.now)
    (world_of tools c.in_ok-walk.walk.request.world.now) (root_of c.args.world.now)
    c.in_ok-key.key _
    c.in_ok-walk.ensures.begins c.in_ok-walk.ensures.world c.in_ok-key.ensures
