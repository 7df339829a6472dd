use Rattle.std.proofs.Common.{subst, sym}
use Rattle.msb_instance.specs.Kept.{AreEvaluated}
use Rattle.request_machine.specs.Worlds.{root_of, world_of}
use Rattle.msb_outcomes.proofs.Beginning.{begins_there}
use Rattle.engine_tests.proofs.repeats.try_repeat_in.Goals as goal

pub try_repeat_at-requires-clause-place : goal.try_repeat_at-requires-clause-place
try_repeat_at-requires-clause-place g c = (
  c.in_ok-walk.ensures.world,
  subst (AreEvaluated c.args.world.now.tree.files) (sym c.new.ensures) (tt, tt),
)

pub try_repeat_at-requires-clause-begins : goal.try_repeat_at-requires-clause-begins
try_repeat_at-requires-clause-begins g c =
    let tools = g.T.CountedTools.answer in
    begins_there (world_of tools c.args.world.now)
    (world_of tools c.in_ok-walk.walk.request.world.now) (root_of c.args.world.now) c.in_ok-key.key
    _
    c.in_ok-walk.ensures.begins c.in_ok-walk.ensures.world c.in_ok-key.ensures
