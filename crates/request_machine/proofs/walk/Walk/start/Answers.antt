use Rattle.std.proofs.Common.{ap, ◌∙◌}
use Rattle.build_scheduler.specs.Position.{begins}
use Rattle.request_machine.specs.Worlds.{root_of, world_of}
use Rattle.request_machine.proofs.walk.Walk.start.Goals as goal

pub returns : goal.returns
returns g c =
    let answer = g.T.CountedTools.answer in
    let w = c.args.world.now in
    record {
      world = ap (world_of answer) c.of.ensures.world;
      begins = c.of.ensures.begins
          ∙ (ap (λ k. begins (world_of answer w) k c.in_ok-journal.journal) c.in_ok-key.ensures
          ∙ ap (begins (world_of answer w) (root_of w)) c.in_ok-journal.ensures);
      asked = c.of.ensures.asked;
      learnt = c.of.ensures.learnt;
      before = c.of.ensures.before;
    }
