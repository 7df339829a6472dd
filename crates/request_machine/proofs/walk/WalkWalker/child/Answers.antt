use Rattle.std.proofs.Common.{option_map, sym, ap, ◌∙◌, subst}
use Rattle.build_scheduler.specs.Learnt.{ArePartOf}
use Rattle.build_scheduler.specs.Position.{begins}
use Rattle.request_machine.specs.Former.{position_before}
use Rattle.request_machine.specs.Worlds.{world_of}
use Rattle.request_machine.proofs.walk.WalkWalker.child.Goals as goal

pub returns : goal.returns
returns g c =
    let answer = g.T.CountedTools.answer in
    let r = c.args.self.now.request in
    let w = r.world.now in
    record {
      world = ap (world_of answer) c.of.ensures.world;
      begins = c.of.ensures.begins
          ∙ (ap (λ k. begins (world_of answer w) k c.in_ok-journal.journal) c.in_ok-key.ensures
          ∙ ap (begins (world_of answer w) c.args.key.now) c.in_ok-journal.ensures);
      asked = c.of.ensures.asked;
      learnt = subst (λ records. ArePartOf records c.args.self.now.learnt.finished)
          (sym c.of.ensures.learnt)
          (record { in_order = tt; shared = λ run made is. absurd (cc) });
      earlier = ap
          (option_map
          (λ b. (position_before g.T.CountedTools.calls c.of.result.request b.former, b.asked)))
          c.of.ensures.before;
    }
