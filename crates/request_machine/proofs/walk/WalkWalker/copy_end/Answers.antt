use Rattle.std.proofs.Common.{refl, ap, ◌∙◌}
use Rattle.build_scheduler.specs.declared.walker.Answer.TheVariants.{Go}
use Rattle.request_machine.specs.Stages.{has_begun}
use Rattle.request_machine.specs.Worlds.{world_of}
use Rattle.request_machine.proofs.Ending.{ended_begun, ended_position}
use Rattle.request_machine.proofs.WalksAnswered.{in_turn}
use Rattle.request_machine.proofs.walk.WalkWalker.copy_end.Goals as goal

pub invariant_of-result : goal.invariant_of-result
invariant_of-result g c = record {
  begun = ap has_begun c.in_ok-copy_end.ensures.stage ∙ ended_begun c.args.self.now.request.stage;
  fits = ∣ tt ∣₁;
  known = ∣ tt ∣₁;
}

pub returns : goal.returns
returns g c =
    let walk = c.args.self.now in
    let r = walk.request in
    let n = c.in_ok-copy_end.field-0 in
    let e = c.in_ok-copy_end.ensures in
    record {
      world = ap (world_of g.T.CountedTools.answer) e.world;
      position =
          ended_position g.T.CountedTools.calls r.world.now r.key r.journal r.runs n.world.now n.key
          n.journal n.runs r.stage n.stage e.world e.key e.journal e.runs e.stage
          (in_turn walk.asked (has_begun r.stage) Go walk.begun c.requires.asked) c.requires.over;
      asked = refl;
      learnt = c.new.ensures.finished;
      earlier = refl;
    }
