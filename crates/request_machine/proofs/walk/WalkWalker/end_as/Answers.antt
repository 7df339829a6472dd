use Rattle.std.proofs.Common.{refl, ap, ◌∙◌}
use Rattle.build_scheduler.specs.declared.walker.Answer.TheVariants.{Go}
use Rattle.request_machine.specs.Stages.{has_begun}
use Rattle.request_machine.specs.Worlds.{world_of}
use Rattle.request_machine.proofs.Ending.{ended_begun, ended_place_as}
use Rattle.request_machine.proofs.WalksAnswered.{in_turn}
use Rattle.request_machine.proofs.walk.WalkWalker.end_as.Goals as goal

pub invariant_of-result : goal.invariant_of-result
invariant_of-result g c = record {
  begun =
      ap has_begun c.in_ok-end_as.ensures.stage
      ∙ ended_begun c.args.end.now.request.stage;
  fits = ∣ tt ∣₁;
  known = ∣ tt ∣₁;
}

pub returns : goal.returns
returns g c =
    let end = c.args.end.now in
    let r = end.request in
    let n = c.in_ok-end_as.field-0 in
    let e = c.in_ok-end_as.ensures in
    record {
      world = ap (world_of g.T.CountedTools.answer) e.world;
      journal = e.journal;
      runs = e.runs;
      place =
          ended_place_as g.T.CountedTools.calls r.world.now r.key r.journal r.runs n.world.now n.key
          n.journal r.stage n.stage e.stage
          (in_turn end.asked (has_begun r.stage) Go end.begun c.requires.asked) c.requires.over;
      asked = refl;
      learnt = c.new.ensures.finished;
      earlier = refl;
    }
