use Rattle.std.proofs.Common.{refl, ap}
use Rattle.request_machine.specs.Stages.{has_begun}
use Rattle.request_machine.proofs.WalksAnswered.{position_begins}
use Rattle.request_machine.proofs.walk.Walk.of.Goals as goal

pub invariant_of-result : goal.invariant_of-result
invariant_of-result g c = record
    { begun = ap has_begun c.new-request.ensures.stage; fits = ∣ tt ∣₁; known = ∣ tt ∣₁ }

pub returns : goal.returns
returns g c =
    let e = c.new-request.ensures in
    let r = c.new-request.result in
    record {
      world = ap (λ world. world.now) e.world;
      begins = position_begins g.T.CountedTools.answer g.T.CountedTools.calls r.world.now
          c.args.world.now r.key c.args.key r.journal c.args.journal r.runs r.stage
          (ap (λ world. world.now) e.world) e.key e.journal e.runs e.stage;
      asked = refl;
      learnt = c.new.ensures.finished;
      before = refl;
    }
