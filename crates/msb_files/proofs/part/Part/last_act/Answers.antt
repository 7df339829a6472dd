use Rattle.std.proofs.Common.{◌∙◌}
use Rattle.msb_files.proofs.PartSteps.{act_here, act_later}
use Rattle.msb_files.proofs.part.Part.last_act.Goals as goal

pub returns-in-Some : goal.returns-in-Some
returns-in-Some c = act_here c.args.self.now c.loop-at.at c.entry.result.now c.entry.ensures
    c.args.path.now c.in-Some.act.now c.in-Some.ensures ∙ c.loop-at.invariant

pub loop-at-preserved : goal.loop-at-preserved
loop-at-preserved c = act_later c.args.self.now c.loop-at.at c.entry.result.now c.entry.ensures
    c.args.path.now c.in_default.ensures ∙ c.loop-at.invariant
