use Rattle.std.proofs.Common.{ap, ◌∙◌}
use Rattle.msb_files.specs.Indices.{act_on}
use Rattle.msb_files.proofs.sorted.act_on.Goals as goal

pub returns-in-Some : goal.returns-in-Some
returns-in-Some c = c.act_on.ensures ∙ ap (λ e. act_on e c.args.path.now) c.in-Some.ensures

pub returns-in-None : goal.returns-in-None
returns-in-None c = ap (λ e. act_on e c.args.path.now) c.in-None.ensures
