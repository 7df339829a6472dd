use Rattle.std.proofs.Common.{ap, ◌∙◌}
use Rattle.result_cache.specs.Hashes.{run_hash}
use Rattle.result_cache.proofs.RunTests.{hashes-tell}
use Rattle.result_cache.proofs.run_ref.RunProbe.is.Goals as goal

pub returns-else-self-run : goal.returns-else-self-run
returns-else-self-run c =
    hashes-tell c.self.inside.hash c.run.inside.hash c.args.self.now c.args.run.now
    (c.self.invariant ∙ ap run_hash c.self.view_is)
    (c.run.invariant ∙ ap run_hash c.run.view_is) c.if-self-run.false
