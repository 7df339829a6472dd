use Rattle.std.proofs.Common.{ap, ◌∙◌}
use Rattle.result_cache.specs.Hashes.{run_hash}
use Rattle.result_cache.proofs.RunTests.{hashes-tell}
use Rattle.result_cache.proofs.run_ref.RunProbePartialEq.eq.Goals as goal

pub returns-else-self-other : goal.returns-else-self-other
returns-else-self-other c =
    hashes-tell c.self.inside.hash c.other.inside.hash c.args.self.now c.args.other.now
    (c.self.invariant ∙ ap run_hash c.self.view_is)
    (c.other.invariant ∙ ap run_hash c.other.view_is) c.if-self-other.false
