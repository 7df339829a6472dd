use Rattle.std.proofs.Common.{rules}
use Rattle.result_cache.specs.Same.{same_run, same_instance}
use Rattle.result_cache.proofs.run.RunIdPartialEq.eq.Goals as goal

pub returns-then-eq : goal.returns-then-eq
unfolding same_run same_instance
returns-then-eq c = search rules

pub returns-else-eq : goal.returns-else-eq
unfolding same_run same_instance
returns-else-eq c = search rules
