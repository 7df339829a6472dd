use Rattle.std.proofs.Common.{sym, subst}
use Rattle.result_cache.specs.Kept.{runs_of}
use Rattle.result_cache.specs.Same.{AreDistinct}
use Rattle.result_cache.proofs.TableSlots.{slots-none}
use Rattle.result_cache.proofs.table.Table.learnt.Goals as goal

pub invariant_of-result : goal.invariant_of-result
invariant_of-result c =
    slots-none c.in_ok-copy.field-0 c.new.result.entries c.new.ensures.unique
    (subst (λ l. AreDistinct (runs_of l)) (sym c.in_ok-copy.ensures.records)
    c.self.invariant.finished)
    c.in_ok-copy.ensures.room c.new.ensures.empty
