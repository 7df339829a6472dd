use Rattle.std.proofs.Common.{sym, subst}
use Rattle.result_cache.specs.Kept.{runs_of}
use Rattle.result_cache.specs.Same.{AreDistinct}
use Rattle.result_cache.proofs.TableSlots.{slots-none}
use Rattle.result_cache.proofs.table.Table.new.Goals as goal

pub invariant_of-result : goal.invariant_of-result
invariant_of-result c =
    slots-none c.new.result c.new-2.result.entries c.new-2.ensures.unique
    (subst (λ l. AreDistinct (runs_of l)) (sym c.new.ensures.records) tt) c.new.ensures.room
    c.new-2.ensures.empty
