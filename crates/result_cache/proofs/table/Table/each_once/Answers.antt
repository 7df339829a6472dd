use Rattle.std.proofs.Common.{subst}
use Rattle.result_cache.specs.Table.{HasEachOnce}
use Rattle.result_cache.proofs.TableSlots.{each-once}
use Rattle.result_cache.proofs.table.Table.each_once.Goals as goal

pub returns : goal.returns
returns c =
    subst HasEachOnce c.self.view_is
    (each-once c.self.inside.finished c.self.inside.begun.entries c.self.invariant)
