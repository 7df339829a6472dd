-- The table that the copies of a walk share.
use Rattle.target_order.specs.declared.table.SharedTable.TheInside.{Inside}
use Rattle.target_order.specs.Progress.{Table}

abbrev pub table : Inside → Table
table t = record
    { names = t.targets.names; before = t.targets.before.items; after = t.targets.after.items }
