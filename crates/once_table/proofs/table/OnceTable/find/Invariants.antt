use Rattle.std.proofs.Common.{◌≡◌}
use Rattle.once_table.proofs.table.OnceTable.find.Given as goal

abbrev pub invariant-loop : goal.invariant-loop
invariant-loop g l = l.self ≡ l.initial.self
