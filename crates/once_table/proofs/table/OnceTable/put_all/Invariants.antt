use Rattle.std.proofs.Common.{◌≡◌}
use Rattle.once_table.specs.Looked.{AllFit}
use Rattle.once_table.proofs.table.OnceTable.put_all.Given as goal

abbrev pub invariant-loop-key : goal.invariant-loop-key
invariant-loop-key g l = (l.self ≡ l.initial.self)
    × AllFit (g.F.Fits.fits l.initial.self) l.key-iterator
