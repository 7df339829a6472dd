use Rattle.std.proofs.Common.{◌≡◌, ◌-◌, drop}
use Rattle.result_cache.specs.Journal.{merge}
use Rattle.msb_files.proofs.merging.add_all.Given as goal

abbrev pub invariant-loop-at : goal.invariant-loop-at
invariant-loop-at l = l.journal ≡ merge l.initial.journal (drop (l.count - l.at) l.other)
