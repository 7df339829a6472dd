use Rattle.std.proofs.Common.{◌≡◌, drop}
use Rattle.file_store.specs.Limits.{first_fault}
use Rattle.file_store.proofs.limits.check_entries.Given as goal

abbrev pub invariant-loop-entry : goal.invariant-loop-entry
invariant-loop-entry l = first_fault (drop l.entry-index l.entries) ≡ first_fault l.entries
