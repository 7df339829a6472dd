use Rattle.std.proofs.Common.{◌≡◌, true}
use Rattle.file_store.specs.Entries.{are_listed_in_order}
use Rattle.host_files.proofs.listed.in_order.Given as goal

abbrev pub invariant-loop-entry : goal.invariant-loop-entry
invariant-loop-entry l = are_listed_in_order l.entries.items ≡ true
