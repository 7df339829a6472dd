use Rattle.std.proofs.Common.{◌≡◌, ◌*◌, ◌^◌, ◌≤◌, take}
use Rattle.file_store.specs.Limits.{total_size}
use Rattle.file_store.proofs.limits.total_size.Given as goal

abbrev pub invariant-loop-entry : goal.invariant-loop-entry
invariant-loop-entry l = record {
  so_far : l.total ≡ total_size (take l.entry-index l.entries);
  bound : l.total ≤ 2 ^ 64 * l.entry-index;
}
