use Rattle.std.proofs.Common.{◌≡◌, ◌++◌, drop}
use Rattle.msb_items.specs.Transfers.{metadata_names}
use Rattle.msb_items.proofs.transfer.metadata_names.Given as goal

abbrev pub invariant-loop-entry : goal.invariant-loop-entry
invariant-loop-entry l = l.names ++ metadata_names (drop l.entry-index l.entries)
    ≡ metadata_names l.entries
