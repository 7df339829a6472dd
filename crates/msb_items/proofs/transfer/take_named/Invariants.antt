use Rattle.std.proofs.Common.{◌≡◌, drop}
use Rattle.msb_items.specs.Transfers.{none_named}
use Rattle.msb_items.proofs.transfer.take_named.Given as goal

abbrev pub invariant-loop-name : goal.invariant-loop-name
invariant-loop-name l = none_named (drop l.name-index l.names) l.meta
    ≡ none_named l.names l.initial.meta
