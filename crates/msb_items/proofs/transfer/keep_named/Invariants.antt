use Rattle.std.proofs.Common.{◌≡◌, drop}
use Rattle.std.specs.Prelude.{fold}
use Rattle.msb_values.specs.Pairs.{value_at}
use Rattle.msb_items.specs.Transfers.{only_named, with_value}
use Rattle.msb_items.proofs.transfer.keep_named.Given as goal

abbrev pub invariant-loop-name : goal.invariant-loop-name
invariant-loop-name l = fold (λ kept name. with_value name (value_at name l.meta) kept) l.kept
    (drop l.name-index l.names) ≡ only_named l.names l.meta
