use Rattle.std.proofs.Common.{◌∙◌, ap, arith, rules}
use Rattle.file_store.specs.Entries.{entries_of}
use Rattle.file_store.proofs.FaultKinds.{listing_kind}
use Rattle.file_store.proofs.Order.{entries_of-ordered}
use Rattle.file_store.proofs.memory.MemStoreStore.list.Goals as goal

pub returns-clause-order : goal.returns-clause-order
returns-clause-order c = entries_of-ordered c.is_failing.new.self.tree.files c.in_ok-entries.field-0
    c.is_failing.new.self.tree.in_order (c.in_ok-entries.ensures ∙ ap entries_of c.as_slice.ensures)

pub returns-then-is_failing-clause-kind : goal.returns-then-is_failing-clause-kind
returns-then-is_failing-clause-kind c = listing_kind _ _ _ _ _ (search rules) (omega arith)

pub returns-in_err-entries-clause-kind : goal.returns-in_err-entries-clause-kind
returns-in_err-entries-clause-kind c = listing_kind _ _ _ _ _ (search rules) (omega arith)

pub returns-clause-kind : goal.returns-clause-kind
returns-clause-kind c = listing_kind _ _ _ _ _ (search rules) (omega arith)
