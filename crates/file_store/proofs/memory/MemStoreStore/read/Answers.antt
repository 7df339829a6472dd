use Rattle.std.proofs.Common.{arith, rules}
use Rattle.file_store.proofs.FaultKinds.{read_of_any}
use Rattle.file_store.proofs.memory.MemStoreStore.read.Goals as goal

pub returns-then-is_failing-clause-kind : goal.returns-then-is_failing-clause-kind
returns-then-is_failing-clause-kind c = read_of_any _ _ _ _ _ _ (search rules) (omega arith)

pub returns-in_err-front-clause-kind : goal.returns-in_err-front-clause-kind
returns-in_err-front-clause-kind c = read_of_any _ _ _ _ _ _ (search rules) (omega arith)

pub returns-clause-kind : goal.returns-clause-kind
returns-clause-kind c = read_of_any _ _ _ _ _ _ (search rules) (omega arith)
