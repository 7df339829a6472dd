use Rattle.std.proofs.Common.{arith}
use Rattle.file_store.proofs.FaultKinds.{neither_kind}
use Rattle.file_store.proofs.Puts.{written}
use Rattle.file_store.proofs.memory.MemStoreStore.write.Goals as goal

pub returns-then-is_failing-clause-kind : goal.returns-then-is_failing-clause-kind
returns-then-is_failing-clause-kind c = neither_kind _ _ _ _ (omega arith) (omega arith)

pub returns-in_err-path-in-Some-clause-kind : goal.returns-in_err-path-in-Some-clause-kind
returns-in_err-path-in-Some-clause-kind c = neither_kind _ _ _ _ (omega arith) (omega arith)

pub returns-in_err-bytes-in-Some-clause-kind : goal.returns-in_err-bytes-in-Some-clause-kind
returns-in_err-bytes-in-Some-clause-kind c = neither_kind _ _ _ _ (omega arith) (omega arith)

pub returns-in_err-put-in-Some-clause-kind : goal.returns-in_err-put-in-Some-clause-kind
returns-in_err-put-in-Some-clause-kind c = neither_kind _ _ _ _ (omega arith) (omega arith)

pub returns-in_ok-put-in-Some-clause-kind : goal.returns-in_ok-put-in-Some-clause-kind
returns-in_ok-put-in-Some-clause-kind c = neither_kind _ _ _ _ (omega arith) (omega arith)

pub returns-in-None-clause-kind : goal.returns-in-None-clause-kind
returns-in-None-clause-kind c = neither_kind _ _ _ _ (omega arith) (omega arith)

pub returns-in_ok-put-in-Some-clause-written : goal.returns-in_ok-put-in-Some-clause-written
returns-in_ok-put-in-Some-clause-written c =
    written c.args.path.now c.args.bytes.now _ _ c.in-Some.stamp _ _ c.as_slice.result.now _
    c.is_failing.ensures.tree c.as_slice.ensures c.in-Some.ensures.newest
    c.in_ok-path-in-Some.ensures c.in_ok-bytes-in-Some.ensures c.in_ok-put-in-Some.ensures.ok
