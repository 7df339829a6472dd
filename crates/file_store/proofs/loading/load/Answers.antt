use Rattle.file_store.proofs.AsListed.{tree_within}
use Rattle.file_store.proofs.FaultKinds.{load_kind}
use Rattle.file_store.proofs.Loaded.{failed}
use Rattle.file_store.proofs.loading.load.Goals as goal

pub returns-clause-cause : goal.returns-clause-cause
returns-clause-cause g c =
    failed (g.S.Store.seen c.args.store.now) (g.S.Store.seen c.list.new.self)
    (g.S.Store.seen c.load_files.new.store) c.in-Ok.entries c.load_files.result
    c.in-Ok.ensures.cause.later
    (record { in_order = c.in-Ok.ensures.order; told = c.in-Ok.ensures.all })
    (rw c.as_slice.ensures at c.in_ok-check_limits.ensures)
    (rw c.as_slice-2.ensures at c.load_files.ensures.cause)

pub returns-clause-kind : goal.returns-clause-kind
returns-clause-kind g c =
    load_kind _ (g.S.Store.seen c.args.store.now) (g.S.Store.seen c.list.new.self)
    (g.S.Store.seen c.load_files.new.store) c.load_files.result c.in-Ok.ensures.kind.no_read
    c.load_files.ensures.cause c.load_files.ensures.kind

pub returns-clause-limited : goal.returns-clause-limited
returns-clause-limited g c = tree_within c.in-Ok.entries c.load_files.result
    (rw c.as_slice.ensures at c.in_ok-check_limits.ensures)
    (rw c.as_slice-2.ensures at c.load_files.ensures.as_listed)
