use Rattle.std.proofs.Common.{◌∙◌, arith}
use Rattle.std.proofs.lemmas.Result.{err_from_is_err_and}
use Rattle.file_store.proofs.AsListed.{listed_more}
use Rattle.file_store.proofs.FaultKinds.{read_kind}
use Rattle.file_store.proofs.Loaded.{IsListed, IsRead, told, files_more, paths_more, read_among}
use Rattle.file_store.proofs.loading.load_files.Goals as goal

pub returns-in_err-load_file-clause-cause : goal.returns-in_err-load_file-clause-cause
returns-in_err-load_file-clause-cause g c =
    let l = c.loop-entry in
    let p = err_from_is_err_and c.from_residual.result c.from_residual.ensures.1 in
    rw (p.1, p.2)
    (read_among (g.S.Store.seen c.args.store.now) (g.S.Store.seen l.store)
    (g.S.Store.seen c.load_file.new.store) c.args.entries.now l.entry-index c.entry-item.result _
    l.invariant.later c.loop-entry-test.true c.entry-item.is c.in_err-load_file.ensures.cause)

pub returns-in_err-load_file-clause-kind : goal.returns-in_err-load_file-clause-kind
returns-in_err-load_file-clause-kind g c =
    let l = c.loop-entry in
    let p = err_from_is_err_and c.from_residual.result c.from_residual.ensures.1 in
    rw (p.1, p.2)
    (read_kind _ (g.S.Store.seen c.args.store.now) (g.S.Store.seen l.store)
    (g.S.Store.seen c.load_file.new.store) _ l.invariant.reads c.in_err-load_file.ensures.cause
    c.in_err-load_file.ensures.kind)

pub loop-entry-preserved : goal.loop-entry-preserved
loop-entry-preserved g c =
    let l = c.loop-entry in
    let f = c.in_ok-load_file.ensures in
    record {
      paths = rw c.in_ok-push.ensures.ok
          (paths_more _ l.entry-index c.entry-item.result _ _ c.loop-entry-test.true c.entry-item.is
          f.path l.invariant.paths);
      as_listed = rw c.in_ok-push.ensures.ok
          (listed_more _ l.entry-index c.entry-item.result _ _ c.loop-entry-test.true
          c.entry-item.is f.path f.size l.invariant.as_listed);
      files = λ t is listed.
          let at : IsListed t l.entry-index c.args.entries.now c.entry-item.result = record {
            in_order = told _ is (g.met.S.Store.told_in_order c.args.store.now);
            listed = listed;
            within = c.loop-entry-test.true;
            entry = c.entry-item.is;
          } in
          let read : IsRead t c.entry-item.result c.in_ok-load_file.field-0 = record {
            path = f.path;
            stamp = f.stamp;
            bytes = told _ (l.invariant.kept ∙ is) f.bytes;
          } in
          c.in_ok-push.ensures.ok ∙ files_more t l.entry-index _ c.entry-item.result _ _ at read
          (l.invariant.files t is listed);
      kept = c.load_file.ensures.kept ∙ l.invariant.kept;
      reads = λ path. omega (arith, l.invariant.reads path, c.load_file.ensures.reads_later path);
      later = omega arith;
    }
