use Rattle.std.proofs.Common.{◌≤◌, take}
use Rattle.file_store.specs.Commits.{AreDone}
use Rattle.file_store.specs.Seen.{OfTrees}
use Rattle.file_store.proofs.committing.commit.Given as goal

abbrev pub invariant-loop-place : goal.invariant-loop-place
invariant-loop-place g l = record {
  done : OfTrees (AreDone (take l.place l.act-items)) (g.S.Store.seen l.fn.store)
      (g.S.Store.seen l.store);
  later : (g.S.Store.seen l.fn.store).fault_count ≤ (g.S.Store.seen l.store).fault_count;
}
