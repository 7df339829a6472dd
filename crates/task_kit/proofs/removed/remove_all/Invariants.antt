use Rattle.std.proofs.Common.{◌≡◌, fold}
use Rattle.std.specs.Vec.Iter.{into_iter_items}
use Rattle.task_kit.specs.Removed.{HasPaths, removed, with_removed}
use Rattle.task_kit.proofs.removed.remove_all.Given as goal

abbrev pub invariant-loop-path : goal.invariant-loop-path
invariant-loop-path l = record {
  paths : HasPaths l.acts l.known;
  acts : fold (with_removed l.view) l.acts (into_iter_items l.path-iterator)
      ≡ removed l.view l.fn.paths.items;
}
