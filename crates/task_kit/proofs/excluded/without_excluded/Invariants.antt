use Rattle.std.proofs.Common.{◌≡◌, ◌++◌, filter, not}
use Rattle.std.specs.Vec.Iter.{into_iter_items}
use Rattle.msb_glob.specs.FoldedNames.{is_named_by, seen_names}
use Rattle.task_kit.proofs.excluded.without_excluded.Given as goal

abbrev pub invariant-loop-item : goal.invariant-loop-item
invariant-loop-item l =
    l.kept.items
    ++ filter (λ item. not (is_named_by l.dir (seen_names l.names) item.ident))
    (into_iter_items l.item-iterator)
    ≡ filter (λ item. not (is_named_by l.dir (seen_names l.names) item.ident)) l.fn.items.items
