use Rattle.std.proofs.Common.{◌≡◌, ◌++◌, map}
use Rattle.std.specs.Vec.Iter.{into_iter_items}
use Rattle.target_texts.specs.OnErrors.{as_warning}
use Rattle.target_texts.proofs.on_error.as_warnings.Given as goal

abbrev pub invariant-loop-note : goal.invariant-loop-note
invariant-loop-note l = l.warnings ++ map as_warning (into_iter_items l.note-iterator)
    ≡ map as_warning l.fn.notes
