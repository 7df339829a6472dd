use Rattle.std.proofs.Common.{◌≡◌, drop}
use Rattle.msb_glob.specs.FoldedNames.{seen_names, with_idents}
use Rattle.task_kit.specs.Included.{idents_of}
use Rattle.task_kit.proofs.excluded.insert_idents.Given as goal

abbrev pub invariant-loop-entry : goal.invariant-loop-entry
invariant-loop-entry l =
    with_idents (seen_names l.names) (idents_of (drop l.entry-index l.entries))
    ≡ with_idents (seen_names l.initial.names) (idents_of l.entries)
