use Rattle.std.proofs.Common.{ap, ◌∙◌}
use Rattle.file_store.specs.Files.{are_in_order}
use Rattle.file_store.proofs.Removals.{taken_out-ordered}
use Rattle.file_store.proofs.tree.Tree.remove.Goals as goal

pub invariant_of-drop : goal.invariant_of-drop
invariant_of-drop c = record {
  in_order = ap are_in_order (c.from.ensures ∙ c.take_from_place.ensures)
      ∙ taken_out-ordered c.args.path.now c.into_vec-files.result.items
      (ap are_in_order c.into_vec-files.ensures ∙ c.replace.result.in_order);
}
