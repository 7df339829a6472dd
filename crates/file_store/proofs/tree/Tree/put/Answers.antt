use Rattle.std.proofs.Common.{◌≡◌, List, true, Result, Ok, Err, OnOk, OnErr, ap, ◌∙◌}
use Rattle.msb_values.specs.declared.errors.NoMemory.{NoMemory}
use Rattle.file_store.specs.Files.{are_in_order}
use Rattle.file_store.specs.Writes.{put_in}
use Rattle.file_store.specs.declared.tree.File.{File}
use Rattle.file_store.proofs.Puts.{put_in-ordered}
use Rattle.file_store.proofs.tree.Tree.put.Goals as goal

put_in_order : (r : Result (Unit {0}) NoMemory) (file : File) (old new : List File)
    → are_in_order old ≡ true → OnOk r (new ≡ put_in file.path file.bytes file.stamp old)
    → OnErr r (new ≡ old) → are_in_order new ≡ true
put_in_order (Ok done) file old new h ok err = ap are_in_order ok
    ∙ put_in-ordered file.path file.bytes file.stamp old h
put_in_order (Err fault) file old new h ok err = ap are_in_order err ∙ h

pub invariant_of-drop : goal.invariant_of-drop
invariant_of-drop c = record {
  in_order = ap are_in_order c.from.ensures
      ∙ put_in_order c.put_at_place-done.result c.args.file c.into_vec-files.result.items _
      (ap are_in_order c.into_vec-files.ensures ∙ c.replace.result.in_order)
      c.put_at_place-done.ensures.ok c.put_at_place-done.ensures.err;
}
