use Rattle.std.proofs.Common.{ℕ, ◌<◌, get_or}
use Rattle.file_store.specs.declared.tree.File.{File}
use Rattle.file_store.proofs.memory.next_stamp.Given as goal

abbrev pub invariant-loop-file : goal.invariant-loop-file
invariant-loop-file l = (k : ℕ) (d : File) → k < l.file-index → (get_or l.files k d).stamp < l.next
