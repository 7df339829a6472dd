use Rattle.std.proofs.Common.{sym, ap, subst, IsSorted}
use Rattle.std.specs.Cmp.Lexicographic.{slice_cmp}
use Rattle.std.specs.Ordering.{nat_cmp}
use Rattle.file_store.specs.Files.{paths_of}
use Rattle.msb_glob.proofs.Rising.{rising_sorted}
use Rattle.msb_glob.proofs.sorted.SortedPaths+File.of_tree.Goals as goal

pub of-requires : goal.of-requires
of-requires c =
    subst (IsSorted (slice_cmp nat_cmp)) (sym (ap paths_of c.as_slice.ensures))
    (rising_sorted (paths_of c.args.tree.now.files) c.args.tree.now.in_order)
