use Rattle.std.proofs.Common.{◌+◌, drop, ap, ◌∙◌}
use Rattle.std.specs.BTreeSet.{insert_key}
use Rattle.std.specs.Cmp.Lexicographic.{slice_cmp}
use Rattle.std.specs.Ordering.{nat_cmp}
use Rattle.file_store.specs.Files.{paths_of}
use Rattle.msb_files.specs.Views.{with_paths}
use Rattle.msb_files.proofs.Paths.{file_more}
use Rattle.msb_files.proofs.view.add_files.Goals as goal

pub loop-file-preserved : goal.loop-file-preserved
loop-file-preserved c =
    let files = c.args.files.now in
    let i = c.loop-file.file-index in
    let keys = c.loop-file.all.keys in
    ap (with_paths (paths_of (drop (i + 1) files)))
    (c.in_ok-insert.ensures.keys ∙ ap (insert_key (slice_cmp nat_cmp) keys)
    c.in_ok-copy.ensures)
    ∙ (file_more files i c.file-item.result keys c.loop-file-test.true c.file-item.is
    ∙ c.loop-file.invariant)
