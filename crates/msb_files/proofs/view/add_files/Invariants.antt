use Rattle.std.proofs.Common.{◌≡◌, drop}
use Rattle.file_store.specs.Files.{paths_of}
use Rattle.msb_files.specs.Views.{with_paths}
use Rattle.msb_files.proofs.view.add_files.Given as goal

abbrev pub invariant-loop-file : goal.invariant-loop-file
invariant-loop-file l = with_paths (paths_of (drop l.file-index l.files)) l.all.keys
    ≡ with_paths (paths_of l.files) l.initial.all.keys
