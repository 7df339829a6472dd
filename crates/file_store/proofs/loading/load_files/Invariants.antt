use Rattle.std.proofs.Common.{◌≡◌, ◌≤◌, List, take, Some}
use Rattle.msb_laws.specs.Words.{Path}
use Rattle.file_store.specs.Files.{paths_of}
use Rattle.file_store.specs.Entries.{entries_of, paths_in}
use Rattle.file_store.specs.Loads.{AreAsListed}
use Rattle.file_store.specs.declared.tree.File.{File}
use Rattle.file_store.proofs.loading.load_files.Given as goal

abbrev pub invariant-loop-entry : goal.invariant-loop-entry
invariant-loop-entry g l = record {
  paths : paths_of l.files ≡ paths_in (take l.entry-index l.entries);
  as_listed : AreAsListed (take l.entry-index l.entries) l.files;
  files : (t : List File) → (g.S.Store.seen l.fn.store).tree ≡ Some t → l.entries ≡ entries_of t
      → l.files ≡ take l.entry-index t;
  kept : (g.S.Store.seen l.store).tree ≡ (g.S.Store.seen l.fn.store).tree;
  reads : (path : Path) → (g.S.Store.seen l.fn.store).failures.reads path
      ≤ (g.S.Store.seen l.store).failures.reads path;
  later : (g.S.Store.seen l.fn.store).fault_count ≤ (g.S.Store.seen l.store).fault_count;
}
