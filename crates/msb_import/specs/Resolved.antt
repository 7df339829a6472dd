-- The file that an import brings in. (Import element)
use Rattle.std.specs.Prelude.{
  ◌≡◌,
  ◌-◌,
  nat_lt,
  slice_get,
  List,
  [],
  ◌∷◌,
  length,
  Bool,
  true,
  false,
  is_some,
  Option,
  Some,
  None,
  Result,
  Ok,
  Err,
}
use Rattle.std.specs.List.{list_any}
use Rattle.std.specs.Str.{bytes_eq}
use Rattle.msb_laws.specs.Words.{Text, Path}
use Rattle.file_store.specs.Files.{file_at}
use Rattle.file_store.specs.declared.tree.File.{File}
use Rattle.msb_paths.specs.Refused.{normal_path}
use Rattle.msb_paths.specs.declared.errors.NormalFault.{NormalFault}
use Rattle.msb_expand.specs.Reserved.{folder_of}
use Rattle.msb_laws.specs.Results.{and_then}
use Rattle.msb_import.specs.declared.resolving.ImportFault.{ImportFault}
use Rattle.msb_import.specs.declared.resolving.ImportFault.TheVariants.{
  Missing,
  Duplicate,
  ImportDepth,
  Path as BadPath,
  Memory,
}

-- a chain of imports leads from the root file to the importing one, which is the last
abbrev pub folder_or_root : Option Path → Path
folder_or_root (Some file) = folder_of file
folder_or_root None = []

abbrev pub importing_folder : List Path → Path
importing_folder chain = folder_or_root (slice_get chain (length chain - 1))

abbrev pub path_or_refused : Text → Result Path NormalFault → Result Path ImportFault
path_or_refused text (Ok path) = Ok path
path_or_refused text (Err fault) = Err (BadPath text)

-- the path of a text on a folder
abbrev pub path_or_fault : Path → Text → Result Path ImportFault
path_or_fault folder text = path_or_refused text (normal_path folder text)

-- the chain has at most 64 files with the new one
abbrev pub if_short : Path → Bool → Result Path ImportFault
if_short path true = Ok path
if_short path false = Err ImportDepth

abbrev pub if_new : List Path → Path → Bool → Result Path ImportFault
if_new chain path true = Err (Duplicate path)
if_new chain path false = if_short path (nat_lt (length chain) 64)

abbrev pub if_there : List Path → List Path → Path → Option File → Result Path ImportFault
if_there chain done path None = Err (Missing path)
if_there chain done path (Some file) = if_new chain path
    (list_any (λ other. bytes_eq other path) done)

-- the path, of a file that is there and was not laid out before
abbrev pub resolved : List File → List Path → List Path → Text → Result Path ImportFault
resolved files chain done text = and_then (path_or_fault (importing_folder chain) text)
    (λ path. if_there chain done path (file_at path files))

-- the answer is this one, but for want of memory
abbrev pub Resolves : Result Path ImportFault → Result Path ImportFault → Type 0
Resolves (Ok path) answer = answer ≡ Ok path
Resolves (Err (Missing path)) answer = answer ≡ Err (Missing path)
Resolves (Err (Duplicate path)) answer = answer ≡ Err (Duplicate path)
Resolves (Err ImportDepth) answer = answer ≡ Err ImportDepth
Resolves (Err (BadPath text)) answer = answer ≡ Err (BadPath text)
Resolves (Err Memory) answer = Unit {0}
