-- The properties that the engine itself sets. (MSBuild reserved and well-known properties)
use Rattle.std.specs.Prelude.{List, [], ◌∷◌, Bool, is_some, codes, if◌then◌else◌}
use Rattle.std.specs.List.{list_any, before_last}
use Rattle.msb_laws.specs.Words.{Text, Name, Path}
use Rattle.msb_paths.specs.Segments.{is_slash}
use Rattle.msb_paths.specs.Parts.{file_of, relative_dir, filename, extension}
use Rattle.msb_values.specs.Pairs.{value_at}
use Rattle.msb_reserved.specs.declared.reserved.Reserved.{Reserved}
use Rattle.msb_reserved.specs.declared.reserved.Reserved.TheVariants.{
  ProjectDirectory,
  ProjectFile,
  ProjectName,
  ProjectExtension,
  ProjectFullPath,
  ThisFile,
  ThisFileName,
  ThisFileFullPath,
  ThisFileDirectory,
}

-- the folder of a file, which is empty at the root of the store
abbrev pub folder_of : Path → Path
folder_of path = if list_any is_slash path then before_last is_slash path else []

-- from the root of the store
abbrev pub from_root : Path → Text
from_root path = 47 ∷ path

-- the names
abbrev pub reserved : List (Name × Reserved)
reserved =
    (codes "msbuildprojectdirectory", ProjectDirectory) ∷
    (codes "msbuildprojectfile", ProjectFile) ∷
    (codes "msbuildprojectname", ProjectName) ∷
    (codes "msbuildprojectextension", ProjectExtension) ∷
    (codes "msbuildprojectfullpath", ProjectFullPath) ∷
    (codes "msbuildthisfile", ThisFile) ∷
    (codes "msbuildthisfilename", ThisFileName) ∷
    (codes "msbuildthisfilefullpath", ThisFileFullPath) ∷
    (codes "msbuildthisfiledirectory", ThisFileDirectory) ∷ []

abbrev pub is_reserved : Name → Bool
is_reserved name = is_some (value_at name reserved)

-- by the project's file and the file of the element
abbrev pub reserved_value : Path → Path → Reserved → Text
reserved_value project file ProjectDirectory = from_root (folder_of project)
reserved_value project file ProjectFile = file_of project
reserved_value project file ProjectName = filename project
reserved_value project file ProjectExtension = extension project
reserved_value project file ProjectFullPath = from_root project
reserved_value project file ThisFile = file_of file
reserved_value project file ThisFileName = filename file
reserved_value project file ThisFileFullPath = from_root file
reserved_value project file ThisFileDirectory = from_root (relative_dir file)
