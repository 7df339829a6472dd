-- The metadata of an item. (MSBuild well-known item metadata; MSBuild item metadata)
use Rattle.std.specs.Prelude.{List, [], ◌∷◌, Option, Some, None, Result, Ok, Err, codes}
use Rattle.msb_laws.specs.Words.{Text, Name, Path}
use Rattle.msb_paths.specs.Refused.{normal_path}
use Rattle.msb_paths.specs.Parts.{relative_dir, filename, extension}
use Rattle.msb_paths.specs.declared.errors.NormalFault.{NormalFault}
use Rattle.msb_values.specs.Escapes.{escaped, unescaped}
use Rattle.msb_values.specs.Pairs.{value_at}
use Rattle.msb_values.specs.declared.item.Item.{Item}
use Rattle.msb_expand.specs.declared.faults.ExpandFault.{ExpandFault}
use Rattle.msb_expand.specs.declared.faults.ExpandFault.TheVariants.{BadPath}
use Rattle.msb_expand.specs.declared.well_known.WellKnown.{WellKnown}
use Rattle.msb_expand.specs.declared.well_known.WellKnown.TheVariants.{
  Identity,
  FullPath,
  RootDir,
  Directory,
  RelativeDir,
  Filename,
  Extension,
  RecursiveDir,
}
use Rattle.msb_values.specs.Keys.{key_of}
use Rattle.msb_laws.specs.Results.{map_ok}
use Rattle.msb_expand.specs.Reserved.{folder_of, from_root}

-- the names
abbrev pub well_known : List (Name × WellKnown)
well_known =
    (codes "identity", Identity) ∷
    (codes "fullpath", FullPath) ∷
    (codes "rootdir", RootDir) ∷
    (codes "directory", Directory) ∷
    (codes "relativedir", RelativeDir) ∷
    (codes "filename", Filename) ∷
    (codes "extension", Extension) ∷
    (codes "recursivedir", RecursiveDir) ∷ []

-- an identity as a path of the store, on the project's folder
abbrev pub or_bad_path : Text → Result Path NormalFault → Result Path ExpandFault
or_bad_path ident (Ok path) = Ok path
or_bad_path ident (Err fault) = Err (BadPath ident)

abbrev pub path_of : Path → Text → Result Path ExpandFault
path_of project ident = or_bad_path ident (normal_path (folder_of project) ident)

-- of an identity as it stands in its item
abbrev pub full_path : Path → Text → Result Text ExpandFault
full_path project ident = map_ok (λ path. escaped (from_root path))
    (path_of project (unescaped ident))

abbrev pub directory : Path → Text → Result Text ExpandFault
directory project ident = map_ok (λ path. escaped (relative_dir path))
    (path_of project (unescaped ident))

-- by the project's file and an item, whose identity is unescaped
abbrev pub well_known_value : Path → Item → WellKnown → Result Text ExpandFault
well_known_value project item Identity = Ok (escaped (unescaped item.ident))
well_known_value project item FullPath = full_path project item.ident
well_known_value project item RootDir = Ok (codes "/")
well_known_value project item Directory = directory project item.ident
well_known_value project item RelativeDir = Ok (escaped (relative_dir (unescaped item.ident)))
well_known_value project item Filename = Ok (escaped (filename (unescaped item.ident)))
well_known_value project item Extension = Ok (escaped (extension (unescaped item.ident)))
well_known_value project item RecursiveDir = Ok item.recursive

abbrev pub text_or_none : Option Text → Text
text_or_none (Some text) = text
text_or_none None = []

abbrev pub value_if : Path → Item → Name → Option WellKnown → Result Text ExpandFault
value_if project item key (Some known) = well_known_value project item known
value_if project item key None = Ok (text_or_none (value_at key item.meta))

-- the metadata of a key, of an item that has the defaults of its type: well-known, or its own, or
-- empty
abbrev pub metadata_at : Path → Item → Name → Result Text ExpandFault
metadata_at project item key = value_if project item key (value_at key well_known)

abbrev pub metadata_if : Path → Item → Option Name → Result Text ExpandFault
metadata_if project item (Some key) = metadata_at project item key
metadata_if project item None = Ok []

abbrev pub metadata_of : Path → Item → Name → Result Text ExpandFault
metadata_of project item name = metadata_if project item (key_of name)
