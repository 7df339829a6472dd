-- What the evaluation of an instance works with. (How MSBuild builds projects, evaluation phase)
use Rattle.std.specs.Prelude.{List, [], None}
use Rattle.msb_laws.specs.Words.{Name, Path, Pairs}
use Rattle.file_store.specs.Files.{paths_of}
use Rattle.file_store.specs.declared.tree.File.{File}
use Rattle.msb_values.specs.declared.key.InstanceKey.{InstanceKey}
use Rattle.msb_values.specs.declared.scope.Scope.{Scope}
use Rattle.msb_expand.specs.declared.lens.Use.{Use}
use Rattle.element_texts.specs.Contexts.{ElementContext}

-- the files of the tree, the path of the root file, and the global properties
pub record Setting : Type 0 where
  pub files : List File
  pub path : Path
  pub globals : Pairs

-- by the files of a tree and the key of an instance
abbrev pub setting : List File → InstanceKey → Setting
setting files key = record { files = files; path = key.path; globals = key.globals }

-- the properties so far, and the global ones that a file has made its own (Project element,
-- TreatAsLocalProperty)
pub record Properties : Type 0 where
  pub values : Pairs
  pub local : List Name

-- no item is seen in the property pass
abbrev pub scope_with : Setting → Properties → Scope
scope_with s p = record { globals = s.globals; props = p.values; items = []; defaults = [] }

-- what the texts of elements see
abbrev pub context_at : Setting → Properties → Use → ElementContext
context_at s p usage = record {
  files = paths_of s.files;
  project = s.path;
  scope = scope_with s p;
  usage = usage;
  own = None;
  bucket = None;
}
