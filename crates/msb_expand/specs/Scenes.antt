-- What an expression sees, and where it stands.
use Rattle.std.specs.Prelude.{List, [], Option, Some, None, option_map, option_copied}
use Rattle.std.specs.Prelude.{map}
use Rattle.msb_laws.specs.Words.{Name, Path, Pairs}
use Rattle.msb_values.specs.Overlays.{overlaid}
use Rattle.msb_values.specs.Pairs.{value_at}
use Rattle.msb_values.specs.declared.item.Item.{Item}
use Rattle.msb_values.specs.declared.scope.Scope.{Scope}
use Rattle.msb_expand.specs.declared.lens.Use.{Use}
use Rattle.msb_expand.specs.declared.lens.Bucket.{Bucket}
use Rattle.msb_expand.specs.declared.lens.Lens.{Lens}

-- the scope, the files of the project and of the element, what may stand there, and the item and
-- bucket that `%` speaks of
pub record Scene : Type 0 where
  pub scope : Scope
  pub project : Path
  pub file : Path
  pub usage : Use
  pub own : Option (Name × Item)
  pub bucket : Option Bucket

abbrev pub scene_of : Lens → Scene
scene_of lens = record {
  scope = lens.scope.now;
  project = lens.project.now;
  file = lens.file.now;
  usage = lens.usage;
  own = option_map (λ p. (p.0.now, p.1.now)) lens.own;
  bucket = option_copied lens.bucket;
}

-- in a file of a project, where no item is at hand and nothing is batched
abbrev pub scene_at : Scope → Path → Path → Use → Scene
scene_at scope project file usage = record
    { scope = scope; project = project; file = file; usage = usage; own = None; bucket = None }

-- with an item of a type at hand
abbrev pub with_own : Scene → Name → Item → Scene
with_own scene kind item = record {
  scope = scene.scope;
  project = scene.project;
  file = scene.file;
  usage = scene.usage;
  own =
      Some (kind, item);
  bucket = scene.bucket;
}

-- in a bucket of an element (MSBuild batching)
abbrev pub with_bucket : Scene → Bucket → Scene
with_bucket scene bucket = record {
  scope = scene.scope;
  project = scene.project;
  file = scene.file;
  usage = scene.usage;
  own =
      scene.own;
  bucket = Some bucket;
}

-- the metadata that a type's items have by default
abbrev pub pairs_or_none : Option Pairs → Pairs
pairs_or_none (Some pairs) = pairs
pairs_or_none None = []

abbrev pub defaults_at : Scene → Name → Pairs
defaults_at scene kind = pairs_or_none (value_at kind scene.scope.defaults)

-- an item with the defaults of its type
abbrev pub with_defaults : Pairs → Item → Item
with_defaults defaults item = record
    { ident = item.ident; recursive = item.recursive; meta = overlaid defaults item.meta }

-- a bucket sees of the lists that it holds only what it holds of them, and all of the others
-- (MSBuild batching)
abbrev pub list_or : Option (List Item) → List Item → List Item
list_or (Some list) other = list
list_or None other = other

abbrev pub list_in : Option Bucket → List (Name × List Item) → Name → List Item
list_in None items kind = list_or (value_at kind items) []
list_in (Some bucket) items kind = list_or (value_at kind bucket.lists)
    (list_or (value_at kind items) [])

-- the items of a type, each with the defaults
abbrev pub items_at : Scene → Name → List Item
items_at scene kind = map (with_defaults (defaults_at scene kind))
    (list_in scene.bucket scene.scope.items kind)
