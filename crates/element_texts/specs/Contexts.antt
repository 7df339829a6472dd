-- What the texts of an element see, and what they denote there. (MSBuild items; Item definitions;
-- MSBuild conditions)
use Rattle.std.specs.Prelude.{List, Bool, Option, Some, None, Result, Ok, [], codes}
use Rattle.msb_laws.specs.Results.{fold_ok}
use Rattle.msb_laws.specs.Words.{Text, Name, Path}
use Rattle.msb_values.specs.declared.cause.Cause.{Cause}
use Rattle.msb_values.specs.declared.item.Item.{Item}
use Rattle.msb_values.specs.declared.scope.Scope.{Scope}
use Rattle.msb_expand.specs.Reserved.{folder_of}
use Rattle.msb_expand.specs.Scenes.{Scene, list_in}
use Rattle.msb_expand.specs.Written.{expanded, expanded_entries, expanded_items, target_names}
use Rattle.msb_expand.specs.declared.entry.Entry.{Entry}
use Rattle.msb_expand.specs.declared.lens.Bucket.{Bucket}
use Rattle.msb_expand.specs.declared.lens.Use.{Use}
use Rattle.msb_expand.specs.declared.lens.Use.TheVariants.{Definition, Metadata, All, Batched}
use Rattle.msb_condition.specs.Truth.{View}
use Rattle.msb_condition.specs.Written.{condition_holds}
use Rattle.build_world.specs.declared.fault.EvalFault.{EvalFault}
use Rattle.build_world.specs.Elements.{At, attribute_of, or_fault}

-- the paths of the files, the path of the root file, the scope so far, what may stand there, the
-- item at hand with its type, and the bucket
pub record ElementContext : Type 0 where
  pub files : List Path
  pub project : Path
  pub scope : Scope
  pub usage : Use
  pub own : Option (Name × Item)
  pub bucket : Option Bucket

-- of item definitions; of items outside targets, and of what stands in a target
abbrev pub definition_context : List Path → Path → Scope → ElementContext
definition_context files project scope = record {
  files = files;
  project = project;
  scope = scope;
  usage = Definition;
  own = None;
  bucket =
      None;
}

abbrev pub item_context : List Path → Path → Scope → ElementContext
item_context files project scope = record
    { files = files; project = project; scope = scope; usage = All; own = None; bucket = None }

-- the same once the scope has changed
abbrev pub with_scope : ElementContext → Scope → ElementContext
with_scope p scope = record {
  files = p.files;
  project = p.project;
  scope = scope;
  usage = p.usage;
  own = p.own;
  bucket =
      p.bucket;
}

-- the metadata of an item see the item's own so far, those of a definition the defaults so far, and
-- those in a target the bucket
abbrev pub metadata_usage : Use → Use
metadata_usage All = Metadata
metadata_usage usage = usage

abbrev pub metadata_context : ElementContext → Name → Item → ElementContext
metadata_context p kind item = record {
  files = p.files;
  project = p.project;
  scope = p.scope;
  usage = metadata_usage p.usage;
  own =
      Some (kind, item);
  bucket = p.bucket;
}

-- an element in a target, in one of its buckets, where metadata are the bucket's
abbrev pub in_bucket : ElementContext → Bucket → ElementContext
in_bucket p bucket = record {
  files = p.files;
  project = p.project;
  scope = p.scope;
  usage = Batched;
  own = p.own;
  bucket =
      Some bucket;
}

-- each element in turn sees the scope that those ahead of it have left
abbrev pub after_each : (ElementContext → At → Result Scope EvalFault) → ElementContext → List At
    → Result Scope EvalFault
after_each step p elements = fold_ok (λ scope e. step (with_scope p scope) e) p.scope elements

-- in a file
abbrev pub scene_in : ElementContext → Path → Scene
scene_in p file = record {
  scope = p.scope;
  project = p.project;
  file = file;
  usage = p.usage;
  own = p.own;
  bucket =
      p.bucket;
}

-- the items of a type that the bucket sees
abbrev pub items_seen : ElementContext → Name → List Item
items_seen p kind = list_in p.bucket p.scope.items kind

-- Exists starts from the project's folder
abbrev pub view_in : ElementContext → Path → View
view_in p file = record { scene = scene_in p file; folder = folder_of p.project; files = p.files }

-- or from another one
abbrev pub view_from : Path → ElementContext → Path → View
view_from folder p file = record { scene = scene_in p file; folder = folder; files = p.files }

-- a Condition, a text, and the entries and the items of a list of an element; a fault is told at
-- the element
abbrev pub holds_from : Path → ElementContext → At → Option Text → Result Bool EvalFault
holds_from folder p e condition = or_fault e (condition_holds (view_from folder p e.file) condition)

abbrev pub holds_at : ElementContext → At → Option Text → Result Bool EvalFault
holds_at p e condition = or_fault e (condition_holds (view_in p e.file) condition)

abbrev pub text_at : ElementContext → At → Text → Result Text EvalFault
text_at p e written = or_fault e (expanded (scene_in p e.file) written)

abbrev pub entries_at : ElementContext → At → Text → Result (List Entry) EvalFault
entries_at p e written = or_fault e (expanded_entries (scene_in p e.file) written)

abbrev pub element_holds : ElementContext → At → Result Bool EvalFault
element_holds p e = holds_at p e (attribute_of (codes "Condition") e)

abbrev pub list_at : ElementContext → At → Text → Result (List Item) EvalFault
list_at p e written = or_fault e (expanded_items (scene_in p e.file) written)

-- the targets that a list names; an absent list names none
abbrev pub names_if : Scene → Option Text → Result (List Name) Cause
names_if scene None = Ok []
names_if scene (Some written) = target_names scene written

abbrev pub names_at : ElementContext → At → Option Text → Result (List Name) EvalFault
names_at p e written = or_fault e (names_if (scene_in p e.file) written)
