-- A project whose imports and Choose elements are put in their places, element by element.
-- (How MSBuild builds projects, evaluation phase; Import element; Choose element)
use Rattle.std.specs.Prelude.{
  ℕ,
  zero,
  suc,
  List,
  [],
  ◌∷◌,
  ◌++◌,
  Bool,
  true,
  false,
  Option,
  Some,
  None,
  Result,
  Ok,
  Err,
  codes,
  if◌then◌else◌,
}
use Rattle.std.specs.Str.{bytes_eq}
use Rattle.msb_laws.specs.Words.{Text}
use Rattle.file_store.specs.Files.{file_at}
use Rattle.file_store.specs.declared.tree.File.{File}
use Rattle.msb_laws.specs.Results.{and_then, map_ok}
use Rattle.msb_values.specs.Escapes.{unescaped}
use Rattle.msb_values.specs.declared.cause.Cause.TheVariants as cause
use Rattle.msb_elements.specs.Nodes.{Node, node, Nodes, no_nodes, more, without_children}
use Rattle.msb_expand.specs.declared.lens.Use.TheVariants.{Definition}
use Rattle.build_world.specs.declared.fault.EvalFault.{EvalFault}
use Rattle.build_world.specs.Elements.{At, at, attribute_of, fault_of}
use Rattle.build_world.specs.Readings.{project_of}
use Rattle.element_texts.specs.Contexts.{text_at}
use Rattle.msb_import.specs.Resolved.{resolved}
use Rattle.msb_import.specs.declared.resolving.ImportFault.{ImportFault}
use Rattle.msb_import.specs.declared.resolving.ImportFault.TheVariants.{
  Missing,
  Duplicate,
  ImportDepth,
  Path,
  Memory,
}
use Rattle.msb_properties.specs.declared.part.Part.{Part}
use Rattle.msb_properties.specs.declared.part.Part.TheVariants.{
  Imported,
  Grouped,
  Chosen,
  PassedOver,
  LaidOut,
}
use Rattle.msb_properties.specs.Settings.{Setting, Properties, context_at}
use Rattle.msb_properties.specs.Propertied.{properties_of, holds_in_file, holds_in_project}

-- the elements so far, the files that they come from, and the imports that were ignored
pub record Layout : Type 0 where
  pub elements : List At
  pub files : List Text
  pub duplicates : List Text

abbrev pub no_layout : Layout
no_layout = record { elements = []; files = []; duplicates = [] }

abbrev pub with_element : Layout → At → Layout
with_element l e = record
    { elements = l.elements ++ e ∷ []; files = l.files; duplicates = l.duplicates }

abbrev pub with_file : Layout → Text → Layout
with_file l file = record
    { elements = l.elements; files = l.files ++ file ∷ []; duplicates = l.duplicates }

abbrev pub with_duplicate : Layout → Text → Layout
with_duplicate l file = record
    { elements = l.elements; files = l.files; duplicates = l.duplicates ++ file ∷ [] }

-- what is done by the properties of the elements so far
abbrev pub by_properties : {X : Type 0} → Setting → Layout → (Properties → Result X EvalFault)
    → Result X EvalFault
by_properties s l next = and_then (properties_of s l.elements) next

-- one more element, whose properties have no fault
abbrev pub extended : Setting → Layout → At → Result Layout EvalFault
extended s l e = map_ok (λ p. with_element l e) (properties_of s (l.elements ++ e ∷ []))

-- what becomes of a child of a Project, an ImportGroup, a When or an Otherwise
abbrev pub part_of : Text → Part
part_of name =
    if bytes_eq name (codes "Import") then Imported else
    if bytes_eq name (codes "ImportGroup") then Grouped else
    if bytes_eq name (codes "Choose") then Chosen else
    if bytes_eq name (codes "UsingTask") then PassedOver else
    if bytes_eq name (codes "ProjectExtensions") then PassedOver else LaidOut

-- how a file is laid out that the last of a chain imports, by its path
abbrev pub Importing : Type 0
Importing = List Text → Text → Layout → Result Layout EvalFault

-- an import of a file that was laid out before is noted and ignored
abbrev pub imported_as : Importing → List Text → Layout → At → Result Text ImportFault
    → Result Layout EvalFault
imported_as imports chain l e (Ok path) = imports chain path l
imported_as imports chain l e (Err (Duplicate path)) = Ok (with_duplicate l path)
imported_as imports chain l e (Err (Missing path)) = Err (fault_of e (cause.MissingImport path))
imported_as imports chain l e (Err ImportDepth) = Err (fault_of e cause.ImportDepth)
imported_as imports chain l e (Err (Path text)) = Err (fault_of e (cause.BadPath text))
imported_as imports chain l e (Err Memory) = Err (fault_of e cause.Memory)

abbrev pub text_or_empty : Option Text → Text
text_or_empty (Some text) = text
text_or_empty None = []

-- the text of an import's Project, unescaped
abbrev pub import_text : Setting → Properties → At → Result Text EvalFault
import_text s p e = map_ok unescaped
    (text_at (context_at s p Definition) e (text_or_empty (attribute_of (codes "Project") e)))

abbrev pub import_if : Bool → Importing → Setting → List Text → Layout → At → Properties
    → Result Layout EvalFault
import_if true imports s chain l e p = and_then (import_text s p e)
    (λ text. imported_as imports chain l e (resolved s.files chain l.files text))
import_if false imports s chain l e p = Ok l

-- an Import
abbrev pub lay_import : Importing → Setting → List Text → Layout → At → Result Layout EvalFault
lay_import imports s chain l e = by_properties s l
    (λ p. and_then (holds_in_file s p e) (λ holds. import_if holds imports s chain l e p))

-- an element of a file, and each of some elements in turn; a Choose gives the first of its children
-- whose Condition holds, and an Otherwise has none
unfoldable mutual
  pub lay : Importing → Setting → List Text → Text → Layout → Node → Result Layout EvalFault
  lay imports s chain file l (node place name attributes text children) =
      let e = at file (node place name attributes text children) in
      elim (part_of name) [
        | Imported ↦ lay_import imports s chain l e
        | Grouped ↦ by_properties s l
            (λ p. and_then (holds_in_file s p e)
            (λ holds. elim holds [ true ↦ lay_all imports s chain file l children | false ↦ Ok l ]))
        | Chosen ↦ lay_chosen imports s chain file l children
        | PassedOver ↦ Ok l
        | LaidOut ↦ extended s l e
      ]

  pub lay_all : Importing → Setting → List Text → Text → Layout → Nodes
      → Result Layout EvalFault
  lay_all imports s chain file l no_nodes = Ok l
  lay_all imports s chain file l (more n ns) = and_then (lay imports s chain file l n)
      (λ next. lay_all imports s chain file next ns)

  pub lay_chosen : Importing → Setting → List Text → Text → Layout → Nodes
      → Result Layout EvalFault
  lay_chosen imports s chain file l no_nodes = Ok l
  lay_chosen imports s chain file l (more (node place name attributes text children) ns) =
      by_properties s l
      (λ p. and_then (holds_in_project s p (at file (node place name attributes text children)))
      (λ holds.
      elim holds [
        | true ↦ lay_all imports s chain file l children
        | false ↦ lay_chosen imports s chain file
            l ns
      ]))

abbrev pub nodes_in : Node → Nodes
nodes_in (node place name attributes text children) = children

-- a file: its Project element, and then the children of this
abbrev pub lay_project : Importing → Setting → List Text → Text → Layout → Node
    → Result Layout EvalFault
lay_project imports s chain file l root = and_then
    (extended s (with_file l file) (at file (without_children root)))
    (λ next. lay_all imports s chain file next (nodes_in root))

-- an import gives a file that is there
abbrev pub lay_found : Importing → Setting → List Text → Layout → Option File
    → Result Layout EvalFault
lay_found imports s chain l None = Ok l
lay_found imports s chain l (Some file) = and_then (project_of file)
    (λ root. lay_project imports s chain file.path l root)

-- with at most so many files from this one on; an import is refused before there are none left
abbrev pub lay_within : ℕ → Setting → Importing
lay_within zero s chain path l = Ok l
lay_within (suc n) s chain path l = lay_found (lay_within n s) s (chain ++ path ∷ []) l
    (file_at path s.files)

-- the project of an instance, in chains of at most 64 files
abbrev pub layout_of : Setting → Result Layout EvalFault
layout_of s = lay_within 64 s [] s.path no_layout
