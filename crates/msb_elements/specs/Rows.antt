-- The elements of a project file, a row for each: its name, the attributes and the children that it
-- may have. (MSBuild project file schema reference.)
--
-- `Label` may stand on every element, and is in no row. The names are exact in case.
use Rattle.std.specs.Prelude.{ℕ, List, [], ◌∷◌, Bool, true, false, Option, Some, None, codes}
use Rattle.msb_laws.specs.Words.{Name}
use Rattle.msb_values.specs.Names.{is_name_byte, is_target_byte}
use Rattle.msb_elements.specs.declared.kind.Kind.{Kind}
use Rattle.msb_elements.specs.declared.kind.Kind.TheVariants.{
  Project,
  ProjectExtensions,
  PropertyGroup,
  Property,
  ItemGroup,
  Item,
  TargetItemGroup,
  TargetItem,
  ItemDefinitionGroup,
  Definition,
  Metadata,
  Import,
  ImportGroup,
  Choose,
  When,
  Otherwise,
  UsingTask,
  Target,
  Task,
  Output,
  OnError,
}
use Rattle.msb_elements.specs.declared.kind.Role.{Role}
use Rattle.msb_elements.specs.declared.kind.Role.TheVariants.{Known, Named, NotAllowed}

-- one of these attributes is needed, or only where another stands; the first of them is the one
-- that is missed
pub record Need : Type 0 where
  pub beside : Option Name
  pub one_of : List Name

-- two attributes, in byte order, that may not stand together, unless another stands there too
pub record Clash : Type 0 where
  pub first : Name
  pub second : Name
  pub unless : Option Name

-- an attribute whose value is a name, and what may follow the first character of such a name
pub record NameValue : Type 0 where
  pub attribute : Name
  pub may_follow : ℕ → Bool

-- which children an element may have: these; these, and of the names that stand in no row each as
-- this one; each as this one; or any, which nobody looks at
pub data Children : Type 0 where
  these : List Kind → Children
  these_or_new : List Kind → Kind → Children
  each : Kind → Children
  any : Children

-- `tag` is the element's name, if it has one and the same; `others` is what an attribute out of the
-- list is
pub record Row : Type 0 where
  pub tag : Option Name
  pub attributes : List Name
  pub others : Role
  pub needs : List Need
  pub clashes : List Clash
  pub values : List NameValue
  pub children : Children
  pub text : Bool

abbrev need : List Name → Need
need names = record { beside = None; one_of = names }

abbrev clash : Name → Name → Clash
clash first second = record { first = first; second = second; unless = None }

abbrev condition : List Name
condition = codes "Condition" ∷ []

-- an element of this name with these attributes alone, without children and text
abbrev fixed : Name → List Name → Row
fixed tag attributes = record {
  tag = Some tag;
  attributes = attributes;
  others = NotAllowed;
  needs = [];
  clashes = [];
  values
      = [];
  children = these [];
  text = false;
}

-- an element that has its own name, with these attributes alone, without children and text
abbrev free : List Name → Row
free attributes = record {
  tag = None;
  attributes = attributes;
  others = NotAllowed;
  needs = [];
  clashes = [];
  values =
      [];
  children = these [];
  text = false;
}

abbrev pub names_items : List Name
names_items = codes "Include" ∷ codes "Remove" ∷ codes "Update" ∷ []

abbrev pub item_clashes : List Clash
item_clashes = clash (codes "Include") (codes "Remove") ∷ clash (codes "Include") (codes "Update")
    ∷ clash (codes "Remove") (codes "Update")
    ∷ record { first = codes "Exclude"; second = codes "Remove"; unless = Some (codes "Include") }
    ∷ record { first = codes "Exclude"; second = codes "Update"; unless = Some (codes "Include") }
    ∷ []

abbrev groups : List Kind
groups = PropertyGroup ∷ ItemGroup ∷ ItemDefinitionGroup ∷ Choose ∷ []

abbrev pub row_of : Kind → Row
row_of Project = record
    (fixed (codes "Project")
    (codes "DefaultTargets" ∷ codes "InitialTargets" ∷ codes "TreatAsLocalProperty"
    ∷ codes "ToolsVersion" ∷ codes "xmlns" ∷ [])) {
      children = these
          (PropertyGroup ∷ ItemGroup ∷ ItemDefinitionGroup ∷ Import ∷ ImportGroup ∷ Choose
          ∷ UsingTask
          ∷ Target ∷ ProjectExtensions ∷ []);
    }
row_of ProjectExtensions = record (fixed (codes "ProjectExtensions") [])
    { others = Known; children = any; text = true }
row_of PropertyGroup = record (fixed (codes "PropertyGroup") condition) { children = each Property }
row_of Property = record (free condition) { text = true }
row_of ItemGroup = record (fixed (codes "ItemGroup") condition) { children = each Item }
row_of Item = record
    (free (codes "Include" ∷ codes "Exclude" ∷ codes "Remove" ∷ codes "Update" ∷ condition)) {
      others = Named;
      needs = need names_items
          ∷ [];
      clashes = item_clashes;
      children = each Metadata;
    }
row_of TargetItemGroup = record (fixed (codes "ItemGroup") condition) { children = each TargetItem }
row_of TargetItem = record
    (free
    (codes "Include" ∷ codes "Exclude" ∷ codes "Remove" ∷ codes "Update" ∷ codes "KeepDuplicates"
    ∷ codes "KeepMetadata" ∷ codes "RemoveMetadata" ∷ condition)) {
      others = Named;
      needs = record { beside = Some (codes "Exclude"); one_of = names_items }
          ∷ [];
      clashes = clash (codes "KeepMetadata") (codes "RemoveMetadata")
          ∷ item_clashes;
      children = each Metadata;
    }
row_of ItemDefinitionGroup = record (fixed (codes "ItemDefinitionGroup") condition)
    { children = each Definition }
row_of Definition = record (free condition) { others = Named; children = each Metadata }
row_of Metadata = record (free condition) { text = true }
row_of Import = record (fixed (codes "Import") (codes "Project" ∷ condition))
    { needs = need (codes "Project" ∷ []) ∷ [] }
row_of ImportGroup = record (fixed (codes "ImportGroup") condition)
    { children = these (Import ∷ []) }
row_of Choose = record (fixed (codes "Choose") []) { children = these (When ∷ Otherwise ∷ []) }
row_of When = record (fixed (codes "When") condition)
    { needs = need condition ∷ []; children = these groups }
row_of Otherwise = record (fixed (codes "Otherwise") []) { children = these groups }
row_of UsingTask = record (fixed (codes "UsingTask") []) { others = Known }
row_of Target = record
    (fixed (codes "Target")
    (codes "Name" ∷ codes "DependsOnTargets" ∷ codes "BeforeTargets" ∷ codes "AfterTargets"
    ∷ codes "Inputs" ∷ codes "Outputs" ∷ codes "Returns" ∷ codes "KeepDuplicateOutputs"
    ∷ condition)) {
      needs = need (codes "Name" ∷ []) ∷ [];
      values = record
          { attribute = codes "Name"; may_follow = is_target_byte }
          ∷ [];
      children = these_or_new (PropertyGroup ∷ TargetItemGroup ∷ OnError ∷ []) Task;
    }
row_of Task = record
    (free
    (codes "ContinueOnError" ∷ codes "MSBuildArchitecture" ∷ codes "MSBuildRuntime" ∷ condition))
    { others = Named; children = these (Output ∷ []) }
row_of Output = record
    (fixed (codes "Output")
    (codes "TaskParameter" ∷ codes "ItemName" ∷ codes "PropertyName" ∷ condition)) {
      needs = need (codes "TaskParameter" ∷ [])
          ∷ need (codes "ItemName" ∷ codes "PropertyName" ∷ [])
          ∷ [];
      clashes = clash (codes "ItemName") (codes "PropertyName") ∷ [];
      values = record { attribute = codes "ItemName"; may_follow = is_name_byte }
          ∷ record { attribute = codes "PropertyName"; may_follow = is_name_byte }
          ∷ record { attribute = codes "TaskParameter"; may_follow = is_name_byte } ∷ [];
    }
row_of OnError = record (fixed (codes "OnError") (codes "ExecuteTargets" ∷ condition))
    { needs = need (codes "ExecuteTargets" ∷ []) ∷ [] }

abbrev pub has_clashes : List Clash → Bool
has_clashes [] = false
has_clashes (clash ∷ clashes) = true

-- the elements that have a name in the table
abbrev pub table : List Kind
table = Project ∷ ProjectExtensions ∷ PropertyGroup ∷ ItemGroup ∷ ItemDefinitionGroup ∷ Import
    ∷ ImportGroup ∷ Choose ∷ When ∷ Otherwise ∷ UsingTask ∷ Target ∷ Output ∷ OnError ∷ []
