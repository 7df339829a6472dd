-- The changes of a PropertyGroup or an ItemGroup in a target. (Target element; PropertyGroup
-- element; ItemGroup element)
use Rattle.std.specs.Prelude.{
  List,
  [],
  ◌∷◌,
  ◌++◌,
  Bool,
  true,
  false,
  Option,
  Some,
  None,
  Result,
  Ok,
  codes,
  if◌then◌else◌,
}
use Rattle.std.specs.Str.{bytes_eq}
use Rattle.msb_laws.specs.Words.{Text, Name}
use Rattle.msb_laws.specs.Results.{and_then, map_ok}
use Rattle.msb_values.specs.Changes.{all_applied}
use Rattle.msb_values.specs.Keys.{key_of}
use Rattle.msb_values.specs.declared.change.Change.{Change}
use Rattle.msb_values.specs.declared.scope.Scope.{Scope}
use Rattle.msb_elements.specs.Nodes.{name_of}
use Rattle.build_world.specs.declared.fault.EvalFault.{EvalFault}
use Rattle.build_world.specs.Elements.{At, children_of}
use Rattle.msb_items.specs.declared.group.Group.{Group}
use Rattle.msb_items.specs.declared.group.Group.TheVariants.{Properties, Items}
use Rattle.element_texts.specs.Contexts.{
  ElementContext,
  with_scope,
  in_bucket,
  scene_in,
  element_holds,
}
use Rattle.msb_items.specs.Batched.{joined_ok, element_buckets}
use Rattle.msb_items.specs.TargetItems.{item_changes}
use Rattle.msb_items.specs.TargetProperties.{property_changes}

-- a Label has no meaning
abbrev pub ignored_attributes : List Text
ignored_attributes = codes "Label" ∷ []

-- which elements stand in a group
abbrev pub group_of : Text → Group
group_of name = if bytes_eq name (codes "PropertyGroup") then Properties else Items

-- in a bucket
abbrev pub changes_in : Group → Name → ElementContext → At → Result (List Change) EvalFault
changes_in Properties name p e = property_changes name p e
changes_in Items kind p e = item_changes kind p e

-- an item element names its own type
abbrev pub own_type : Group → Name → Option Name
own_type Properties name = None
own_type Items kind = Some kind

-- bucket by bucket, each of which sees the scope as the element found it
abbrev pub changes_named : Option Name → Group → ElementContext → At
    → Result (List Change) EvalFault
changes_named None group p e = Ok []
changes_named (Some name) group p e =
    and_then (element_buckets (scene_in p e.file) ignored_attributes e (own_type group name))
    (joined_ok (λ bucket. changes_in group name (in_bucket p bucket) e))

abbrev pub element_changes : Group → ElementContext → At → Result (List Change) EvalFault
element_changes group p e = changes_named (key_of (name_of e.node)) group p e

-- element by element, each of which sees what those ahead of it have changed
abbrev pub changes_of_each : (ElementContext → At → Result (List Change) EvalFault) → ElementContext
    → List At
    → Result (List Change) EvalFault
changes_of_each of p [] = Ok []
changes_of_each of p (e ∷ es) =
    and_then (of p e)
    (λ changes. map_ok (λ later. changes ++ later)
    (changes_of_each of (with_scope p (all_applied changes p.scope)) es))

abbrev pub group_changes_if : Bool → ElementContext → At → Result (List Change) EvalFault
group_changes_if true p e = changes_of_each (element_changes (group_of (name_of e.node))) p
    (children_of e)
group_changes_if false p e = Ok []

-- all the changes of a group whose Condition holds, or the first fault
abbrev pub group_changes : ElementContext → At → Result (List Change) EvalFault
group_changes p e = and_then (element_holds p e) (λ holds. group_changes_if holds p e)
