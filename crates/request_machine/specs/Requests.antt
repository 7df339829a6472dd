-- A request of a project: what it asks of the project between its runs, and what it gives. (Target
-- build order; OnError element; MSBuild task, TargetOutputs)
use Rattle.std.specs.Prelude.{
  List,
  [],
  ◌∷◌,
  ◌++◌,
  filter,
  not,
  Bool,
  true,
  false,
  ◌&&◌,
  Option,
  Some,
  None,
  Result,
  Ok,
  codes,
  length,
  ◌==◌,
}
use Rattle.std.specs.List.{flat_map, find}
use Rattle.std.specs.Str.{bytes_eq}
use Rattle.msb_laws.specs.Results.{and_then, map_ok, all_ok}
use Rattle.msb_laws.specs.Words.{Name, Text}
use Rattle.msb_values.specs.declared.key.InstanceKey.{InstanceKey}
use Rattle.msb_values.specs.declared.scope.Scope.{Scope}
use Rattle.file_store.specs.declared.tree.File.{File}
use Rattle.msb_elements.specs.Nodes.{name_of}
use Rattle.msb_expand.specs.Scenes.{scene_at}
use Rattle.msb_expand.specs.declared.lens.Use.TheVariants.{All}
use Rattle.build_world.specs.Elements.{At, children_of, attribute_of, or_fault}
use Rattle.build_world.specs.declared.fault.EvalFault.{EvalFault}
use Rattle.build_world.specs.Instances.{Instance, UsedTarget}
use Rattle.element_texts.specs.Contexts.{ElementContext, item_context, element_holds, names_if}
use Rattle.result_cache.specs.Journal.{Journal}
use Rattle.result_cache.specs.declared.request.RequestKey.{RequestKey}
use Rattle.result_cache.specs.declared.request.Returned.{Returned}
use Rattle.msb_files.specs.Views.{paths}
use Rattle.build_meaning.specs.Walk.{Reply}
use Rattle.target_body.specs.States.{target_named}

-- the files of a build, and an instance of a project as it was evaluated
pub record Project : Type 0 where
  pub files : List File
  pub key : InstanceKey
  pub instance : Instance

-- what the texts of its targets see at a moment: the scope then, and the files as the request's
-- journal has them
abbrev pub context_at : Project → Scope → Journal → ElementContext
context_at p scope journal = item_context (paths (record { files = p.files; journal = journal }))
    p.key.path scope

-- whether the Condition of an element holds
abbrev pub holds_at : Project → Scope → Journal → At → Result Bool EvalFault
holds_at p scope journal e = element_holds (context_at p scope journal) e

-- the targets that a list of an element names
abbrev pub names_at : Project → Scope → Name → At → Result (List Name) EvalFault
names_at p scope attribute e = or_fault e
    (names_if (scene_at scope p.key.path e.file All) (attribute_of attribute e))

-- the target of this name
abbrev pub target_at : Project → Name → Option UsedTarget
target_at p name = target_named p.instance.targets name

-- the order asks of targets of the project alone
abbrev pub holds_of : Project → Scope → Journal → Option UsedTarget → Result Bool EvalFault
holds_of p scope journal None = Ok false
holds_of p scope journal (Some target) = holds_at p scope journal target.element

abbrev pub depends_of : Project → Scope → Option UsedTarget → Result (List Name) EvalFault
depends_of p scope None = Ok []
depends_of p scope (Some target) = names_at p scope (codes "DependsOnTargets") target.element

-- what an OnError element names, by whether its Condition holds
abbrev pub errors_if : Bool → Project → Scope → At → Result (List Name) EvalFault
errors_if true p scope e = names_at p scope (codes "ExecuteTargets") e
errors_if false p scope e = Ok []

-- a child of a target, by whether it is an OnError element
abbrev pub errors_by : Bool → Project → Scope → Journal → At → Result (List Name) EvalFault
errors_by true p scope journal e = and_then (holds_at p scope journal e)
    (λ holds. errors_if holds p scope e)
errors_by false p scope journal e = Ok []

abbrev pub errors_at : Project → Scope → Journal → At → Result (List Name) EvalFault
errors_at p scope journal e = errors_by (bytes_eq (name_of e.node) (codes "OnError")) p scope
    journal e

-- the targets that the OnError elements among some children name, in order
abbrev pub errors_of : Project → Scope → Journal → List At → Result (List Name) EvalFault
errors_of p scope journal elements = map_ok (flat_map (λ names. names))
    (all_ok (errors_at p scope journal) elements)

-- those of a failed target: all Conditions and lists are read before the first of the targets is
-- visited
abbrev pub on_error : Project → Scope → Journal → Option UsedTarget
    → Result (List Name) EvalFault
on_error p scope journal None = Ok []
on_error p scope journal (Some target) = errors_of p scope journal (children_of target.element)

-- the targets that are asked for: those that are named, or the default ones
abbrev pub named_or : Bool → List Name → List Name → List Name
named_or true named default = named
named_or false named default = default

abbrev pub asked_targets : Instance → RequestKey → List Name
asked_targets instance key = named_or key.named key.targets instance.default

-- the initial targets come first
abbrev pub all_targets : Instance → RequestKey → List Name
all_targets instance key = instance.initial ++ asked_targets instance key

-- each of these names once, at its first place
abbrev pub once : List Name → List Name
once [] = []
once (name ∷ names) = name ∷ filter (λ other. not (bytes_eq other name)) (once names)

-- what a target has returned, if it has run
abbrev pub if_returned : Option Returned → List Returned
if_returned None = []
if_returned (Some returned) = returned ∷ []

abbrev pub returned_of : List Returned → Name → List Returned
returned_of returned name = if_returned (find (λ r. bytes_eq r.target name) returned)

-- what the request gives where it succeeds: the items that the targets asked for have returned
abbrev pub succeeded : Instance → RequestKey → List Returned → Reply
succeeded instance key returned =
    record {
      ok = true;
      evaluated = true;
      returned = flat_map (returned_of returned)
          (once (asked_targets instance key));
      error = None;
    }

-- a failed request returns no items
abbrev pub failed : Option Text → Reply
failed error = record { ok = false; evaluated = true; returned = []; error = error }

-- a project that can't be evaluated gives the text of its fault
abbrev pub unevaluated : Text → Reply
unevaluated fault = record { ok = false; evaluated = false; returned = []; error = Some fault }

-- nothing is named, and the project has no target
abbrev pub has_no_targets : Instance → RequestKey → Bool
has_no_targets instance key = (length instance.targets == 0) && not key.named
