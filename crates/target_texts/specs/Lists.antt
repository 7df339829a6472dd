-- The Inputs and Outputs of a target in a bucket. (Target element: Inputs, Outputs; Incremental
-- builds)
use Rattle.std.specs.Prelude.{List, Option, Some, None, option_map, Result, Ok, Err}
use Rattle.msb_laws.specs.Words.{Text, Name, Path}
use Rattle.msb_laws.specs.Results.{and_then, map_ok, all_ok}
use Rattle.msb_paths.specs.Refused.{normal_path}
use Rattle.msb_paths.specs.declared.errors.NormalFault.{NormalFault}
use Rattle.msb_values.specs.Escapes.{unescaped}
use Rattle.msb_values.specs.declared.cause.Cause.{Cause}
use Rattle.msb_values.specs.declared.cause.Cause.TheVariants.{BadPath}
use Rattle.msb_values.specs.declared.item.Item.{Item}
use Rattle.msb_values.specs.declared.scope.Scope.{Scope}
use Rattle.msb_expression.specs.Reading.{reading}
use Rattle.msb_expression.specs.declared.expression.Part.{Part}
use Rattle.msb_expression.specs.declared.faults.ExprFault.{ExprFault}
use Rattle.msb_expand.specs.Reserved.{folder_of}
use Rattle.build_world.specs.Elements.{At, or_fault}
use Rattle.build_world.specs.declared.fault.EvalFault.{EvalFault}
use Rattle.msb_items.specs.Items.{list_of}
use Rattle.element_texts.specs.Contexts.{ElementContext, list_at}
use Rattle.target_incremental.specs.Shapes.{item_type}

-- The paths of Inputs and of Outputs in a bucket. Of a target that takes its items one by one, the
-- type, and the items that the bucket has of it.
pub record Lists : Type 0 where
  pub inputs : List Path
  pub outputs : List Path
  pub items : Option (Name × List Item)

-- an entry as a normal path on the project's folder
abbrev pub path_or_cause : Text → Result Path NormalFault → Result Path Cause
path_or_cause text (Ok path) = Ok path
path_or_cause text (Err fault) = Err (BadPath text)

abbrev pub path_of : Path → Item → Result Path Cause
path_of project item = path_or_cause (unescaped item.ident)
    (normal_path (folder_of project) (unescaped item.ident))

abbrev pub paths_at : ElementContext → At → Text → Result (List Path) EvalFault
paths_at p e written = and_then (list_at p e written)
    (λ items. or_fault e (all_ok (path_of p.project) items))

-- the type of a target that takes its items one by one
abbrev pub type_read : Result (List Part) ExprFault → Result (List Part) ExprFault → Option Name
type_read (Ok inputs) (Ok outputs) = item_type inputs outputs
type_read (Ok inputs) (Err fault) = None
type_read (Err fault) outputs = None

abbrev pub typed_items : Scope → (inputs outputs : Text) → Option (Name × List Item)
typed_items scope inputs outputs = option_map (λ kind. (kind, list_of scope kind))
    (type_read (reading inputs) (reading outputs))

abbrev pub lists_by : ElementContext → At → Option Text → Option Text
    → Result (Option Lists) EvalFault
lists_by p e (Some inputs) (Some outputs) =
    and_then (paths_at p e inputs)
    (λ ins.
    map_ok
    (λ outs.
    Some (record { inputs = ins; outputs = outs; items = typed_items p.scope inputs outputs }))
    (paths_at p e outputs))
lists_by p e (Some inputs) None = Ok None
lists_by p e None outputs = Ok None
