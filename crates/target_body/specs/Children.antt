-- The children of a target. (Target element; PropertyGroup element; ItemGroup element; Task
-- element)
use Rattle.std.specs.Prelude.{ℕ, List, ◌||◌, Result, Ok, codes, if◌then◌else◌}
use Rattle.std.specs.Str.{bytes_eq}
use Rattle.msb_laws.specs.Results.{map_ok}
use Rattle.msb_laws.specs.Words.{Name}
use Rattle.msb_elements.specs.Nodes.{name_of}
use Rattle.build_world.specs.Elements.{At, children_of}
use Rattle.msb_items.specs.TargetGroups.{group_changes}
use Rattle.target_incremental.specs.declared.decision.Choice.{Choice}
use Rattle.target_body.specs.Work.{Work, done, followed_by, each_in_turn}
use Rattle.target_body.specs.States.{
  Run,
  State,
  Stopped,
  or_stop,
  after_group,
  settled,
  context_in,
}
use Rattle.target_body.specs.Tasks.{task}

-- a PropertyGroup or an ItemGroup: all its changes, or none where one of its texts has a fault
abbrev pub group : Run → At → State → Result State Stopped
group run e s = map_ok (λ changes. after_group changes s)
    (or_stop s (group_changes (context_in run s s.scope) e))

pub data Kind : Type 0 where
  group_element : Kind
  on_error_element : Kind
  task_element : Kind

abbrev pub kind_of : Name → Kind
kind_of name =
    if bytes_eq name (codes "PropertyGroup") || bytes_eq name (codes "ItemGroup") then group_element
    else
    if bytes_eq name (codes "OnError") then on_error_element else task_element

-- an OnError does nothing here: the request visits its targets where the run has failed
abbrev pub child_by : Kind → Run → Choice → At → State → Work (Result State Stopped)
child_by group_element run choice e s = done (group run e s)
child_by on_error_element run choice e s = done (Ok s)
child_by task_element run choice e s = task run choice e s

-- a child, whose changes the scopes have when it is over
abbrev pub child : Run → Choice → At → State → Work (Result State Stopped)
child run choice e s = followed_by (child_by (kind_of (name_of e.node)) run choice e s)
    (λ end. done (map_ok settled end))

-- the children in order, by what is decided of the bucket
abbrev pub children : Run → Choice → State → Work (Result State Stopped)
children run choice s = each_in_turn (child run choice) (children_of run.target.element) s
