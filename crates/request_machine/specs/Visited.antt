-- The visit of a target, as plain data. (Target build order)
use Rattle.std.specs.Prelude.{Option, None, Some}
use Rattle.target_order.specs.Progress.{Progress}
use Rattle.build_world.specs.Instances.{Instance, seen_instance}
use Rattle.result_cache.specs.declared.run.RunId.{RunId}
use Rattle.request_machine.specs.declared.stage.Stage.{Stage}
use Rattle.request_machine.specs.declared.stage.Stage.TheVariants.{NotBegun, Visits, Over}
use Rattle.request_machine.specs.declared.stage.RunState.{RunState}
use Rattle.request_machine.specs.declared.stage.Visit.{Visit}
use Rattle.request_machine.specs.Walk.{RequestScope}

pub record Visited (T : Type 0) : Type 0 where
  pub instance : Instance
  pub state : RequestScope
  pub order : Progress
  pub run : RunId
  pub at : RunState T

abbrev pub seen_visit : {T : Type 0} → Visit T → Visited T
seen_visit v = record {
  instance = seen_instance v.instance;
  state = v.state;
  order = v.order;
  run = v.run;
  at =
      v.at;
}

-- the visit of a stage, where a target is visited
abbrev pub seen_stage : {T : Type 0} → Stage T → Option (Visited T)
seen_stage NotBegun = None
seen_stage (Visits v) = Some (seen_visit v)
seen_stage (Over reply) = None
