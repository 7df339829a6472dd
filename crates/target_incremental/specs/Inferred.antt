-- What an Output of a task is taken to be where the task is not called. (Incremental builds: output
-- inference)
use Rattle.std.specs.Prelude.{List, Option, option_map}
use Rattle.msb_laws.specs.Words.{Name}
use Rattle.msb_values.specs.declared.item.Item.{Item}
use Rattle.task_trait.specs.Params.{param_at}
use Rattle.task_trait.specs.declared.tools.Param.{Param}

-- the parameter of the same name, if the task is given one
abbrev pub inferred : List Param → Name → Option (List Item)
inferred params output = option_map (λ param. param.items) (param_at output params)
