-- What a request asks that wants a run or is over. (Target build order)
-- Contracts of private functions alone name this: what requests mean is told without it.
use Rattle.std.specs.Prelude.{◌≡◌, List}
use Rattle.msb_laws.specs.Words.{Name}
use Rattle.build_meaning.specs.SoFar.{result_of}
use Rattle.build_scheduler.specs.Position.{ask_at}
use Rattle.build_scheduler.specs.declared.walker.Ask.{Ask}
use Rattle.build_scheduler.specs.declared.walker.Ask.TheVariants.{Want, Done}
use Rattle.build_world.specs.declared.world.World.{World as Given}
use Rattle.msb_values.specs.declared.key.InstanceKey.{InstanceKey}
use Rattle.result_cache.specs.Journal.{Journal}
use Rattle.result_cache.specs.declared.request.RequestKey.{RequestKey}
use Rattle.result_cache.specs.declared.run.RunId.{RunId}
use Rattle.task_trait.specs.declared.tools.ToolInput.{ToolInput}
use Rattle.request_machine.specs.Stages.{instance_in}
use Rattle.request_machine.specs.Positions.{place_of}
use Rattle.request_machine.specs.Walk.{run_of}
use Rattle.request_machine.specs.declared.stage.Stage.{Stage}
use Rattle.request_machine.specs.declared.order.NextStop.{NextStop}
use Rattle.request_machine.specs.declared.order.NextStop.TheVariants.{Wants, Over}

-- where it stands next
abbrev pub asked_by : InstanceKey → List RunId → NextStop → Ask
asked_by instance runs (Wants name) = Want (run_of instance name)
asked_by instance runs (Over reply) = Done (result_of reply runs)

-- this is what it asks at its stage, in any world and by any journal
abbrev pub AsksAt : {T : Type 0} → List RunId → Stage T → Ask → Type 0
AsksAt {T} runs stage ask =
    (calls : T → List (Name × ToolInput)) (w : Given) (key : RequestKey) (journal : Journal)
    → instance_in key.instance stage ≡ key.instance
    → ask ≡ ask_at runs (place_of calls w key journal stage)
