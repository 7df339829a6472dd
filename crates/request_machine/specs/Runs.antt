-- Whose run it is that a request is in. (Target element)
use Rattle.result_cache.specs.declared.run.RunId.{RunId}
use Rattle.request_machine.specs.declared.stage.RunState.{RunState}
use Rattle.request_machine.specs.declared.stage.RunState.TheVariants.{Wanted, Called, Made}

-- the run of the body that is held, or this one where none is
abbrev pub run_in : {T : Type 0} → RunId → RunState T → RunId
run_in run Wanted = run
run_in run (Called body noted) = body.run
run_in run (Made made noted) = run
