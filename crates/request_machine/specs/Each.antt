-- What the targets of some names have returned, name by name. (MSBuild task, TargetOutputs)
-- Contracts of private functions alone name this: what requests mean is told without it.
use Rattle.std.specs.Prelude.{List, [], Bool, true, false}
use Rattle.msb_laws.specs.Words.{Name}
use Rattle.result_cache.specs.declared.request.Returned.{Returned}
use Rattle.request_machine.specs.Requests.{returned_of}

-- a name that came before adds nothing
abbrev pub returned_unless : Bool → List Returned → Name → List Returned
returned_unless true returned name = []
returned_unless false returned name = returned_of returned name
