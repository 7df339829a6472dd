use Rattle.std.proofs.Common.{ap}
use Rattle.std.specs.Result.{result_err}
use Rattle.msb_elements.proofs.Files.{json_some, json_none}
use Rattle.msb_elements.proofs.Formed.{project_some, project_none}
use Rattle.msb_elements.proofs.reading.read_project.Goals as goal

pub returns-in-Ok : goal.returns-in-Ok
returns-in-Ok c = rw (project_some _ _ (json_some _ _ c.in-Ok.ensures.ok.0 c.in-Ok.ensures.ok.1))
    c.root_of.ensures

pub returns-else-is_memory : goal.returns-else-is_memory
returns-else-is_memory c = ap result_err
    (project_none _
    (json_none _ (c.in-Err.ensures.err (λ m. let t = c.is_memory.ensures.1 m in cc))))
