use Rattle.msb_program.proofs.Unloaded.{unloaded_answers, unloaded_undone}
use Rattle.msb_program.proofs.top.prepare.Goals as goal

pub returns-in-Err-clause-prepared : goal.returns-in-Err-clause-prepared
returns-in-Err-clause-prepared g c = λ tools.
    unloaded_answers tools _ _ _ c.in-Ok.options c.in-Err.fault c.in-Ok.ensures.reads
    c.in_default.not-Trial c.in-Err.ensures.cause c.in-Err.ensures.kind c.in-Err.ensures.kept
    c.print_load_fault.result c.print_load_fault.ensures

pub returns-in-Err-clause-undone : goal.returns-in-Err-clause-undone
returns-in-Err-clause-undone g c =
    unloaded_undone _ _ _ c.in-Ok.options c.in-Err.fault c.in-Ok.ensures.reads
    c.in_default.not-Trial c.in-Err.ensures.cause c.in-Err.ensures.kind c.in-Err.ensures.kept
    c.print_load_fault.result c.print_load_fault.ensures
