use Rattle.std.proofs.Common.{ap, ◌∙◌}
use Rattle.msb_files.specs.Places.{path_of}
use Rattle.msb_files.proofs.sorted.path_at.Goals as goal

pub returns-in-Some : goal.returns-in-Some
returns-in-Some c = c.path.ensures ∙ ap path_of c.in-Some.ensures

pub returns-in-None : goal.returns-in-None
returns-in-None c = ap path_of c.in-None.ensures
