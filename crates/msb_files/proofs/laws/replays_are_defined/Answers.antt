use Rattle.msb_files.proofs.Defined.{defined}
use Rattle.msb_files.proofs.laws.replays_are_defined.Goals as goal

pub returns : goal.returns
returns c = defined
