use Rattle.std.proofs.Common.{◌≡◌, drop}
use Rattle.msb_files.specs.Indices.{last_act}
use Rattle.msb_files.proofs.part.Part.last_act.Given as goal

abbrev pub invariant-loop-at : goal.invariant-loop-at
invariant-loop-at l = last_act (drop l.at l.self) l.path ≡ last_act l.self l.path
