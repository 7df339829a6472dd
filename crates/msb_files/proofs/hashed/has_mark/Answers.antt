use Rattle.std.proofs.Common.{◌∙◌}
use Rattle.msb_files.proofs.hashed.has_mark.Goals as goal

pub returns : goal.returns
returns c = λ entries is. c.contains.ensures ∙ is c.args.mark.now
