use Rattle.std.proofs.Common.{rules}
use Rattle.msb_paths.proofs.NormalLaws.{normal_where_ok}
use Rattle.msb_paths.proofs.normal.normalize.Goals as goal

pub returns-clause-normal : goal.returns-clause-normal
returns-clause-normal c = normal_where_ok _ c.args.base.now c.args.text.now (search rules)
