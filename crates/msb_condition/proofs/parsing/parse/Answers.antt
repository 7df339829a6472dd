use Rattle.msb_condition.proofs.Complete.{only_answer}
use Rattle.msb_condition.proofs.Sound.{found_answer}
use Rattle.msb_condition.proofs.parsing.parse.Goals as goal

pub returns-clause-found : goal.returns-clause-found
returns-clause-found c = found_answer c.args.text.now c.read.result c.read.ensures

pub returns-clause-only : goal.returns-clause-only
returns-clause-only c = λ tree d. only_answer c.args.text.now c.read.result tree c.read.ensures d
