use Rattle.std.proofs.Common.{lit<}
use Rattle.std.proofs.lemmas.Str.Pattern.{split_parts}
use Rattle.task_kit.proofs.Percents.{cut_is}
use Rattle.task_kit.proofs.patterns.cut_at_percent.Goals as goal

pub returns-clause-cut : goal.returns-clause-cut
returns-clause-cut c = cut_is c.args.text.now c.split_once.result
    (split_parts 37 c.args.text.now c.split_once.result c.split_once.ensures.cases (lit< tt))
