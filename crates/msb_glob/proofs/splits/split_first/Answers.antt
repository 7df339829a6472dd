use Rattle.msb_glob.proofs.Segments.{parts_of_split, shorter_behind_split}
use Rattle.msb_glob.proofs.splits.split_first.Goals as goal

pub returns-clause-parts : goal.returns-clause-parts
returns-clause-parts c = parts_of_split c.args.separator c.args.text.now c.split_once.result
    c.requires c.split_once.ensures.cases

pub returns-clause-shorter : goal.returns-clause-shorter
returns-clause-shorter c = shorter_behind_split c.args.separator c.args.text.now c.split_once.result
    c.requires c.split_once.ensures.cases
