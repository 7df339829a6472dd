use Rattle.build_meaning.specs.Meaning.{most_instances}
use Rattle.build_scheduler.proofs.instances.below_most.Goals as goal

pub returns-then-count-gt-MOST : goal.returns-then-count-gt-MOST
unfolding most_instances
returns-then-count-gt-MOST c = (c.if-count-gt-MOST.true, c.in_ok-copy.ensures)

pub returns : goal.returns
unfolding most_instances
returns c = c.if-count-gt-MOST.false
