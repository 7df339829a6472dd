use Rattle.trial_set.proofs.Drawing.{numbers_on, state_on}
use Rattle.trial_set.proofs.draws.Draws.numbers.Goals as goal

pub loop-left-preserved : goal.loop-left-preserved
loop-left-preserved c = record {
  numbers = numbers_on c.args.last c.loop-left.left c.loop-left.self.state _ c.draw.result _ _ _
      c.loop-left-test.true c.draw.ensures.state c.draw.ensures.answer c.in_ok-insert.ensures.keys
      c.loop-left.invariant.numbers;
  state = state_on c.args.last c.loop-left.left c.loop-left.self.state _ _ c.loop-left-test.true
      c.draw.ensures.state c.loop-left.invariant.state;
}
