use Rattle.std.proofs.Common.{◌≡◌}
use Rattle.target_order.specs.Answers.{Fits}
use Rattle.target_order.specs.AsksLeft.{asks_left}
use Rattle.target_order.specs.Left.{left}
use Rattle.request_machine.specs.Seen.{seen_project}
use Rattle.request_machine.specs.Worlds.{Bodies}
use Rattle.request_machine.specs.Walk.{walk}
use Rattle.request_machine.proofs.context.RequestContext.answer_order.Given as goal

abbrev pub invariant-loop-answer : goal.invariant-loop-answer
invariant-loop-answer l = record {
  fits : Fits l.order l.answer;
  same : (bodies : Bodies)
      → walk (seen_project l.self.project) l.self.key.now bodies (left l.fn.order l.fn.first)
      l.self.state.now l.self.journal.now
      ≡ walk (seen_project l.self.project) l.self.key.now bodies (left l.order l.answer)
      l.self.state.now l.self.journal.now;
}

abbrev pub decreases-loop-answer : goal.decreases-loop-answer
decreases-loop-answer l = asks_left l.order
