-- What comes of an ask of the order: it is answered, or the request wants a run or is over. (Target
-- build order)
-- Contracts of private functions alone name this: what requests mean is told without it.
use Rattle.std.specs.Prelude.{Bool, true, false, Result, Ok, Err}
use Rattle.target_order.specs.Visit.{End, finished, stopped, circle, unknown}
use Rattle.target_order.specs.declared.asks.OrderAsk.{OrderAsk}
use Rattle.target_order.specs.declared.asks.OrderAsk.TheVariants.{
  Condition,
  Depends,
  Body,
  Done,
  Circle,
  Unknown,
}
use Rattle.target_order.specs.declared.asks.OrderAnswer.{OrderAnswer}
use Rattle.build_world.specs.declared.fault.EvalFault.{EvalFault}
use Rattle.result_cache.specs.Journal.{Journal}
use Rattle.result_cache.specs.declared.request.RequestKey.{RequestKey}
use Rattle.request_machine.specs.declared.order.NextStop.TheVariants.{Wants, Over}
use Rattle.request_machine.specs.declared.order.OrderReply.{OrderReply}
use Rattle.request_machine.specs.declared.order.OrderReply.TheVariants.{Answer, Stop}
use Rattle.request_machine.specs.Requests.{Project}
use Rattle.request_machine.specs.Walk.{
  RequestScope,
  condition_answer,
  depends_answer,
  faulted,
  reply_of,
}

-- an answer of the project, or the end of the request
abbrev pub reply_by : Result OrderAnswer EvalFault → OrderReply
reply_by (Ok answer) = Answer answer
reply_by (Err fault) = Stop (Over (faulted fault))

-- every target was visited, or the OnError targets of a failed one were
abbrev pub end_by : (has_failed : Bool) → End
end_by true = stopped
end_by false = finished

abbrev pub order_reply_of : Project → RequestKey → RequestScope → Journal → Bool → OrderAsk →
    OrderReply
order_reply_of p key s journal has_failed (Condition name) = reply_by
    (condition_answer p s journal name)
order_reply_of p key s journal has_failed (Depends name) = reply_by (depends_answer p s name)
order_reply_of p key s journal has_failed (Body name) = Stop (Wants name)
order_reply_of p key s journal has_failed Done = Stop
    (Over (reply_of p key (end_by has_failed) s))
order_reply_of p key s journal has_failed (Circle names) = Stop
    (Over (reply_of p key (circle names) s))
order_reply_of p key s journal has_failed (Unknown name) = Stop
    (Over (reply_of p key (unknown name) s))
