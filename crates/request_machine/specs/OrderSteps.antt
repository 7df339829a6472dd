-- How a request goes on after the run of a target. (Target build order; OnError element)
-- Contracts of private functions alone name this: what requests mean is told without it.
use Rattle.std.specs.Prelude.{◌≡◌, true}
use Rattle.msb_laws.specs.Words.{Name}
use Rattle.target_order.specs.Answers.{fits}
use Rattle.target_order.specs.Left.{left}
use Rattle.target_order.specs.Progress.{Progress}
use Rattle.target_order.specs.declared.visits.Asked.TheVariants.{Body as ForBody}
use Rattle.result_cache.specs.Journal.{Journal}
use Rattle.result_cache.specs.declared.record.Record.{Record}
use Rattle.result_cache.specs.declared.request.RequestKey.{RequestKey}
use Rattle.request_machine.specs.Requests.{Project}
use Rattle.request_machine.specs.NextStops.{StandsNext}
use Rattle.request_machine.specs.Worlds.{Bodies}
use Rattle.request_machine.specs.Walk.{RequestScope, walk, after_target}
use Rattle.request_machine.specs.Stages.{IsReady, left_by}
use Rattle.request_machine.specs.declared.after_run.OrderStep.{OrderStep}
use Rattle.request_machine.specs.declared.order.NextStop.{NextStop}
use Rattle.request_machine.specs.declared.order.OrderReply.{OrderReply}
use Rattle.request_machine.specs.declared.order.OrderReply.TheVariants.{Answer, Stop}

-- an answer fits a body that was asked for
abbrev pub FitsBody : OrderReply → Type 0
FitsBody (Answer answer) = fits ForBody answer ≡ true
FitsBody (Stop next_stop) = Unit {0}

-- the order goes on by an answer; where the request has stopped it stays as it is
abbrev pub FollowsReply : Project → RequestKey → RequestScope → Journal → Progress → OrderReply →
    NextStop → Progress → Type 0
FollowsReply p key s journal order (Answer answer) next_stop now = StandsNext p key s journal
    (left order answer) next_stop now
FollowsReply p key s journal order (Stop stopped) next_stop now = next_stop ≡ stopped

-- what follows is what the definition says of the run of this target
pub record Follows (p : Project) (key : RequestKey) (s : RequestScope) (journal : Journal)
    (order : Progress) (name : Name) (made : Record) (f : OrderStep) : Type 0 where
  pub ready : IsReady f.next_stop f.order
  pub goes : (bodies : Bodies) →
      after_target p (λ answer. walk p key bodies (left order answer)) s name made journal
      ≡ left_by p key bodies f.state f.order journal f.next_stop
