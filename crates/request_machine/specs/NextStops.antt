-- Where a request stands when the order has been answered so far. (Target build order)
-- Contracts of private functions alone name this: what requests mean is told without it.
use Rattle.std.specs.Prelude.{◌≡◌}
use Rattle.msb_laws.specs.Asking.{Asking, asks}
use Rattle.target_order.specs.declared.asks.OrderAnswer.{OrderAnswer}
use Rattle.target_order.specs.declared.visits.Asked.TheVariants.{Body as ForBody}
use Rattle.target_order.specs.Left.{left}
use Rattle.target_order.specs.Progress.{Progress}
use Rattle.target_order.specs.Visit.{Question, body, End}
use Rattle.result_cache.specs.Journal.{Journal}
use Rattle.result_cache.specs.declared.request.RequestKey.{RequestKey}
use Rattle.build_meaning.specs.Walk.{gives}
use Rattle.request_machine.specs.declared.order.NextStop.{NextStop}
use Rattle.request_machine.specs.declared.order.NextStop.TheVariants.{Wants, Over}
use Rattle.request_machine.specs.Requests.{Project}
use Rattle.request_machine.specs.Walk.{RequestScope, walk}
use Rattle.request_machine.specs.Worlds.{Bodies}

-- the tree of the request is one that wants the run of this target and goes on with the order, or
-- one that is over
abbrev pub StandsNext : Project → RequestKey → RequestScope → Journal → Asking Question OrderAnswer
    End → NextStop → Progress → Type 0
StandsNext p key s journal tree (Wants name) order =
    (order.asked ≡ ForBody)
    × ((bodies : Bodies) → walk p key bodies tree s journal
    ≡ walk p key bodies (asks (body name) (left order)) s journal)
StandsNext p key s journal tree (Over reply) order = (bodies : Bodies)
    → walk p key bodies tree s journal ≡ gives reply
