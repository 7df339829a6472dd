-- How a request goes on after a run.
use Rattle.std.proofs.Common.{
  ◌≡◌,
  ℕ,
  List,
  Bool,
  true,
  false,
  Result,
  Ok,
  Err,
  refl,
  sym,
  ap,
  subst,
}
use Rattle.msb_laws.specs.Results.{map_ok}
use Rattle.target_order.specs.Left.{left}
use Rattle.target_order.specs.Progress.{Progress}
use Rattle.target_order.specs.declared.asks.OrderAnswer.{OrderAnswer}
use Rattle.target_order.specs.declared.asks.OrderAnswer.TheVariants.{Failed}
use Rattle.build_world.specs.declared.fault.EvalFault.{EvalFault}
use Rattle.result_cache.specs.Journal.{Journal}
use Rattle.result_cache.specs.declared.request.RequestKey.{RequestKey}
use Rattle.request_machine.specs.Requests.{Project, on_error, target_at}
use Rattle.request_machine.specs.Worlds.{Bodies}
use Rattle.request_machine.specs.Walk.{RequestScope, walk, run_answer, or_failed}
use Rattle.request_machine.specs.Stages.{IsReady, left_by}
use Rattle.request_machine.specs.OrderSteps.{FitsBody, FollowsReply}
use Rattle.request_machine.specs.OrderReplies.{reply_by}
use Rattle.request_machine.specs.declared.order.NextStop.{NextStop}
use Rattle.request_machine.specs.declared.order.OrderReply.{OrderReply}
use Rattle.request_machine.proofs.Starting.{next_left, next_ready}

-- what a run is answered by fits a body that was asked for
failed_fits : (r : Result (List (List ℕ)) EvalFault) → FitsBody (reply_by (map_ok Failed r))
failed_fits (Ok names) = refl
failed_fits (Err fault) = tt

pub run_fits : (p : Project) (ok : Bool) (s : RequestScope) (journal : Journal) (name : List ℕ)
    (order_reply : OrderReply) → order_reply ≡ reply_by (run_answer p ok s journal name) → FitsBody
    order_reply
run_fits p true s journal name order_reply is = subst FitsBody (sym is) refl
run_fits p false s journal name order_reply is = subst FitsBody (sym is)
    (failed_fits (on_error p s.scope journal (target_at p name)))

module _ (p : Project) (key : RequestKey) (s : RequestScope) (journal : Journal)
    (order now : Progress) (next_stop : NextStop) where
  goes_by : (r : Result OrderAnswer EvalFault)
      → FollowsReply p key s journal order (reply_by r) next_stop now → (bodies : Bodies) →
      or_failed r (λ answer. walk p key bodies (left order answer) s journal)
      ≡ left_by p key bodies s now journal next_stop
  goes_by (Ok answer) follows bodies = next_left p key s journal (left order answer) next_stop now
      follows bodies
  goes_by (Err fault) follows bodies = ap (left_by p key bodies s now journal) (sym follows)

  ready_by : (r : Result OrderAnswer EvalFault)
      → FollowsReply p key s journal order (reply_by r) next_stop now → IsReady next_stop now
  ready_by (Ok answer) follows = next_ready p key s journal (left order answer) next_stop now
      follows
  ready_by (Err fault) follows = subst (λ x. IsReady x now) (sym follows) tt

  pub run_goes : (r : Result OrderAnswer EvalFault) (order_reply : OrderReply) → order_reply ≡
      reply_by r
      → FollowsReply p key s journal order order_reply next_stop now → (bodies : Bodies) →
      or_failed r (λ answer. walk p key bodies (left order answer) s journal)
      ≡ left_by p key bodies s now journal next_stop
  run_goes r order_reply is follows bodies = goes_by r
      (subst (λ t. FollowsReply p key s journal order t next_stop now) is follows) bodies

  pub run_ready : (r : Result OrderAnswer EvalFault) (order_reply : OrderReply) → order_reply ≡
      reply_by r
      → FollowsReply p key s journal order order_reply next_stop now → IsReady next_stop now
  run_ready r order_reply is follows = ready_by r
      (subst (λ t. FollowsReply p key s journal order t next_stop now) is follows)
