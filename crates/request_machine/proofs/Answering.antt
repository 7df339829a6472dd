-- The order is answered by the project, ask by ask.
use Rattle.std.proofs.Common.{◌≡◌, Bool, true, false, Result, Ok, Err, refl, sym, ap, subst, ◌∙◌}
use Rattle.msb_laws.specs.Asking.{Asking, gives as ends, asks}
use Rattle.msb_laws.specs.Results.{map_ok}
use Rattle.target_order.specs.declared.asks.OrderAsk.{OrderAsk}
use Rattle.target_order.specs.declared.asks.OrderAsk.TheVariants.{
  Condition,
  Depends,
  Body as AskBody,
}
use Rattle.target_order.specs.declared.asks.OrderAnswer.{OrderAnswer}
use Rattle.target_order.specs.declared.asks.OrderAnswer.TheVariants.{Truth, Names}
use Rattle.target_order.specs.Answers.{Asks, told, fails, fits, asked_by}
use Rattle.target_order.specs.Left.{left}
use Rattle.target_order.specs.Progress.{Progress}
use Rattle.target_order.specs.Visit.{
  Question,
  condition,
  depends,
  body,
  End,
  finished,
  stopped,
  circle,
  unknown,
}
use Rattle.build_world.specs.declared.fault.EvalFault.{EvalFault}
use Rattle.build_meaning.specs.Walk.{Walk}
use Rattle.result_cache.specs.Journal.{Journal}
use Rattle.result_cache.specs.declared.request.RequestKey.{RequestKey}
use Rattle.task_trait.specs.declared.tools.ToolAnswer.{ToolAnswer}
use Rattle.task_trait.specs.declared.tools.ToolInput.{ToolInput}
use Rattle.request_machine.specs.declared.order.NextStop.{NextStop}
use Rattle.request_machine.specs.declared.order.NextStop.TheVariants.{Wants, Over}
use Rattle.request_machine.specs.declared.order.OrderReply.{OrderReply}
use Rattle.request_machine.specs.declared.order.OrderReply.TheVariants.{Answer, Stop}
use Rattle.request_machine.specs.Requests.{Project, holds_of, depends_of, target_at}
use Rattle.request_machine.specs.Walk.{RequestScope, Site, walk, or_failed, faulted, reply_of}
use Rattle.request_machine.specs.OrderReplies.{reply_by, order_reply_of}
use Rattle.request_machine.specs.NextStops.{StandsNext}
use Rattle.request_machine.specs.Worlds.{Bodies}

abbrev W : Type 0
W = Walk Site ToolInput ToolAnswer

-- the order is answered where the project has an answer
answer_given : {X : Type 0} (r : Result X EvalFault) (f : X → OrderAnswer) (answer : OrderAnswer)
    → reply_by (map_ok f r) ≡ Answer answer → (x : X) × (r ≡ Ok x) × (f x ≡ answer)
answer_given (Ok x) f answer e = (x, refl, cc)
answer_given (Err fault) f answer e = cc

-- and else the request is over
stop_given : {X : Type 0} (r : Result X EvalFault) (f : X → OrderAnswer) (next_stop : NextStop)
    → reply_by (map_ok f r) ≡ Stop next_stop → (fault : EvalFault) × (r ≡ Err fault)
    × (Over (faulted fault) ≡ next_stop)
stop_given (Ok x) f next_stop e = cc
stop_given (Err fault) f next_stop e = (fault, refl, cc)

same_stop : (a b : NextStop) → Stop a ≡ Stop b → a ≡ b
same_stop a b e = cc

module _ (p : Project) (key : RequestKey) (s : RequestScope) (journal : Journal) where
  abbrev goes : Bodies → Asking Question OrderAnswer End → W
  goes bodies tree = walk p key bodies tree s journal

  order_reply_at : (ask other : OrderAsk) (failed : Bool) (order_reply : OrderReply) → ask ≡ other
      → order_reply_of p key s journal failed ask ≡ order_reply → order_reply_of p key s journal
      failed other ≡ order_reply
  order_reply_at ask other failed order_reply is e = subst
      (λ a. order_reply_of p key s journal failed a ≡ order_reply) is e

  abbrev Advances : Asking Question OrderAnswer End → OrderAsk → Progress → OrderAnswer → Type 0
  Advances tree ask order answer = (fits (asked_by ask) answer ≡ true)
      × ((bodies : Bodies) → goes bodies tree ≡ goes bodies (left order answer))

  no_answer : (end : End) (failed : Bool) (answer : OrderAnswer)
      → order_reply_of p key s journal failed (told end) ≡ Answer answer → ⊥
  no_answer finished true answer e = cc
  no_answer finished false answer e = cc
  no_answer stopped true answer e = cc
  no_answer stopped false answer e = cc
  no_answer (circle names) failed answer e = cc
  no_answer (unknown name) failed answer e = cc

  -- the project has an answer, and the request goes on by it
  pub answer_step : (tree : Asking Question OrderAnswer End) (ask : OrderAsk) (order : Progress)
      (answer : OrderAnswer)
      → Asks tree ask order → order_reply_of p key s journal order.failed ask ≡ Answer answer
      → Advances tree ask order answer
  answer_step (ends end) ask order answer is e = absurd
      (no_answer end order.failed answer
      (order_reply_at ask (told end) order.failed (Answer answer) is.0 e))
  answer_step (asks (condition name) go) ask order answer is e =
      let given = answer_given (holds_of p s.scope journal (target_at p name)) Truth answer
      (order_reply_at ask (Condition name) order.failed (Answer answer) is.0 e) in (
        ap (λ a. fits (asked_by a) answer) is.0
            ∙ ap (fits (asked_by (Condition name))) (sym given.2),
        λ bodies. ap (λ r. or_failed (map_ok Truth r) (λ a. goes bodies (go a))) given.1
            ∙ ap (λ a. goes bodies (go a)) given.2
            ∙ ap (λ next. goes bodies (next answer)) (sym is.1),
      )
  answer_step (asks (depends name) go) ask order answer is e =
      let given = answer_given (depends_of p s.scope (target_at p name)) Names answer
      (order_reply_at ask (Depends name) order.failed (Answer answer) is.0 e) in (
        ap (λ a. fits (asked_by a) answer) is.0 ∙ ap (fits (asked_by (Depends name))) (sym given.2),
        λ bodies. ap (λ r. or_failed (map_ok Names r) (λ a. goes bodies (go a))) given.1
            ∙ ap (λ a. goes bodies (go a)) given.2
            ∙ ap (λ next. goes bodies (next answer)) (sym is.1),
      )
  answer_step (asks (body name) go) ask order answer is e =
      let none : Stop (Wants name) ≡ Answer answer = order_reply_at ask (AskBody name) order.failed
      (Answer answer) is.0 e in cc

  abbrev Next : Asking Question OrderAnswer End → Progress → NextStop → Type 0
  Next tree order next_stop = StandsNext p key s journal tree next_stop order

  end_stands : (end : End) (order : Progress) (failed : Bool) (next_stop : NextStop) → failed ≡
      fails end
      → order_reply_of p key s journal failed (told end) ≡ Stop next_stop → Next (ends end) order
      next_stop
  end_stands finished order false next_stop f e = subst (Next (ends finished) order)
      (same_stop (Over (reply_of p key finished s)) next_stop e) (λ bodies. refl)
  end_stands finished order true next_stop f e = cc
  end_stands stopped order true next_stop f e = subst (Next (ends stopped) order)
      (same_stop (Over (reply_of p key stopped s)) next_stop e) (λ bodies. refl)
  end_stands stopped order false next_stop f e = cc
  end_stands (circle names) order failed next_stop f e = subst (Next (ends (circle names)) order)
      (same_stop (Over (reply_of p key (circle names) s)) next_stop e) (λ bodies. refl)
  end_stands (unknown name) order failed next_stop f e = subst (Next (ends (unknown name)) order)
      (same_stop (Over (reply_of p key (unknown name) s)) next_stop e) (λ bodies. refl)

  -- the request wants a run, or is over
  pub stop_step : (tree : Asking Question OrderAnswer End) (ask : OrderAsk) (order : Progress)
      (next_stop : NextStop)
      → Asks tree ask order → order.asked ≡ asked_by ask
      → order_reply_of p key s journal order.failed ask ≡ Stop next_stop → Next tree order next_stop
  stop_step (ends end) ask order next_stop is asked e = end_stands end order order.failed next_stop
      is.1 (order_reply_at ask (told end) order.failed (Stop next_stop) is.0 e)
  stop_step (asks (condition name) go) ask order next_stop is asked e =
      let given = stop_given (holds_of p s.scope journal (target_at p name)) Truth next_stop
      (order_reply_at ask (Condition name) order.failed (Stop next_stop) is.0 e) in
      subst (Next (asks (condition name) go) order) given.2
      (λ bodies. ap (λ r. or_failed (map_ok Truth r) (λ a. goes bodies (go a))) given.1)
  stop_step (asks (depends name) go) ask order next_stop is asked e =
      let given = stop_given (depends_of p s.scope (target_at p name)) Names next_stop
      (order_reply_at ask (Depends name) order.failed (Stop next_stop) is.0 e) in
      subst (Next (asks (depends name) go) order) given.2
      (λ bodies. ap (λ r. or_failed (map_ok Names r) (λ a. goes bodies (go a))) given.1)
  stop_step (asks (body name) go) ask order next_stop is asked e =
      subst (Next (asks (body name) go) order)
      (same_stop (Wants name) next_stop
      (order_reply_at ask (AskBody name) order.failed (Stop next_stop) is.0 e)) (
        asked ∙ ap asked_by is.0,
        λ bodies. ap (λ next. goes bodies (asks (body name) next)) (sym is.1),
      )

  -- what stands so for one tree does for another that goes on as it does
  pub stands_alike : (tree other : Asking Question OrderAnswer End) (next_stop : NextStop)
      (order : Progress) → ((bodies : Bodies) → goes bodies other ≡ goes bodies tree)
      → Next tree order next_stop → Next other order next_stop
  stands_alike tree other (Wants name) order same stands =
      (stands.0, λ bodies. same bodies ∙ stands.1 bodies)
  stands_alike tree other (Over reply) order same stands = λ bodies. same bodies ∙ stands bodies
