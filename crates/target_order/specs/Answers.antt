-- What a walk may be answered, and what it asks then.
use Rattle.std.specs.Prelude.{◌≡◌, Bool, true, false}
use Rattle.msb_laws.specs.Asking.{Asking, gives, asks}
use Rattle.target_order.specs.declared.asks.OrderAsk.{OrderAsk}
use Rattle.target_order.specs.declared.asks.OrderAsk.TheVariants.{
  Condition,
  Depends,
  Body,
  Done,
  Circle,
  Unknown,
}
use Rattle.target_order.specs.declared.asks.OrderAnswer.{OrderAnswer}
use Rattle.target_order.specs.declared.asks.OrderAnswer.TheVariants.{
  First,
  Truth,
  Names,
  Ok as Ran,
  Failed,
}
use Rattle.target_order.specs.declared.visits.Asked.{Asked}
use Rattle.target_order.specs.declared.visits.Asked.TheVariants.{
  Nothing,
  Condition as ForCondition,
  Depends as ForDepends,
  Body as ForBody,
  End as ForNothing,
}
use Rattle.target_order.specs.Visit.{
  Question,
  condition,
  depends,
  body,
  End,
  finished,
  stopped,
  circle,
  unknown,
}
use Rattle.target_order.specs.Progress.{Progress}
use Rattle.target_order.specs.Left.{left}

-- whether an answer fits what was asked last
abbrev pub fits : Asked → OrderAnswer → Bool
fits Nothing First = true
fits ForCondition (Truth b) = true
fits ForDepends (Names names) = true
fits ForBody Ran = true
fits ForBody (Failed names) = true
fits asked answer = false

abbrev pub Fits : Progress → OrderAnswer → Type 0
Fits walk answer = fits walk.asked answer ≡ true

-- what an ask waits for
abbrev pub asked_by : OrderAsk → Asked
asked_by (Condition t) = ForCondition
asked_by (Depends t) = ForDepends
asked_by (Body t) = ForBody
asked_by _ = ForNothing

-- whether this answer makes a request fail
abbrev pub is_failed : OrderAnswer → Bool
is_failed (Failed names) = true
is_failed _ = false

-- whether this ask does
abbrev pub is_refused : OrderAsk → Bool
is_refused (Circle names) = true
is_refused (Unknown t) = true
is_refused _ = false

-- how a question is asked, and an end told
abbrev pub as_ask : Question → OrderAsk
as_ask (condition t) = Condition t
as_ask (depends t) = Depends t
as_ask (body t) = Body t

abbrev pub told : End → OrderAsk
told finished = Done
told stopped = Done
told (circle names) = Circle names
told (unknown t) = Unknown t

abbrev pub fails : End → Bool
fails finished = false
fails stopped = true
fails (circle names) = true
fails (unknown t) = true

-- the ask is the question of the tree, or tells its end, and the walk goes on as the tree does
abbrev pub Asks : Asking Question OrderAnswer End → OrderAsk → Progress → Type 0
Asks (asks q go) ask walk = (ask ≡ as_ask q) × (left walk ≡ go)
Asks (gives end) ask walk = (ask ≡ told end) × (walk.failed ≡ fails end)
