-- What is left of a walk, as the tree of its further asks: its open visits are what follows,
-- innermost first.
use Rattle.std.specs.Prelude.{ℕ, suc, ◌-◌, Bool, true, List, [], ◌∷◌, map, length, drop, reverse}
use Rattle.msb_laws.specs.Words.{Name}
use Rattle.msb_laws.specs.Asking.{Asking, gives}
use Rattle.target_order.specs.declared.asks.OrderAnswer.{OrderAnswer}
use Rattle.target_order.specs.declared.visits.Asked.{Asked}
use Rattle.target_order.specs.declared.visits.Asked.TheVariants.{
  Nothing,
  Condition,
  Depends as DependsOn,
  Body,
}
use Rattle.target_order.specs.declared.visits.Step.{Step}
use Rattle.target_order.specs.declared.visits.Step.TheVariants.{
  Request,
  Depends,
  BeforeBody,
  BeforeSkip,
  After,
  Errors,
}
use Rattle.target_order.specs.declared.visits.OpenVisit.{OpenVisit}
use Rattle.target_order.specs.Visit.{
  Question,
  End,
  finished,
  stopped,
  Rest,
  Opened,
  visit,
  in_order,
  with,
  step_3,
  step_4,
  step_5,
  step_6,
  after_condition,
  after_body,
}
use Rattle.target_order.specs.Progress.{
  Table,
  Progress,
  project_of,
  hooks_at,
  name_at,
  ran_of,
  is_past,
  opened,
  rest_of,
}

-- how a target is visited inside these open visits
abbrev pub visit_in : Table → List Opened → Name → Rest → Rest
visit_in table open_visits = visit (project_of table)
    (suc (length table.names) - length open_visits) open_visits

-- how a target is visited inside the visit of target k, which is inside these
abbrev pub inside : Table → List Opened → ℕ → Bool → Name → Rest → Rest
inside table outer k past = visit_in table (record { name = name_at table k; past = past } ∷ outer)

-- what target k's visit goes on with at the end of this step's list, and then on
abbrev pub after_list : Table → List Opened → ℕ → Step → Rest → Rest
after_list table outer k Request on = on
after_list table outer k Depends on = step_4 (inside table outer k) (name_at table k)
    (hooks_at table k) on true
after_list table outer k BeforeBody on = step_5 (inside table outer k) (name_at table k)
    (hooks_at table k) on
after_list table outer k BeforeSkip on = step_6 (inside table outer k) (name_at table k)
    (hooks_at table k) on
after_list table outer k After on = on
after_list table outer k Errors on = λ ran. gives stopped

-- what follows where these visits are open and the innermost one goes on with its list
abbrev pub resume : Table → Rest → List OpenVisit → Rest
resume table base [] = base
resume table base (v ∷ visits) =
    in_order (inside table (map (opened table) visits) v.target (is_past v.step)) (rest_of table v)
    (after_list table (map (opened table) visits) v.target v.step (resume table base visits))

-- what follows where no visit is open: the rest of the request's list
abbrev pub base_of : Table → List Name → Rest
base_of table names = in_order (visit_in table []) names (λ ran. gives finished)

-- what follows an answer to what was asked for the innermost visit
abbrev pub answered : Table → Rest → Asked → List OpenVisit → OrderAnswer → Rest
answered table base Nothing visits answer = base
answered table base Condition (v ∷ visits) answer =
    after_condition (inside table (map (opened table) visits) v.target) (name_at table v.target)
    (hooks_at table v.target) (resume table base visits) answer
answered table base DependsOn (v ∷ visits) answer =
    step_3 (inside table (map (opened table) visits) v.target) (name_at table v.target)
    (hooks_at table v.target) (resume table base visits) answer
answered table base Body (v ∷ visits) answer = λ ran.
    after_body (inside table (map (opened table) visits) v.target) (name_at table v.target)
    (hooks_at table v.target) (resume table base visits) answer
    (with (name_at table v.target) ran)
answered table base asked visits answer = λ ran. gives finished

abbrev pub base_at : Progress → Rest
base_at p = base_of p.table (drop p.passed p.wanted)

-- the further asks of a walk, by what it is answered now
unfoldable pub left : Progress → OrderAnswer → Asking Question OrderAnswer End
left p answer = answered p.table (base_at p) p.asked (reverse p.visits) answer
    (ran_of p.table p.has_run)
