-- The order in which one request visits its targets. (MSBuild documentation: "Target build order".)
use Rattle.std.specs.Prelude.{
  ℕ,
  zero,
  suc,
  Bool,
  true,
  false,
  ◌||◌,
  List,
  [],
  ◌∷◌,
  ◌++◌,
  length,
  map,
  Option,
  None,
  Some,
  if◌then◌else◌,
}
use Rattle.std.specs.List.{filter, list_any}
use Rattle.std.specs.Str.{bytes_eq}
use Rattle.msb_laws.specs.Asking.{Asking, gives, asks}
use Rattle.msb_laws.specs.Words.{Name}
use Rattle.target_order.specs.declared.row.TargetRow.{TargetRow}
use Rattle.target_order.specs.declared.asks.OrderAnswer.{OrderAnswer}
use Rattle.target_order.specs.declared.asks.OrderAnswer.TheVariants.{Truth, Names, Failed}

-- what is asked of a target: whether its Condition holds, what its DependsOnTargets names, and that
-- its body be run
pub data Question : Type 0 where
  condition : Name → Question
  depends : Name → Question
  body : Name → Question

-- how the asks end: every target was visited; the OnError targets of a failed body were; a circle;
-- a name without a target
pub data End : Type 0 where
  finished : End
  stopped : End
  circle : List Name → End
  unknown : Name → End

-- what is still asked, by what has run
abbrev pub Rest : Type 0
Rest = (Name → Bool) → Asking Question OrderAnswer End

-- whether a row has this name
abbrev pub is_target : List TargetRow → Name → Bool
is_target rows t = list_any (λ r. bytes_eq r.name t) rows

-- the rows that count, behind those already kept: of several with one name the first
abbrev pub keep : List TargetRow → TargetRow → List TargetRow
keep kept r = if is_target kept r.name then kept else kept ++ r ∷ []

abbrev pub first_rows : List TargetRow → List TargetRow → List TargetRow
first_rows kept [] = kept
first_rows kept (r ∷ rows) = first_rows (keep kept r) rows

-- the targets that hook on a target: those that name it in BeforeTargets, and those that name it in
-- AfterTargets
pub record Hooks : Type 0 where
  pub before : List Name
  pub after : List Name

-- the names of the rows with t in such a list, in the order of the rows
abbrev pub naming : (TargetRow → List Name) → List TargetRow → Name → List Name
naming listed rows t = map (λ r. r.name)
    (filter (λ r. list_any (λ n. bytes_eq n t) (listed r)) rows)

-- what hooks on t, if t is a target; a name in BeforeTargets or AfterTargets that is none hooks on
-- nothing
abbrev pub hooks_in : List TargetRow → Name → Option Hooks
hooks_in rows t =
    if is_target rows t
    then Some
    (record { before = naming (λ r. r.before) rows t; after = naming (λ r. r.after) rows t })
    else None

-- a visit that is open, and whether it has passed its fifth step
pub record Opened : Type 0 where
  pub name : Name
  pub past : Bool

-- how a wanted target stands: it is none; nothing is to be done; its open visit makes a circle; it
-- is to be visited
pub data Standing : Type 0 where
  strange : Standing
  settled : Standing
  circular : List Name → Standing
  fresh : Hooks → Standing

-- the open visits, innermost first, are searched for t; the circle goes from its open visit inwards
-- and back to t
abbrev pub among_open : Name → List Opened → List Name → Hooks → Standing
among_open t [] back hooks = fresh hooks
among_open t (v ∷ open_visits) back hooks =
    if bytes_eq v.name t
    then (if v.past then settled else circular (v.name ∷ back))
    else among_open t open_visits (v.name ∷ back) hooks

-- step 1: a target that has run, or whose open visit is past its body, is settled
abbrev pub standing : Option Hooks → (Name → Bool) → List Opened → Name → Standing
standing None ran open_visits t = strange
standing (Some hooks) ran open_visits t = if ran t then settled else among_open t open_visits
    (t ∷ []) hooks

-- what has run, with t
abbrev pub with : Name → (Name → Bool) → Name → Bool
with t ran n = bytes_eq n t || ran n

-- these targets in order, and then on
abbrev pub in_order : (Name → Rest → Rest) → List Name → Rest → Rest
in_order visit [] on = on
in_order visit (t ∷ targets) on = visit t (in_order visit targets on)

-- the steps of the visit of t, and then on; inside it targets are visited ahead of its body (false)
-- and past it (true)
module _ (inside : Bool → Name → Rest → Rest) (t : Name) (hooks : Hooks) (on : Rest) where
  -- step 6: the targets with t in AfterTargets
  abbrev pub step_6 : Rest
  step_6 = in_order (inside true) hooks.after on

  -- after a failed body its OnError targets are visited, and then the request stops
  abbrev pub after_body : OrderAnswer → Rest
  after_body (Failed names) = in_order (inside true) names (λ ran. gives stopped)
  after_body answer = step_6

  -- step 5: the body
  abbrev pub step_5 : Rest
  step_5 ran = asks (body t) (λ answer. after_body answer (with t ran))

  -- step 4: the targets with t in BeforeTargets; a body follows only where the Condition was true
  abbrev pub step_4 : Bool → Rest
  step_4 true = in_order (inside false) hooks.before step_5
  step_4 false = in_order (inside false) hooks.before step_6

  -- step 3: the targets of DependsOnTargets
  abbrev pub step_3 : OrderAnswer → Rest
  step_3 (Names names) = in_order (inside false) names (step_4 true)
  step_3 answer = step_4 true

  -- where the Condition is true DependsOnTargets is asked for
  abbrev pub after_condition : OrderAnswer → Rest
  after_condition (Truth true) ran = asks (depends t) (λ answer. step_3 answer ran)
  after_condition answer ran = step_4 false ran

  -- step 2: the Condition
  abbrev pub step_2 : Rest
  step_2 ran = asks (condition t) (λ answer. after_condition answer ran)

-- a visit of t by how it stands, and then on
abbrev pub visit_by : Standing → (Bool → Name → Rest → Rest) → Name → Rest → Rest
visit_by strange inside t on ran = gives (unknown t)
visit_by settled inside t on ran = on ran
visit_by (circular names) inside t on ran = gives (circle names)
visit_by (fresh hooks) inside t on ran = step_2 inside t hooks on ran

-- a visit of t inside these open visits, and then on. Each visit inside another has room for one
-- less, and as open visits have distinct names, one that begins with room for all targets and one
-- more never lacks room.
unfoldable pub visit : (Name → Option Hooks) → ℕ → List Opened → Name → Rest → Rest
visit project zero open_visits t on ran = on ran
visit project (suc room) open_visits t on ran =
    visit_by (standing (project t) ran open_visits t)
    (λ past. visit project room (record { name = t; past = past } ∷ open_visits)) t on ran

-- the asks of a request: each of its targets is visited in order
unfoldable pub order : List TargetRow → List Name → Asking Question OrderAnswer End
order rows targets =
    let targets_of = first_rows [] rows in
    in_order (visit (hooks_in targets_of) (suc (length targets_of)) []) targets
    (λ ran. gives finished) (λ n. false)
