-- The changes of a walk from an answer to the next ask.
use Rattle.std.specs.Prelude.{
  ◌≡◌,
  ◌≢◌,
  ℕ,
  zero,
  suc,
  ◌+◌,
  ◌-◌,
  ◌^◌,
  ◌<◌,
  ◌≤◌,
  Bool,
  true,
  false,
  ◌||◌,
  List,
  [],
  ◌∷◌,
  ◌++◌,
  length,
  take,
  reverse,
  slice_index_or,
  slice_set,
  if◌then◌else◌,
}
use Rattle.msb_laws.specs.Words.{Name}
use Rattle.msb_laws.specs.Asking.{Asking}
use Rattle.target_order.specs.declared.asks.OrderAsk.{OrderAsk}
use Rattle.target_order.specs.declared.asks.OrderAsk.TheVariants.{
  Condition,
  Body,
  Done,
  Circle,
  Unknown,
}
use Rattle.target_order.specs.declared.asks.OrderAnswer.{OrderAnswer}
use Rattle.target_order.specs.declared.asks.OrderAnswer.TheVariants.{
  First,
  Truth,
  Names,
  Ok as Ran,
  Failed,
}
use Rattle.target_order.specs.declared.visits.Asked.TheVariants.{
  Condition as ForCondition,
  Body as ForBody,
  Answered,
  End as TheEnd,
}
use Rattle.target_order.specs.declared.visits.Step.{Step}
use Rattle.target_order.specs.declared.visits.Step.TheVariants.{Depends, BeforeSkip, After, Errors}
use Rattle.target_order.specs.declared.visits.OpenVisit.{OpenVisit}
use Rattle.target_order.specs.declared.cursor.Cursor.{Cursor}
use Rattle.target_order.specs.declared.cursor.Stop.{Stop}
use Rattle.target_order.specs.declared.cursor.Stop.TheVariants.{
  Visit as AtVisit,
  Body as AtBody,
  Finished,
  Stopped,
  Circle as AtCircle,
  Unknown as AtUnknown,
}
use Rattle.target_order.specs.declared.steps.Undo.{Undo}
use Rattle.target_order.specs.Visit.{Question, End}
use Rattle.target_order.specs.Progress.{Progress, name_at, ran_of, is_past, is_errors}
use Rattle.target_order.specs.Left.{resume, base_at}
use Rattle.target_order.specs.AsksLeft.{resume_asks, base_asks}
use Rattle.target_order.specs.Search.{visit_at, inner, is_request, errors_at, circle_at}

-- what is asked from here on, where the innermost visit goes on with its list
abbrev pub going : Progress → Asking Question OrderAnswer End
going p = resume p.table (base_at p) (reverse p.visits) (ran_of p.table p.has_run)

abbrev pub going_asks : Progress → ℕ
going_asks p = resume_asks p.table (base_asks p) (reverse p.visits)

-- what is asked where a search has stopped
abbrev pub ask_of : Progress → Cursor → Stop → OrderAsk
ask_of p c (AtVisit k) = Condition (name_at p.table k)
ask_of p c AtBody = Body (name_at p.table (visit_at p.visits (c.depth - 1)).target)
ask_of p c Finished = Done
ask_of p c Stopped = Done
ask_of p c (AtCircle place) = Circle
    (circle_at p c.depth place (slice_index_or c.list.now c.passed []))
ask_of p c AtUnknown = Unknown (slice_index_or c.list.now c.passed [])

abbrev pub noted_visit : OpenVisit → Step → ℕ → OpenVisit
noted_visit v step passed = record
    { target = v.target; step = step; passed = passed; names = v.names }

-- the visits through this depth, the innermost at this place of its list
abbrev pub marked_visits : List OpenVisit → ℕ → Step → ℕ → List OpenVisit
marked_visits visits zero step passed = []
marked_visits visits (suc d) step passed =
    take d visits ++ noted_visit (visit_at visits d) step passed ∷ []

-- these visits, with that place of the one at depth - 1
abbrev pub noted : List OpenVisit → ℕ → Step → ℕ → List OpenVisit
noted visits zero step passed = visits
noted visits (suc d) step passed =
    slice_set visits d (noted_visit (visit_at visits d) step passed)

abbrev pub marked_passed : ℕ → ℕ → ℕ → ℕ
marked_passed old zero passed = passed
marked_passed old (suc d) passed = old

abbrev pub new_visit : ℕ → OpenVisit
new_visit k = record { target = k; step = Depends; passed = 0; names = [] }

-- the walk has come to the visit of target k
abbrev pub visiting : Progress → ℕ → Step → ℕ → ℕ → Progress
visiting p depth step passed k = record p {
  visits = marked_visits p.visits depth step passed ++ new_visit k ∷ [];
  passed = marked_passed p.passed depth passed;
  asked = ForCondition;
}

-- the walk has come to a body
abbrev pub at_body : Progress → ℕ → Step → ℕ → Progress
at_body p depth step passed = record p
    { visits = marked_visits p.visits depth step passed; asked = ForBody }

abbrev pub ended : Progress → Bool → Progress
ended p failed = record p { asked = TheEnd; failed = p.failed || failed }

-- the walk has come to where a search has stopped
abbrev pub came : Progress → ℕ → Step → ℕ → Stop → Progress
came p depth step passed (AtVisit k) = visiting p depth step (passed + 1) k
came p depth step passed AtBody = at_body p depth step passed
came p depth step passed Finished = ended p false
came p depth step passed Stopped = ended p false
came p depth step passed (AtCircle place) = ended p true
came p depth step passed AtUnknown = ended p true

-- what a new visit or a body asks of that place
abbrev pub CanCome : Progress → ℕ → Step → ℕ → Stop → Type 0
CanCome p depth step passed (AtVisit k) = (passed + 1 < 2 ^ 64) × (k < length p.table.names)
    × ((d : ℕ) → d < depth → (visit_at p.visits d).target ≢ k)
CanCome p depth step passed AtBody = (0 < depth) × (is_errors step ≡ false)
CanCome p depth step passed Finished = Unit {0}
CanCome p depth step passed Stopped = Unit {0}
CanCome p depth step passed (AtCircle place) = Unit {0}
CanCome p depth step passed AtUnknown = Unit {0}

-- a place that the walk can go on from
pub record IsPlace (p : Progress) (depth : ℕ) (step : Step) : Type 0 where
  pub deep : depth ≤ length p.visits
  pub within : 0 < depth → is_request step ≡ false
  pub errors : p.failed ≡ errors_at (inner p depth) step

-- the list that follows an answer, with the names that the answer has
abbrev pub step_after : OrderAnswer → Step
step_after First = BeforeSkip
step_after (Truth b) = BeforeSkip
step_after (Names names) = Depends
step_after Ran = After
step_after (Failed names) = Errors

abbrev pub names_after : OrderAnswer → List Name
names_after First = []
names_after (Truth b) = []
names_after (Names names) = names
names_after Ran = []
names_after (Failed names) = names

abbrev pub top_target : Progress → ℕ
top_target p = (visit_at p.visits (length p.visits - 1)).target

-- the innermost visit goes through the list of this step
abbrev pub taken : Progress → Step → List Name → Progress
taken p step names = record p {
  visits = slice_set p.visits (length p.visits - 1)
      (record { target = top_target p; step = step; passed = 0; names = names });
  has_run = if is_past step then slice_set p.has_run (top_target p) true else p.has_run;
  asked = Answered;
  failed = p.failed || is_errors step;
}

-- what it was before
abbrev pub undo_of : Progress → Undo
undo_of p = record {
  visit = visit_at p.visits (length p.visits - 1);
  has_run = p.has_run;
  asked = p.asked;
  failed
      = p.failed;
}

-- and is put back where it was
abbrev pub restored : Progress → Undo → Progress
restored p undo = record p {
  visits = slice_set p.visits (length p.visits - 1) undo.visit;
  has_run = undo.has_run;
  asked = undo.asked;
  failed = undo.failed;
}
