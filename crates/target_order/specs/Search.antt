-- What a search for the next ask keeps, at a cursor: in the list of the innermost of so many
-- visits, or of the request.
use Rattle.std.specs.Prelude.{
  ◌≡◌,
  ◌≢◌,
  ◌⊎◌,
  ℕ,
  suc,
  ◌+◌,
  ◌-◌,
  ◌*◌,
  ◌^◌,
  ◌<◌,
  ◌≤◌,
  Bool,
  true,
  false,
  ◌||◌,
  List,
  [],
  ◌∷◌,
  ◌++◌,
  map,
  length,
  drop,
  take,
  reverse,
  slice_index_or,
  Some,
}
use Rattle.std.specs.List.{list_any}
use Rattle.msb_laws.specs.Words.{Name}
use Rattle.msb_laws.specs.Asking.{gives}
use Rattle.target_order.specs.declared.visits.Asked.{Asked}
use Rattle.target_order.specs.declared.visits.Asked.TheVariants.{
  Nothing,
  Condition,
  Depends as DependsOn,
  Body as ForBody,
  Answered,
  End as TheEnd,
}
use Rattle.target_order.specs.declared.visits.Step.{Step}
use Rattle.target_order.specs.declared.visits.Step.TheVariants.{
  Request,
  Depends,
  BeforeBody,
  BeforeSkip,
  After,
  Errors,
}
use Rattle.target_order.specs.declared.visits.OpenVisit.{OpenVisit}
use Rattle.target_order.specs.declared.cursor.Cursor.{Cursor}
use Rattle.target_order.specs.declared.cursor.Stand.{Stand}
use Rattle.target_order.specs.declared.cursor.Stand.TheVariants.{
  Unknown as IsUnknown,
  Settled as IsSettled,
  Circle as IsCircle,
  Fresh as IsFresh,
}
use Rattle.target_order.specs.declared.cursor.Stop.{Stop}
use Rattle.target_order.specs.declared.cursor.Stop.TheVariants.{
  Visit as AtVisit,
  Body as AtBody,
  Finished,
  Stopped,
  Circle as AtCircle,
  Unknown as AtUnknown,
}
use Rattle.target_order.specs.declared.cursor.Turn.{Turn}
use Rattle.target_order.specs.declared.cursor.Turn.TheVariants.{On, Stop as Stops}
use Rattle.target_order.specs.Visit.{
  Rest,
  Opened,
  Standing,
  strange,
  settled,
  circular,
  fresh,
  standing,
  in_order,
  finished,
}
use Rattle.target_order.specs.Progress.{
  Table,
  Progress,
  number_of,
  project_of,
  hooks_at,
  name_at,
  ran_of,
  is_past,
  is_errors,
  opened,
  list_at,
}
use Rattle.target_order.specs.Left.{visit_in, after_list, resume, base_at}
use Rattle.target_order.specs.AsksLeft.{asks_in, after_asks, resume_asks, base_asks}

abbrev pub is_request : Step → Bool
is_request Request = true
is_request _ = false

-- the visit at this depth
abbrev pub visit_at : List OpenVisit → ℕ → OpenVisit
visit_at visits d = slice_index_or visits d
    (record { target = 0; step = Request; passed = 0; names = [] })

-- the outer visits through this depth, innermost first
abbrev pub inner : Progress → ℕ → List OpenVisit
inner p depth = reverse (take depth p.visits)

-- the visits that are open at a step of the innermost one
abbrev pub open_at : Table → List OpenVisit → Step → List Opened
open_at table [] step = []
open_at table (v ∷ visits) step = record { name = name_at table v.target; past = is_past step }
    ∷ map (opened table) visits

-- what follows the list of that step
abbrev pub then_at : Table → Rest → List OpenVisit → Step → Rest
then_at table base [] step = λ ran. gives finished
then_at table base (v ∷ visits) step = after_list table (map (opened table) visits) v.target step
    (resume table base visits)

abbrev pub then_asks : Table → ℕ → List OpenVisit → Step → ℕ
then_asks table base [] step = 0
then_asks table base (v ∷ visits) step = after_asks table (suc (length visits)) step
    + resume_asks table base visits

-- whether one of these visits goes through OnError targets
abbrev pub errors_at : List OpenVisit → Step → Bool
errors_at [] step = false
errors_at (v ∷ visits) step = is_errors step || list_any (λ u. is_errors u.step) visits

-- the step fits the depth, and the list is that of the step
abbrev pub IsList : Table → List Name → List OpenVisit → Step → List Name → Type 0
IsList table wanted [] step names = (step ≡ Request) × (names ≡ wanted)
IsList table wanted (v ∷ visits) step names = (is_request step ≡ false)
    × (names ≡ list_at table v.target v.names step)

abbrev pub rest_list : Cursor → List Name
rest_list c = drop c.passed c.list.now

abbrev pub rest_at : Progress → Cursor → Rest
rest_at p c = in_order (visit_in p.table (open_at p.table (inner p c.depth) c.step)) (rest_list c)
    (then_at p.table (base_at p) (inner p c.depth) c.step)

abbrev pub asks_at : Progress → Cursor → ℕ
asks_at p c = length (rest_list c) * asks_in p.table (length (inner p c.depth))
    + then_asks p.table (base_asks p) (inner p c.depth) c.step

-- how far a search may still go, by its lists: two for each visit at most
abbrev pub rank : Step → ℕ
rank Depends = 1
rank BeforeSkip = 1
rank _ = 0

abbrev pub weight : Cursor → ℕ
weight c = (2 * c.depth + rank c.step) * 2 ^ 64 + length (rest_list c)

pub record IsCursor (p : Progress) (c : Cursor) : Type 0 where
  pub deep : c.depth ≤ length p.visits
  pub lists : IsList p.table p.wanted (inner p c.depth) c.step c.list.now
  pub short : length c.list.now < 2 ^ 64

-- where the innermost of these visits stands in its list, or the request
abbrev pub IsBelow : Progress → List OpenVisit → Cursor → Type 0
IsBelow p [] c = (c.step ≡ Request) × (c.list.now ≡ p.wanted) × (c.passed ≡ p.passed)
IsBelow p (v ∷ visits) c = (c.step ≡ v.step)
    × (c.list.now ≡ list_at p.table v.target v.names v.step) × (c.passed ≡ v.passed)

-- the search goes on from one cursor at another
pub record GoesOn (p : Progress) (c next : Cursor) : Type 0 where
  pub is : IsCursor p next
  pub rest : rest_at p next (ran_of p.table p.has_run) ≡ rest_at p c (ran_of p.table p.has_run)
  pub asks : asks_at p next ≤ asks_at p c
  pub errors : errors_at (inner p next.depth) next.step ≡ errors_at (inner p c.depth) c.step

-- how a wanted target stands
abbrev pub standing_at : Progress → Cursor → Name → Standing
standing_at p c t = standing (project_of p.table t) (ran_of p.table p.has_run)
    (open_at p.table (inner p c.depth) c.step) t

-- the names from the visit at this depth inwards, and back to t
abbrev pub circle_at : Progress → ℕ → ℕ → Name → List Name
circle_at p depth place t = map (λ v. name_at p.table v.target) (drop place (take depth p.visits))
    ++ t ∷ []

pub record IsNew (p : Progress) (c : Cursor) (t : Name) (k : ℕ) : Type 0 where
  pub stands : standing_at p c t ≡ fresh (hooks_at p.table k)
  pub number : number_of p.table.names t ≡ Some k
  pub apart : (d : ℕ) → d < c.depth → (visit_at p.visits d).target ≢ k

abbrev pub Stands : Progress → Cursor → Name → Stand → Type 0
Stands p c t IsUnknown = standing_at p c t ≡ strange
Stands p c t IsSettled = standing_at p c t ≡ settled
Stands p c t (IsCircle place) = (place < c.depth)
    × (standing_at p c t ≡ circular (circle_at p c.depth place t))
Stands p c t (IsFresh k) = IsNew p c t k

-- the search stops at the name t
pub record StopsAt (p : Progress) (c : Cursor) (stand : Stand) : Type 0 where
  pub name : c.passed < length c.list.now
  pub stands : Stands p c (slice_index_or c.list.now c.passed []) stand

-- or at the end of its list
pub record StopsEnd (p : Progress) (c : Cursor) (step : Step) : Type 0 where
  pub ends : rest_list c ≡ []
  pub at_step : c.step ≡ step

abbrev pub HasStopped : Progress → Cursor → Stop → Type 0
HasStopped p c (AtVisit k) = StopsAt p c (IsFresh k)
HasStopped p c AtBody = StopsEnd p c BeforeBody
HasStopped p c Finished = StopsEnd p c Request
HasStopped p c Stopped = StopsEnd p c Errors
HasStopped p c (AtCircle place) = StopsAt p c (IsCircle place)
HasStopped p c AtUnknown = StopsAt p c IsUnknown

abbrev pub Turns : Progress → Cursor → Turn → Type 0
Turns p c (On next) = GoesOn p c next × (weight next < weight c)
Turns p c (Stops stop) = HasStopped p c stop

-- the steps that end with hooks of the same visit, each with the step that follows
abbrev pub IsHookStep : Step → Step → Type 0
IsHookStep step next = ((step ≡ Depends) × (next ≡ BeforeBody))
    ⊎ ((step ≡ BeforeSkip) × (next ≡ After))

-- what the fields of a walk keep beside its progress
pub record IsPlaced (table : Table) (places : List ℕ) (d : ℕ) (v : OpenVisit) : Type 0 where
  pub known : v.target < length table.names
  pub place : slice_index_or places v.target 0 ≡ d
  pub within : is_request v.step ≡ false

-- what was asked for the innermost visit
abbrev pub asks_visit : Asked → Bool
asks_visit Condition = true
asks_visit DependsOn = true
asks_visit ForBody = true
asks_visit _ = false

-- whether the next ask is to be found
abbrev pub is_going : Asked → Bool
is_going Nothing = true
is_going Answered = true
is_going _ = false

-- whether nothing more is asked
abbrev pub is_over : Asked → Bool
is_over TheEnd = true
is_over _ = false

pub record IsTable (table : Table) : Type 0 where
  pub before_len : length table.before ≡ length table.names
  pub after_len : length table.after ≡ length table.names
  pub distinct : (k : ℕ) → k < length table.names → number_of table.names (name_at table k) ≡ Some k
  pub before_short : (k : ℕ) → length (hooks_at table k).before ≤ length table.names
  pub after_short : (k : ℕ) → length (hooks_at table k).after ≤ length table.names

-- what a walk keeps of its progress
pub record IsProgress (p : Progress) : Type 0 where
  pub table : IsTable p.table
  pub run_len : length p.table.names ≤ length p.has_run
  pub visits : asks_visit p.asked ≡ true → 0 < length p.visits
  pub begins : p.asked ≡ Nothing → p.visits ≡ []
  pub failed : is_over p.asked ≡ false → p.failed
      ≡ list_any (λ v. is_errors v.step) (reverse p.visits)
  pub calm : asks_visit p.asked ≡ true → is_errors (visit_at p.visits (length p.visits - 1)).step
      ≡ false

pub record IsSound (p : Progress) (places : List ℕ) : Type 0 where
  pub progress : IsProgress p
  pub places_len : length p.table.names ≤ length places
  pub placed : (d : ℕ) → d < length p.visits → IsPlaced p.table places d (visit_at p.visits d)
