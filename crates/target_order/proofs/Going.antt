-- The next ask is that of the tree, and the walk goes on as the tree does.
use Rattle.std.proofs.Common.{
  ◌≡◌,
  ℕ,
  zero,
  suc,
  ◌+◌,
  ◌-◌,
  ◌*◌,
  ◌^◌,
  ◌<◌,
  ◌≤◌,
  Bool,
  true,
  false,
  ◌||◌,
  List,
  [],
  ◌∷◌,
  length,
  get_or,
  drop,
  map,
  refl,
  sym,
  ap,
  ◌∙◌,
  subst,
  arith,
  add-one,
  drop-cons,
}
use Rattle.std.specs.Prelude.{reverse}
use Rattle.std.specs.List.{list_any}
use Rattle.std.proofs.lemmas.List.{length-reverse}
use Rattle.msb_laws.specs.Words.{Name}
use Rattle.msb_laws.specs.Asking.{gives, asks}
use Rattle.target_order.specs.declared.asks.OrderAsk.TheVariants.{
  Condition,
  Body,
  Done,
  Circle,
  Unknown,
}
use Rattle.target_order.specs.declared.asks.OrderAnswer.{OrderAnswer}
use Rattle.target_order.specs.declared.visits.Step.{Step}
use Rattle.target_order.specs.declared.visits.Step.TheVariants.{Request, BeforeBody, Errors}
use Rattle.target_order.specs.declared.visits.OpenVisit.{OpenVisit}
use Rattle.target_order.specs.declared.cursor.Cursor.{Cursor}
use Rattle.target_order.specs.declared.visits.Asked.{Asked}
use Rattle.target_order.specs.declared.visits.Asked.TheVariants.{
  Nothing,
  Condition as ForCondition,
  Depends as ForDepends,
  Body as ForBody,
  Answered,
  End as TheEnd,
}
use Rattle.target_order.specs.declared.cursor.Stop.{Stop}
use Rattle.target_order.specs.declared.cursor.Stop.TheVariants.{
  Visit as AtVisit,
  Body as AtBody,
  Finished,
  Stopped,
  Circle as AtCircle,
  Unknown as AtUnknown,
}
use Rattle.target_order.specs.declared.cursor.Stand.TheVariants.{
  Unknown as IsUnknown,
  Circle as IsCircle,
  Fresh as IsFresh,
}
use Rattle.target_order.specs.Visit.{
  body,
  Rest,
  Standing,
  finished,
  stopped,
  strange,
  circular,
  fresh,
  standing,
  in_order,
  visit_by,
  after_condition,
  after_body,
  with,
}
use Rattle.target_order.specs.Progress.{
  Table,
  Progress,
  hooks_at,
  name_at,
  project_of,
  ran_of,
  is_errors,
  opened,
}
use Rattle.target_order.specs.Left.{left, visit_in, inside, resume, base_at, base_of}
use Rattle.target_order.specs.AsksLeft.{
  asks_left,
  visit_asks,
  asks_in,
  both,
  resume_asks,
  base_asks,
}
use Rattle.target_order.specs.Answers.{Asks}
use Rattle.target_order.specs.Search.{
  visit_at,
  inner,
  is_request,
  open_at,
  then_at,
  then_asks,
  errors_at,
  rest_list,
  rest_at,
  asks_at,
  circle_at,
  IsBelow,
  IsCursor,
  IsList,
  GoesOn,
  is_going,
  is_over,
  HasStopped,
  StopsAt,
  StopsEnd,
  IsSound,
}
use Rattle.target_order.specs.Steps.{
  going,
  going_asks,
  visiting,
  at_body,
  ended,
  marked_visits,
  marked_passed,
  new_visit,
  ask_of,
  came,
  CanCome,
}
use Rattle.target_order.proofs.Names.{number_name, number_below}
use Rattle.target_order.proofs.Stack.{inner_all, inner_suc, inner_length, few_visits}
use Rattle.target_order.proofs.Rest.{
  visit_once,
  room_at,
  below_rest,
  below_asks,
  below_errors,
  below_list,
  inner_within,
  is_deep,
  top_of,
}
use Rattle.target_order.proofs.Marks.{one_more, marked_inner, marked_length}

-- what a search has kept where it stops
pub record IsAt (p : Progress) (c : Cursor) : Type 0 where
  pub cursor : IsCursor p c
  pub rest : going p ≡ rest_at p c (ran_of p.table p.has_run)
  pub asks : asks_at p c ≤ going_asks p
  pub errors : p.failed ≡ errors_at (inner p c.depth) c.step

-- a search begins at the innermost visit
pub begins_at : (p : Progress) (places : List ℕ) (c : Cursor) → IsSound p places
    → c.depth ≡ length p.visits → IsBelow p (inner p (length p.visits)) c
    → length c.list.now < 2 ^ 64 → IsCursor p c
begins_at p places c sound depth below short = record {
  deep = omega arith;
  lists = rw depth
      (below_list p (inner p (length p.visits)) c below
      (inner_within p places (length p.visits) sound (omega arith)));
  short = short;
}

pub is_at : (p : Progress) (from c : Cursor) → p.failed
    ≡ list_any (λ (v : OpenVisit). is_errors v.step) (reverse p.visits)
    → from.depth ≡ length p.visits → IsBelow p (inner p (length p.visits)) from → GoesOn p from c
    → IsAt p c
is_at p from c failed depth below goes =
    let all = inner_all p.visits in
    let asks = ap (resume_asks p.table (base_asks p)) all in
    let first : asks_at p from ≡ resume_asks p.table (base_asks p) (inner p (length p.visits)) = rw
    depth (below_asks p (inner p (length p.visits)) from below) in
    let fewer = goes.asks in
    record {
      cursor = goes.is;
      rest = sym
          (goes.rest
          ∙ (rw depth
          (ap (λ f. f (ran_of p.table p.has_run))
          (below_rest p (inner p (length p.visits)) from below))
          ∙ ap (λ vs. resume p.table (base_at p) vs (ran_of p.table p.has_run)) all));
      asks = omega arith;
      errors = failed
          ∙ (ap (list_any (λ (v : OpenVisit). is_errors v.step)) (sym all)
          ∙ (sym (below_errors p (inner p (length p.visits)) from below)
          ∙ (rw depth refl ∙ sym goes.errors)));
    }

-- the visits that a walk comes to are those of the cursor
marked_opened : (p : Progress) (depth : ℕ) (step : Step) (passed : ℕ) → depth ≤ length p.visits →
    map (opened p.table) (reverse (marked_visits p.visits depth step passed))
    ≡ open_at p.table (inner p depth) step
marked_opened p zero step passed deep = refl
marked_opened p (suc d) step passed deep = rw
    (marked_inner p.visits d step passed, inner_suc p.visits d (omega arith)) refl

base_from : Table → List Name → ℕ → Rest
base_from table wanted passed = base_of table (drop passed wanted)

resume_by : (p : Progress) (n : ℕ) (step : Step) (passed : ℕ) (names : List Name)
    → n ≤ length p.visits → IsList p.table p.wanted (inner p n) step names →
    resume p.table (base_of p.table (drop (marked_passed p.passed n passed) p.wanted))
    (reverse (marked_visits p.visits n step passed))
    ≡ in_order (visit_in p.table (open_at p.table (inner p n) step)) (drop passed names)
    (then_at p.table (base_at p) (inner p n) step)
resume_by p zero step passed names deep list = rw (list.1) refl
resume_by p (suc d) step passed names deep list =
    let top = inner_suc p.visits d (omega arith) in
    let at = subst (λ vs. IsList p.table p.wanted vs step names) top list in
    rw (marked_inner p.visits d step passed, top, at.1) refl

asks_by : (p : Progress) (n : ℕ) (step : Step) (passed : ℕ) (names : List Name)
    → n ≤ length p.visits → IsList p.table p.wanted (inner p n) step names →
    resume_asks p.table
    (length (drop (marked_passed p.passed n passed) p.wanted) * asks_in p.table 0)
    (reverse (marked_visits p.visits n step passed))
    ≡ length (drop passed names) * asks_in p.table (length (inner p n))
    + then_asks p.table (base_asks p) (inner p n) step
asks_by p zero step passed names deep list = rw (list.1) (omega arith)
asks_by p (suc d) step passed names deep list =
    let top = inner_suc p.visits d (omega arith) in
    let at = subst (λ vs. IsList p.table p.wanted vs step names) top list in
    rw (marked_inner p.visits d step passed, top, at.1) refl

-- a visit asks for its Condition, its DependsOnTargets and its body, and twice for what is inside
-- it
asks_once : (table : Table) (depth : ℕ) → depth ≤ length table.names
    → asks_in table depth ≡ 3 + 2 * both table (suc depth)
unfolding visit_asks
asks_once table depth h =
    let e : suc (length table.names) - depth ≡ suc (suc (length table.names) - suc depth) = omega
    arith in rw e refl

opening : (m a b rest all : ℕ) → a ≡ 3 + 2 * b → suc m * a + rest ≤ all
    → suc (2 + (2 * b + (m * a + rest))) ≤ all
opening m a b rest all e h = grind arith

-- the name at which a cursor stops
abbrev pub name_of : Cursor → Name
name_of c = get_or c.list.now c.passed []

rest_is : (c : Cursor) → c.passed < length c.list.now
    → rest_list c ≡ name_of c ∷ drop (c.passed + 1) c.list.now
rest_is c h = rw add-one (drop-cons c.list.now c.passed [] h)

-- at a name the visit of it comes next
at_name : (p : Progress) (places : List ℕ) (c : Cursor) → IsSound p places → IsAt p c
    → c.passed < length c.list.now → (s : Standing) →
    standing (project_of p.table (name_of c)) (ran_of p.table p.has_run)
    (open_at p.table (inner p c.depth) c.step) (name_of c) ≡ s →
    going p
    ≡ visit_by s
    (λ past.
    visit_in p.table
    (record { name = name_of c; past = past } ∷ open_at p.table (inner p c.depth) c.step))
    (name_of c)
    (in_order (visit_in p.table (open_at p.table (inner p c.depth) c.step))
    (drop (c.passed + 1) c.list.now) (then_at p.table (base_at p) (inner p c.depth) c.step))
    (ran_of p.table p.has_run)
at_name p places c sound at within s stands =
    at.rest ∙ rw (rest_is c within)
    (visit_once p.table (open_at p.table (inner p c.depth) c.step) (name_of c) _
    (ran_of p.table p.has_run) (room_at p places c.depth c.step sound at.cursor.deep)
    ∙ ap
    (λ s'.
    visit_by s'
    (λ past.
    visit_in p.table
    (record { name = name_of c; past = past } ∷ open_at p.table (inner p c.depth) c.step))
    (name_of c)
    (in_order (visit_in p.table (open_at p.table (inner p c.depth) c.step))
    (drop (c.passed + 1) c.list.now) (then_at p.table (base_at p) (inner p c.depth) c.step))
    (ran_of p.table p.has_run)) stands)

-- what is left after the Condition of a new visit is asked
visiting_left : (p : Progress) (depth : ℕ) (step : Step) (passed k : ℕ) (names : List Name)
    (t : Name) → depth ≤ length p.visits → IsList p.table p.wanted (inner p depth) step names
    → name_at p.table k ≡ t → (answer : OrderAnswer) →
    left (visiting p depth step passed k) answer
    ≡ after_condition
    (λ past.
    visit_in p.table (record { name = t; past = past } ∷ open_at p.table (inner p depth) step))
    t (hooks_at p.table k)
    (in_order (visit_in p.table (open_at p.table (inner p depth) step)) (drop passed names)
    (then_at p.table (base_at p) (inner p depth) step)) answer (ran_of p.table p.has_run)
unfolding left
visiting_left p depth step passed k names t deep list name answer =
    rw (
      one_more (marked_visits p.visits depth step passed) (new_visit k),
      marked_opened p depth
          step passed deep,
      resume_by p depth step passed names deep list,
    )
    (ap
    (λ n.
    after_condition
    (λ past.
    visit_in p.table (record { name = n; past = past } ∷ open_at p.table (inner p depth) step))
    n (hooks_at p.table k)
    (in_order (visit_in p.table (open_at p.table (inner p depth) step)) (drop passed names)
    (then_at p.table (base_at p) (inner p depth) step)) answer (ran_of p.table p.has_run)) name)

pub visit_asks_next : (p : Progress) (places : List ℕ) (c : Cursor) (k : ℕ) → IsSound p places
    → IsAt p c → StopsAt p c (IsFresh k) →
    Asks (going p) (Condition (name_at p.table k)) (visiting p c.depth c.step (c.passed + 1) k)
visit_asks_next p places c k sound at stops =
    let new = stops.stands in
    let name = number_name p.table.names (name_of c) k new.number in
    subst
    (λ tree. Asks tree (Condition (name_at p.table k))
    (visiting p c.depth c.step (c.passed + 1) k))
    (sym (at_name p places c sound at stops.name (fresh (hooks_at p.table k)) new.stands)) (
      ap Condition name,
      λ i answer. visiting_left p c.depth c.step (c.passed + 1) k c.list.now
          (name_of c) at.cursor.deep at.cursor.lists name answer i,
    )

pub visit_asks_left : (p : Progress) (places : List ℕ) (c : Cursor) (k : ℕ) → IsSound p places
    → IsAt p c → StopsAt p c (IsFresh k) → asks_left (visiting p c.depth c.step (c.passed + 1) k)
    ≤ going_asks p
unfolding asks_left
visit_asks_left p places c k sound at stops =
    let deep = at.cursor.deep in
    let few = few_visits p.table p.visits places sound.placed in
    let length_is : length (reverse (marked_visits p.visits c.depth c.step (c.passed + 1)))
    ≡ length (inner p c.depth) =
    length-reverse (marked_visits p.visits c.depth c.step (c.passed + 1))
    ∙ (marked_length p.visits c.depth c.step (c.passed + 1) deep
    ∙ sym (inner_length p.visits c.depth deep)) in
    let once = asks_once p.table (length (inner p c.depth))
    (omega (arith, inner_length p.visits c.depth deep)) in
    let all = subst
    (λ ns. length ns * asks_in p.table (length (inner p c.depth))
    + then_asks p.table (base_asks p) (inner p c.depth) c.step ≤ going_asks p)
    (rest_is c stops.name) at.asks in
    rw (
      one_more (marked_visits p.visits c.depth c.step (c.passed + 1)) (new_visit k),
      asks_by p
          c.depth c.step (c.passed + 1) c.list.now deep at.cursor.lists,
      length_is,
    )
    (opening _ _ _ _ _ once all)

-- at the end of BeforeTargets comes the body
body_tree : (p : Progress) (c : Cursor) → IsAt p c → StopsEnd p c BeforeBody →
    let v = visit_at p.visits (c.depth - 1) in
    going p ≡ asks (body (name_at p.table v.target))
    (λ answer. after_body (inside p.table (map (opened p.table) (inner p (c.depth - 1))) v.target)
    (name_at p.table v.target) (hooks_at p.table v.target)
    (resume p.table (base_at p) (inner p (c.depth - 1))) answer
    (with (name_at p.table v.target) (ran_of p.table p.has_run)))
body_tree p c at stops =
    let top = top_of p c at.cursor (is_deep p c at.cursor (ap is_request stops.at_step)) in
    at.rest ∙ rw (top, stops.at_step, stops.ends) refl

body_left : (p : Progress) (d : ℕ) (step : Step) (passed : ℕ) (answer : OrderAnswer) →
    let v = visit_at p.visits d in
    left (at_body p (suc d) step passed) answer
    ≡ after_body (inside p.table (map (opened p.table) (inner p d)) v.target)
    (name_at p.table v.target) (hooks_at p.table v.target)
    (resume p.table (base_at p) (inner p d)) answer
    (with (name_at p.table v.target) (ran_of p.table p.has_run))
unfolding left
body_left p d step passed answer = rw (marked_inner p.visits d step passed) refl

body_next : (p : Progress) (c : Cursor) → IsAt p c → StopsEnd p c BeforeBody
    → Asks (going p) (Body (name_at p.table (visit_at p.visits (c.depth - 1)).target))
    (at_body p c.depth c.step c.passed)
body_next p c at stops =
    let positive = is_deep p c at.cursor (ap is_request stops.at_step) in
    let one : suc (c.depth - 1) ≡ c.depth = omega arith in
    subst
    (λ n. Asks (going p) (Body (name_at p.table (visit_at p.visits (c.depth - 1)).target))
    (at_body p n c.step c.passed)) one
    (subst
    (λ tree. Asks tree (Body (name_at p.table (visit_at p.visits (c.depth - 1)).target))
    (at_body p (suc (c.depth - 1)) c.step c.passed)) (sym (body_tree p c at stops))
    (refl, λ i answer. body_left p (c.depth - 1) c.step c.passed answer i))

body_by : (p : Progress) (d : ℕ) (step : Step) (passed : ℕ)
    → asks_left (at_body p (suc d) step passed)
    ≡ suc (both p.table (suc (length (inner p d))) + resume_asks p.table (base_asks p) (inner p d))
unfolding asks_left
body_by p d step passed = rw (marked_inner p.visits d step passed) refl

body_fewer : (p : Progress) (c : Cursor) → IsAt p c → StopsEnd p c BeforeBody
    → asks_left (at_body p c.depth c.step c.passed) ≤ going_asks p
body_fewer p c at stops =
    let positive = is_deep p c at.cursor (ap is_request stops.at_step) in
    let top = top_of p c at.cursor positive in
    let one : suc (c.depth - 1) ≡ c.depth = omega arith in
    let all : 0 * asks_in p.table (suc (length (inner p (c.depth - 1))))
    + (1 + both p.table (suc (length (inner p (c.depth - 1))))
    + resume_asks p.table (base_asks p) (inner p (c.depth - 1))) ≤ going_asks p =
    rw (top, stops.at_step, stops.ends) at at.asks in
    subst (λ n. asks_left (at_body p n c.step c.passed) ≤ going_asks p) one
    (rw (body_by p (c.depth - 1) c.step c.passed) (omega arith))

-- the request's list ends where no visit is open, and OnError targets where one is
finish_by : (p : Progress) (visits : List OpenVisit) (step : Step) (names : List Name)
    (ran : Name → Bool) → IsList p.table p.wanted visits step names → step ≡ Request →
    (then_at p.table (base_at p) visits step ran ≡ gives finished) × (errors_at visits step ≡ false)
finish_by p [] step names ran list at = (refl, refl)
finish_by p (v ∷ visits) step names ran list at = let no = list.0 in let yes = ap is_request at
    in absurd (cc)

stop_by : (p : Progress) (visits : List OpenVisit) (step : Step) (names : List Name)
    (ran : Name → Bool) → IsList p.table p.wanted visits step names → step ≡ Errors →
    (then_at p.table (base_at p) visits step ran ≡ gives stopped) × (errors_at visits step ≡ true)
stop_by p [] step names ran list at = let yes = list.0 in absurd (cc)
stop_by p (v ∷ visits) step names ran list at = (rw at refl, rw at refl)

finished_next : (p : Progress) (c : Cursor) → IsAt p c → StopsEnd p c Request
    → Asks (going p) Done (ended p false)
finished_next p c at stops =
    let by = finish_by p (inner p c.depth) c.step c.list.now (ran_of p.table p.has_run)
    at.cursor.lists stops.at_step in
    let tree : going p ≡ gives finished = at.rest ∙ rw stops.ends (by.0) in
    subst (λ tree. Asks tree Done (ended p false)) (sym tree)
    (refl, ap (λ b. b || false) (at.errors ∙ by.1))

stopped_next : (p : Progress) (c : Cursor) → IsAt p c → StopsEnd p c Errors
    → Asks (going p) Done (ended p false)
stopped_next p c at stops =
    let by = stop_by p (inner p c.depth) c.step c.list.now (ran_of p.table p.has_run)
    at.cursor.lists stops.at_step in
    let tree : going p ≡ gives stopped = at.rest ∙ rw stops.ends (by.0) in
    subst (λ tree. Asks tree Done (ended p false)) (sym tree)
    (refl, ap (λ b. b || false) (at.errors ∙ by.1))

or_true : (b : Bool) → (b || true) ≡ true
or_true true = refl
or_true false = refl

circle_next : (p : Progress) (places : List ℕ) (c : Cursor) (place : ℕ) → IsSound p places
    → IsAt p c → StopsAt p c (IsCircle place)
    → Asks (going p) (Circle (circle_at p c.depth place (name_of c))) (ended p true)
circle_next p places c place sound at stops =
    subst (λ tree. Asks tree (Circle (circle_at p c.depth place (name_of c))) (ended p true))
    (sym
    (at_name p places c sound at stops.name (circular (circle_at p c.depth place (name_of c)))
    stops.stands.1)) (refl, or_true p.failed)

unknown_next : (p : Progress) (places : List ℕ) (c : Cursor) → IsSound p places → IsAt p c
    → StopsAt p c IsUnknown → Asks (going p) (Unknown (name_of c)) (ended p true)
unknown_next p places c sound at stops =
    subst (λ tree. Asks tree (Unknown (name_of c)) (ended p true))
    (sym (at_name p places c sound at stops.name strange stops.stands)) (refl, or_true p.failed)

ended_asks : (p : Progress) (failed : Bool) → asks_left (ended p failed) ≡ 0
unfolding asks_left
ended_asks p failed = refl

pub comes_next : (p : Progress) (places : List ℕ) (c : Cursor) (stop : Stop) → IsSound p places
    → IsAt p c → HasStopped p c stop
    → Asks (going p) (ask_of p c stop) (came p c.depth c.step c.passed stop)
comes_next p places c (AtVisit k) sound at stops = visit_asks_next p places c k sound at stops
comes_next p places c AtBody sound at stops = body_next p c at stops
comes_next p places c Finished sound at stops = finished_next p c at stops
comes_next p places c Stopped sound at stops = stopped_next p c at stops
comes_next p places c (AtCircle place) sound at stops = circle_next p places c place sound at stops
comes_next p places c AtUnknown sound at stops = unknown_next p places c sound at stops

pub comes_fewer : (p : Progress) (places : List ℕ) (c : Cursor) (stop : Stop) → IsSound p places
    → IsAt p c → HasStopped p c stop → asks_left (came p c.depth c.step c.passed stop)
    ≤ going_asks p
comes_fewer p places c (AtVisit k) sound at stops = visit_asks_left p places c k sound at stops
comes_fewer p places c AtBody sound at stops = body_fewer p c at stops
comes_fewer p places c Finished sound at stops = omega (arith, ended_asks p false)
comes_fewer p places c Stopped sound at stops = omega (arith, ended_asks p false)
comes_fewer p places c (AtCircle place) sound at stops = omega (arith, ended_asks p true)
comes_fewer p places c AtUnknown sound at stops = omega (arith, ended_asks p true)

pub can_come : (p : Progress) (c : Cursor) (stop : Stop) → IsCursor p c → HasStopped p c stop
    → CanCome p c.depth c.step c.passed stop
can_come p c (AtVisit k) cursor stops =
    let short = cursor.short in let within = stops.name in
    (omega arith, number_below p.table.names (name_of c) k stops.stands.number, stops.stands.apart)
can_come p c AtBody cursor stops =
    (is_deep p c cursor (ap is_request stops.at_step), ap is_errors stops.at_step)
can_come p c Finished cursor stops = tt
can_come p c Stopped cursor stops = tt
can_come p c (AtCircle place) cursor stops = tt
can_come p c AtUnknown cursor stops = tt

-- where the next ask is to be found, the walk isn't over
pub going_still : (asked : Asked) → is_going asked ≡ true → is_over asked ≡ false
going_still Nothing e = refl
going_still ForCondition e = refl
going_still ForDepends e = refl
going_still ForBody e = refl
going_still Answered e = refl
going_still TheEnd e = absurd (cc)
