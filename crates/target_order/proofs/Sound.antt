-- The steps of a walk keep what its fields keep.
use Rattle.std.proofs.Common.{
  ◌≡◌,
  ◌≢◌,
  ◌⊎◌,
  ℕ,
  suc,
  ◌-◌,
  ◌<◌,
  ◌≤◌,
  Bool,
  true,
  false,
  cond,
  ◌||◌,
  List,
  [],
  ◌∷◌,
  ◌++◌,
  length,
  get_or,
  take,
  set,
  refl,
  sym,
  ap,
  ◌∙◌,
  subst,
  inl,
  inr,
  arith,
  append-nil,
  length-append,
}
use Rattle.std.specs.Prelude.{reverse}
use Rattle.std.specs.List.{list_any}
use Rattle.std.proofs.lemmas.Bool.{cases_eq}
use Rattle.std.proofs.Math.ListN.{length-set}
use Rattle.std.proofs.lemmas.List.{get_or-set_same, get_or-set_other}
use Rattle.std.proofs.Math.Nat.{eq-or-lt_of_le}
use Rattle.msb_laws.specs.Words.{Name}
use Rattle.target_order.specs.declared.visits.Step.{Step}
use Rattle.target_order.specs.declared.visits.Step.TheVariants.{Depends}
use Rattle.target_order.specs.declared.visits.OpenVisit.{OpenVisit}
use Rattle.target_order.specs.declared.visits.Asked.{Asked}
use Rattle.target_order.specs.declared.visits.Asked.TheVariants.{
  Nothing,
  Condition,
  Depends as DependsOn,
  Body,
  Answered,
  End as TheEnd,
}
use Rattle.target_order.specs.Progress.{Table, Progress, is_past, is_errors}
use Rattle.target_order.specs.Search.{
  visit_at,
  is_request,
  asks_visit,
  is_over,
  IsPlaced,
  IsProgress,
  IsSound,
}
use Rattle.target_order.specs.Steps.{
  marked_visits,
  marked_passed,
  visiting,
  at_body,
  new_visit,
  taken,
  restored,
  top_target,
  IsPlace,
}
use Rattle.target_order.specs.declared.steps.Undo.{Undo}
use Rattle.target_order.proofs.Marks.{
  marked_placed,
  marked_errors,
  marked_length,
  marked_top,
  marked_target,
  at_end_of,
  one_more,
  reverse_last,
  set_inner,
}

pub body_sound : (p : Progress) (places : List ℕ) (depth : ℕ) (step : Step) (passed : ℕ)
    → IsSound p places → IsPlace p depth step → 0 < depth → is_errors step ≡ false
    → IsSound (at_body p depth step passed) places
body_sound p places depth step passed sound place positive calm =
    let marked = marked_visits p.visits depth step passed in
    let len = marked_length p.visits depth step passed place.deep in
    record {
      progress = record {
        table = sound.progress.table;
        run_len = sound.progress.run_len;
        visits = λ e. omega arith;
        begins = λ e. absurd (cc);
        failed = λ e. marked_errors p depth step passed place;
        calm = λ e. ap is_errors (marked_top p.visits depth step passed place.deep positive) ∙ calm;
      };
      places_len = sound.places_len;
      placed = λ d lt. subst (λ vs. IsPlaced p.table places d (visit_at vs d)) (append-nil marked)
          (marked_placed p places depth step place sound.placed passed [] d (omega arith));
    }

new_place : (p : Progress) (places : List ℕ) (depth k : ℕ) (marked : List OpenVisit)
    → length marked ≡ depth → length p.table.names ≤ length places → k < length p.table.names →
    ((e : ℕ) → e < depth → IsPlaced p.table places e (visit_at (marked ++ new_visit k ∷ []) e))
    → ((e : ℕ) → e < depth → (visit_at (marked ++ new_visit k ∷ []) e).target ≢ k) →
    (e : ℕ) → (e ≡ depth) ⊎ (e < depth)
    → IsPlaced p.table (set places k depth) e (visit_at (marked ++ new_visit k ∷ []) e)
new_place p places depth k marked len places_len known old apart e (inl here) =
    let is : IsPlaced p.table (set places k depth) depth (new_visit k) = record
    { known = known; place = get_or-set_same places k depth 0 (omega arith); within = refl } in
    subst (λ n. IsPlaced p.table (set places k depth) n (visit_at (marked ++ new_visit k ∷ []) n))
    (sym here)
    (subst (λ v. IsPlaced p.table (set places k depth) depth v)
    (sym (at_end_of marked (new_visit k) depth len)) is)
new_place p places depth k marked len places_len known old apart e (inr lower) =
    let was = old e lower in
    record {
      known = was.known;
      place = get_or-set_other places k _ depth 0 (apart e lower)
          ∙ was.place;
      within = was.within;
    }

pub visiting_sound : (p : Progress) (places : List ℕ) (depth : ℕ) (step : Step) (passed k : ℕ)
    → IsSound p places → IsPlace p depth step → k < length p.table.names →
    ((d : ℕ) → d < depth → (visit_at p.visits d).target ≢ k)
    → IsSound (visiting p depth step passed k) (set places k depth)
visiting_sound p places depth step passed k sound place known apart =
    let marked = marked_visits p.visits depth step passed in
    let len = marked_length p.visits depth step passed place.deep in
    let all : length (marked ++ new_visit k ∷ [])
    ≡ suc depth = omega (arith, length-append marked (new_visit k ∷ [])) in
    let last : length (marked ++ new_visit k ∷ []) - 1 ≡ depth = omega arith in
    record {
      progress = record {
        table = sound.progress.table;
        run_len = sound.progress.run_len;
        visits = λ e. omega arith;
        begins = λ e. absurd (cc);
        failed = λ e. rw (one_more marked (new_visit k)) (marked_errors p depth step passed place);
        calm = λ e. ap (λ n. is_errors (visit_at (marked ++ new_visit k ∷ []) n).step) last
            ∙ ap (λ (v : OpenVisit). is_errors v.step) (at_end_of marked (new_visit k) depth len);
      };
      places_len = let l = length-set places k depth in let h = sound.places_len in omega arith;
      placed = λ d lt. new_place p places depth k marked len sound.places_len known
          (λ e h. marked_placed p places depth step place sound.placed passed (new_visit k ∷ []) e
          h)
          (λ e h same.
          apart e h
          (sym (marked_target p.visits depth step passed (new_visit k ∷ []) e place.deep h)
          ∙ same))
          d (eq-or-lt_of_le (omega arith));
    }

set_case : (table : Table) (places : List ℕ) (visits : List OpenVisit) (v : OpenVisit) (top : ℕ)
    → ((d : ℕ) → d < length visits → IsPlaced table places d (visit_at visits d))
    → top < length visits →
    v.target ≡ (visit_at visits top).target → is_request v.step ≡ false → (d : ℕ)
    → d < length visits → (d ≡ top) ⊎ (d ≡ top → ⊥)
    → IsPlaced table places d (visit_at (set visits top v) d)
set_case table places visits v top placed here same within d lt (inl e) =
    let old = placed top here in
    let is : IsPlaced table places top v = record {
      known = subst (λ n. n < length table.names) (sym same) old.known;
      place = ap (λ n. get_or places n 0) same ∙ old.place;
      within = within;
    } in
    subst (λ n. IsPlaced table places n (visit_at (set visits top v) n)) (sym e)
    (subst (λ u. IsPlaced table places top u) (sym (get_or-set_same visits top v _ here)) is)
set_case table places visits v top placed here same within d lt (inr ne) =
    subst (λ u. IsPlaced table places d u) (sym (get_or-set_other visits top d v _ ne))
    (placed d lt)

-- the innermost visit is replaced by another of its target
pub set_placed : (table : Table) (places : List ℕ) (visits : List OpenVisit) (v : OpenVisit)
    → ((d : ℕ) → d < length visits → IsPlaced table places d (visit_at visits d))
    → 0 < length visits →
    v.target ≡ (visit_at visits (length visits - 1)).target → is_request v.step ≡ false → (d : ℕ)
    → d < length (set visits (length visits - 1) v)
    → IsPlaced table places d (visit_at (set visits (length visits - 1) v) d)
set_placed table places visits v placed some same within d lt =
    let len = length-set visits (length visits - 1) v in
    set_case table places visits v (length visits - 1) placed (omega arith) same within d
    (omega arith) (cases_eq d (length visits - 1))

flags_length : (b : Bool) (flags : List Bool) (k : ℕ)
    → length (cond b (set flags k true) flags) ≡ length flags
flags_length true flags k = length-set flags k true
flags_length false flags k = refl

errors_taken : (failed rest now : Bool) → failed ≡ rest → (failed || now) ≡ (now || rest)
errors_taken true rest true e = refl
errors_taken false rest true e = refl
errors_taken true rest false e = e
errors_taken false rest false e = e

pub taken_sound : (p : Progress) (places : List ℕ) (step : Step) (names : List Name)
    → IsSound p places → asks_visit p.asked ≡ true → is_over p.asked ≡ false
    → is_request step ≡ false →
    IsSound (taken p step names) places
taken_sound p places step names sound asked open_still within =
    let some = sound.progress.visits asked in
    let calm = sound.progress.calm asked in
    let v : OpenVisit = record { target = top_target p; step = step; passed = 0; names = names } in
    let before = sound.progress.failed open_still
    ∙ (ap (list_any (λ (u : OpenVisit). is_errors u.step)) (reverse_last p.visits some)
    ∙ ap
    (λ b. b || list_any (λ (u : OpenVisit). is_errors u.step)
    (reverse (take (length p.visits - 1) p.visits))) calm) in
    record {
      progress = record {
        table = sound.progress.table;
        run_len = let l = flags_length (is_past step) p.has_run (top_target p) in let h =
            sound.progress.run_len in omega arith;
        visits = λ e. absurd (cc);
        begins = λ e. absurd (cc);
        failed = λ e. rw (set_inner p.visits v some)
            (errors_taken p.failed _ (is_errors step) before);
        calm = λ e. absurd (cc);
      };
      places_len = sound.places_len;
      placed = set_placed p.table places p.visits v sound.placed some refl within;
    }

pub restored_sound : (p : Progress) (places : List ℕ) (undo : Undo) → IsSound p places
    → 0 < length p.visits → undo.visit.target ≡ top_target p → is_request undo.visit.step ≡ false
    → IsProgress (restored p undo) →
    IsSound (restored p undo) places
restored_sound p places undo sound some same within is = record {
  progress = is;
  places_len = sound.places_len;
  placed = set_placed p.table places p.visits undo.visit sound.placed some same within;
}

-- what waits for an answer isn't over
pub waits_still : (asked : Asked) → asks_visit asked ≡ true → is_over asked ≡ false
waits_still Nothing e = refl
waits_still Condition e = refl
waits_still DependsOn e = refl
waits_still Body e = refl
waits_still Answered e = refl
waits_still TheEnd e = absurd (cc)

-- the fields that a step leaves, as its progress
pub taken_is : (p : Progress) (step : Step) (names : List Name) (top : OpenVisit)
    (visits : List OpenVisit) (flags : List Bool) (errors : Bool)
    → top ≡ visit_at p.visits (length p.visits - 1) →
    visits ≡ set p.visits (length p.visits - 1)
    (record { target = top.target; step = step; passed = 0; names = names })
    → flags ≡ cond (is_past step) (set p.has_run top.target true) p.has_run
    → errors ≡ is_errors step →
    ◌≡◌ {A = Progress}
    (record p {
      visits = visits;
      has_run = flags;
      asked = Answered;
      failed = p.failed
          || errors;
    }) (taken p step names)
taken_is p step names top visits flags errors at are run fails = rw (are, run, at, fails) refl

-- the visit that is opened has no names, and stands inside the marked ones
pub visiting_is : (p : Progress) (depth : ℕ) (step : Step) (passed k : ℕ)
    (outer visits : List OpenVisit) (names : List Name) (front : ℕ)
    → visits ≡ outer ++ record { target = k; step = Depends; passed = 0; names = names } ∷ []
    → outer ≡ marked_visits p.visits depth step passed → names ≡ []
    → front ≡ marked_passed p.passed depth passed
    → ◌≡◌ {A = Progress} (record p { visits = visits; passed = front; asked = Condition })
    (visiting p depth step passed k)
visiting_is p depth step passed k outer visits names front pushed marked none at =
    rw (pushed, marked, none, at) refl
