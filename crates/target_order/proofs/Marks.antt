-- The stack of open visits after its end is taken away and one place is noted.
use Rattle.std.proofs.Common.{
  ◌≡◌,
  ◌⊎◌,
  ℕ,
  zero,
  suc,
  ◌-◌,
  ◌<◌,
  ◌≤◌,
  List,
  [],
  ◌∷◌,
  ◌++◌,
  length,
  take,
  set,
  refl,
  sym,
  ap,
  ◌∙◌,
  subst,
  inl,
  inr,
  arith,
  append_assoc,
  append-nil,
  length-append,
}
use Rattle.std.specs.Prelude.{reverse}
use Rattle.std.specs.List.{list_any}
use Rattle.std.proofs.Math.Seq.{take-suc, get_or-append_seam}
use Rattle.std.proofs.Math.Nat.{eq-or-lt_of_le}
use Rattle.std.proofs.lemmas.List.{
  reverse-append,
  length-take-le,
  take_all,
  get_or_append_left,
  get_or-take,
}
use Rattle.target_order.specs.declared.visits.Step.{Step}
use Rattle.target_order.specs.declared.visits.OpenVisit.{OpenVisit}
use Rattle.target_order.specs.Progress.{Progress, is_errors}
use Rattle.target_order.specs.Search.{visit_at, errors_at, IsPlaced}
use Rattle.target_order.specs.Steps.{noted, noted_visit, marked_visits, IsPlace}
use Rattle.target_order.proofs.Stack.{inner_suc}

set_seam : (xs : List OpenVisit) (x y : OpenVisit) (ys : List OpenVisit)
    → set (xs ++ x ∷ ys) (length xs) y ≡ xs ++ y ∷ ys
set_seam [] x y ys = refl
set_seam (z ∷ xs) x y ys = ap (λ zs. z ∷ zs) (set_seam xs x y ys)

seam : (visits : List OpenVisit) (d : ℕ) (more : List OpenVisit) (y : OpenVisit) → d < length visits
    → set (take (suc d) visits ++ more) d y ≡ take d visits ++ y ∷ more
seam visits d more y lt =
    let e : take (suc d) visits ++ more ≡ take d visits ++ visit_at visits d
    ∷ more = ap (λ vs. vs ++ more) (take-suc visits d _ lt)
    ∙ append_assoc (take d visits) (visit_at visits d ∷ []) more in
    let l = length-take-le d visits (omega arith) in
    ap (λ vs. set vs d y) e
    ∙ (ap (λ n. set (take d visits ++ visit_at visits d ∷ more) n y) (sym l)
    ∙ set_seam (take d visits) (visit_at visits d) y more)

-- what is noted of the innermost of some of the visits
pub noted_top : (visits : List OpenVisit) (depth : ℕ) (step : Step) (passed : ℕ)
    → depth ≤ length visits → noted (take depth visits) depth step passed
    ≡ marked_visits visits depth step passed
noted_top visits zero step passed h = refl
noted_top visits (suc d) step passed h =
    let lt : d < length visits = omega arith in
    let at : visit_at (take (suc d) visits) d
    ≡ visit_at visits d = get_or-take (suc d) visits d _ (omega arith) in
    let v = noted_visit (visit_at visits d) step passed in
    ap (λ u. set (take (suc d) visits) d (noted_visit u step passed)) at
    ∙ (ap (λ vs. set vs d v) (sym (append-nil (take (suc d) visits))) ∙ seam visits d [] v lt)

-- the marked visits, innermost first
pub marked_inner : (visits : List OpenVisit) (d : ℕ) (step : Step) (passed : ℕ) →
    reverse (marked_visits visits (suc d) step passed)
    ≡ noted_visit (visit_at visits d) step passed ∷ reverse (take d visits)
marked_inner visits d step passed = reverse-append (take d visits)
    (noted_visit (visit_at visits d) step passed ∷ [])

pub marked_length : (visits : List OpenVisit) (depth : ℕ) (step : Step) (passed : ℕ)
    → depth ≤ length visits → length (marked_visits visits depth step passed) ≡ depth
marked_length visits zero step passed h = refl
marked_length visits (suc d) step passed h = omega (
  arith,
  length-append (take d visits) (noted_visit (visit_at visits d) step passed ∷ []),
  length-take-le d visits (omega arith),
)

-- one more visit, innermost first
pub one_more : (visits : List OpenVisit) (v : OpenVisit)
    → reverse (visits ++ v ∷ []) ≡ v ∷ reverse visits
one_more visits v = reverse-append visits (v ∷ [])

at_low : (visits : List OpenVisit) (d e : ℕ) (y : OpenVisit) (more : List OpenVisit)
    → d ≤ length visits → e < d → visit_at (take d visits ++ y ∷ more) e ≡ visit_at visits e
at_low visits d e y more h lt =
    let l = length-take-le d visits h in
    get_or_append_left (take d visits) (y ∷ more) _ e (omega arith) ∙ get_or-take d visits e _ lt

at_top : (visits : List OpenVisit) (d : ℕ) (y : OpenVisit) (more : List OpenVisit)
    → d ≤ length visits → visit_at (take d visits ++ y ∷ more) d ≡ y
at_top visits d y more h =
    let l = length-take-le d visits h in
    ap (λ n. visit_at (take d visits ++ y ∷ more) n) (sym l)
    ∙ get_or-append_seam (take d visits) y more _

module _ (p : Progress) (places : List ℕ) (depth : ℕ) (step : Step) (place : IsPlace p depth step)
    (placed : (d : ℕ) → d < length p.visits → IsPlaced p.table places d (visit_at p.visits d)) where
  marked_case : (d : ℕ) → depth ≡ suc d → (passed : ℕ) (more : List OpenVisit) (e : ℕ)
      → (e ≡ d) ⊎ (e < d)
      → IsPlaced p.table places e
      (visit_at (take d p.visits ++ noted_visit (visit_at p.visits d) step passed ∷ more) e)
  marked_case d same passed more e (inl here) =
      let deep : d < length p.visits = let h = place.deep in omega arith in
      let within = place.within (omega arith) in
      let old = placed d deep in
      let is : IsPlaced p.table places d (noted_visit (visit_at p.visits d) step passed) = record
      { known = old.known; place = old.place; within = within } in
      subst
      (λ n.
      IsPlaced p.table places n
      (visit_at (take d p.visits ++ noted_visit (visit_at p.visits d) step passed ∷ more) n))
      (sym here)
      (subst (λ v. IsPlaced p.table places d v)
      (sym
      (at_top p.visits d (noted_visit (visit_at p.visits d) step passed) more (omega arith)))
      is)
  marked_case d same passed more e (inr lower) =
      let deep : d < length p.visits = let h = place.deep in omega arith in
      subst (λ v. IsPlaced p.table places e v)
      (sym
      (at_low p.visits d e (noted_visit (visit_at p.visits d) step passed) more (omega arith)
      lower)) (placed e (omega arith))

  marked_by : (n : ℕ) → depth ≡ n → (passed : ℕ) (more : List OpenVisit) (e : ℕ) → e < n
      → IsPlaced p.table places e (visit_at (marked_visits p.visits n step passed ++ more) e)
  marked_by zero same passed more e lt = absurd (omega arith)
  marked_by (suc d) same passed more e lt =
      subst (λ vs. IsPlaced p.table places e (visit_at vs e))
      (sym
      (append_assoc (take d p.visits) (noted_visit (visit_at p.visits d) step passed ∷ [])
      more))
      (marked_case d same passed more e (eq-or-lt_of_le (omega arith)))

  -- the marked visits keep their places
  pub marked_placed : (passed : ℕ) (more : List OpenVisit) (e : ℕ) → e < depth
      → IsPlaced p.table places e (visit_at (marked_visits p.visits depth step passed ++ more) e)
  marked_placed = marked_by depth refl

errors_by : (visits : List OpenVisit) (depth : ℕ) (step : Step) (passed : ℕ) → depth ≤ length visits
    →
    list_any (λ v. is_errors v.step) (reverse (marked_visits visits depth step passed))
    ≡ errors_at (reverse (take depth visits)) step
errors_by visits zero step passed h = refl
errors_by visits (suc d) step passed h = rw
    (marked_inner visits d step passed, inner_suc visits d (omega arith)) refl

-- the marked visits go through OnError targets where the search says so
pub marked_errors : (p : Progress) (depth : ℕ) (step : Step) (passed : ℕ) → IsPlace p depth step
    → p.failed ≡ list_any (λ v. is_errors v.step)
    (reverse (marked_visits p.visits depth step passed))
marked_errors p depth step passed place = place.errors
    ∙ sym (errors_by p.visits depth step passed place.deep)

pub marked_top : (visits : List OpenVisit) (depth : ℕ) (step : Step) (passed : ℕ)
    → depth ≤ length visits → 0 < depth →
    (visit_at (marked_visits visits depth step passed)
    (length (marked_visits visits depth step passed) - 1)).step ≡ step
marked_top visits zero step passed h positive = absurd (omega arith)
marked_top visits (suc d) step passed h positive =
    let index : length (marked_visits visits (suc d) step passed) - 1
    ≡ d = omega (arith, marked_length visits (suc d) step passed h) in
    ap (λ n. (visit_at (marked_visits visits (suc d) step passed) n).step) index
    ∙ ap (λ (v : OpenVisit). v.step)
    (at_top visits d (noted_visit (visit_at visits d) step passed) [] (omega arith))

target_case : (visits : List OpenVisit) (d : ℕ) (step : Step) (passed : ℕ) (more : List OpenVisit)
    (e : ℕ) → d < length visits → (e ≡ d) ⊎ (e < d) →
    (visit_at (take d visits ++ noted_visit (visit_at visits d) step passed ∷ more) e).target
    ≡ (visit_at visits e).target
target_case visits d step passed more e h (inl here) =
    ap
    (λ n.
    (visit_at (take d visits ++ noted_visit (visit_at visits d) step passed ∷ more) n).target)
    here
    ∙ (ap (λ (v : OpenVisit). v.target)
    (at_top visits d (noted_visit (visit_at visits d) step passed) more (omega arith))
    ∙ ap (λ n. (visit_at visits n).target) (sym here))
target_case visits d step passed more e h (inr lower) = ap (λ (v : OpenVisit). v.target)
    (at_low visits d e (noted_visit (visit_at visits d) step passed) more (omega arith) lower)

pub marked_target : (visits : List OpenVisit) (depth : ℕ) (step : Step) (passed : ℕ)
    (more : List OpenVisit) (e : ℕ) → depth ≤ length visits → e < depth →
    (visit_at (marked_visits visits depth step passed ++ more) e).target
    ≡ (visit_at visits e).target
marked_target visits zero step passed more e h lt = absurd (omega arith)
marked_target visits (suc d) step passed more e h lt =
    ap (λ vs. (visit_at vs e).target)
    (append_assoc (take d visits) (noted_visit (visit_at visits d) step passed ∷ []) more)
    ∙ target_case visits d step passed more e (omega arith) (eq-or-lt_of_le (omega arith))

-- the visit behind others
pub at_end_of : (visits : List OpenVisit) (v : OpenVisit) (n : ℕ) → length visits ≡ n
    → visit_at (visits ++ v ∷ []) n ≡ v
at_end_of visits v n same = ap (λ m. visit_at (visits ++ v ∷ []) m) (sym same)
    ∙ get_or-append_seam visits v [] _

-- the innermost visit is replaced
pub set_last : (visits : List OpenVisit) (v : OpenVisit) → 0 < length visits
    → set visits (length visits - 1) v ≡ take (length visits - 1) visits ++ v ∷ []
set_last visits v some =
    let d = length visits - 1 in
    let all : take (suc d) visits ++ [] ≡ visits = append-nil (take (suc d) visits)
    ∙ take_all (suc d) visits (omega arith) in
    ap (λ vs. set vs d v) (sym all) ∙ seam visits d [] v (omega arith)

pub reverse_last : (visits : List OpenVisit) → 0 < length visits
    → reverse visits ≡ visit_at visits (length visits - 1)
    ∷ reverse (take (length visits - 1) visits)
reverse_last visits some =
    let d = length visits - 1 in
    let all : take (suc d) visits ≡ visits = take_all (suc d) visits (omega arith) in
    ap reverse (sym all) ∙ inner_suc visits d (omega arith)

pub set_inner : (visits : List OpenVisit) (v : OpenVisit) → 0 < length visits
    → reverse (set visits (length visits - 1) v) ≡ v ∷ reverse (take (length visits - 1) visits)
set_inner visits v some = ap reverse (set_last visits v some)
    ∙ one_more (take (length visits - 1) visits) v
