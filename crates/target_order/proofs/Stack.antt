-- The stack of open visits, read from its end.
use Rattle.std.proofs.Common.{
  ◌≡◌,
  ℕ,
  suc,
  ◌+◌,
  ◌<◌,
  ◌≤◌,
  Bool,
  true,
  false,
  ◌||◌,
  eqb,
  List,
  [],
  ◌∷◌,
  ◌++◌,
  length,
  get_or,
  take,
  drop,
  map,
  refl,
  sym,
  ap,
  ◌∙◌,
  subst,
  arith,
  add-one,
}
use Rattle.std.specs.Prelude.{reverse}
use Rattle.std.specs.List.{list_any, IsDistinct, AllByRecursion}
use Rattle.std.proofs.Math.Seq.{take-suc}
use Rattle.std.proofs.lemmas.List.{
  reverse-append,
  length-reverse,
  length-take-le,
  take_all,
  length-map,
  get_or-map,
  drop-append-le,
}
use Rattle.std.proofs.lemmas.Grind.{common_steps}
use Rattle.std.proofs.lemmas.Bool.{ne_eqb}
use Rattle.std.proofs.lemmas.Bool.Decides.{nat_tests}
use Rattle.std.proofs.lemmas.Map.Steps.{length-le_from_distinct_below}
use Rattle.target_order.specs.declared.visits.OpenVisit.{OpenVisit}
use Rattle.target_order.specs.declared.cursor.Cursor.{Cursor}
use Rattle.target_order.specs.Progress.{Table, Progress, list_at}
use Rattle.target_order.specs.Search.{visit_at, inner, IsPlaced, IsBelow}

pub inner_suc : (visits : List OpenVisit) (d : ℕ) → d < length visits
    → reverse (take (suc d) visits) ≡ visit_at visits d ∷ reverse (take d visits)
inner_suc visits d h = ap reverse (take-suc visits d _ h)
    ∙ reverse-append (take d visits) (visit_at visits d ∷ [])

pub inner_all : (visits : List OpenVisit) → reverse (take (length visits) visits) ≡ reverse visits
inner_all visits = ap reverse (take_all (length visits) visits (omega arith))

pub inner_length : (visits : List OpenVisit) (d : ℕ) → d ≤ length visits
    → length (reverse (take d visits)) ≡ d
inner_length visits d h = length-reverse (take d visits) ∙ length-take-le d visits h

-- The targets of open visits are distinct, since each is led to by its own place.
apart : (x : ℕ) (ts places : List ℕ) (i j : ℕ) → get_or places x 0 ≡ i → i < j
    → ((d : ℕ) → d < length ts → get_or places (get_or ts d 0) 0 ≡ j + d)
    → AllByRecursion (λ y. eqb x y ≡ false) ts
apart x [] places i j own lt each = tt
apart x (y ∷ ts) places i j own lt each =
    let at_y : get_or places y 0 ≡ j + 0 = each 0 (omega arith) in (
      ne_eqb x y (λ e. let h = ap (λ z. get_or places z 0) e in omega arith),
      apart x ts places i (suc j) own (omega arith)
          (λ d h. each (suc d) (omega arith) ∙ omega arith),
    )

distinct : (ts places : List ℕ) (j : ℕ)
    → ((d : ℕ) → d < length ts → get_or places (get_or ts d 0) 0 ≡ j + d) → IsDistinct eqb ts
unfolding IsDistinct
distinct [] places j each = tt
distinct (x ∷ ts) places j each = (
  apart x ts places j (suc j) (each 0 (omega arith) ∙ omega arith) (omega arith)
      (λ d h. each (suc d) (omega arith) ∙ omega arith),
  distinct ts places (suc j) (λ d h. each (suc d) (omega arith) ∙ omega arith),
)

known_by : (b : Bool) (q x n : ℕ) (rest : Bool) → eqb q x ≡ b → x < n → (b || rest) ≡ true
    → (rest ≡ true → q < n) → q < n
known_by true q x n rest e below h go = grind (arith, nat_tests)
known_by false q x n rest e below h go = go h

known : (ts : List ℕ) (n : ℕ) → ((d : ℕ) → d < length ts → get_or ts d 0 < n) → (q : ℕ)
    → list_any (eqb q) ts ≡ true → q < n
known [] n each q h = absurd (cc)
known (x ∷ ts) n each q h =
    known_by (eqb q x) q x n (list_any (eqb q) ts) refl (each 0 (omega arith)) h
    (λ e. known ts n (λ d lt. each (suc d) (omega arith)) q e)

pub few : (ts places : List ℕ) (n : ℕ)
    → ((d : ℕ) → d < length ts → (get_or ts d 0 < n) × (get_or places (get_or ts d 0) 0 ≡ d))
    → length ts ≤ n
few ts places n each =
    length-le_from_distinct_below ts n (distinct ts places 0 (λ d h. (each d h).1 ∙ omega arith))
    (known ts n (λ d h. (each d h).0))

abbrev targets_of : List OpenVisit → List ℕ
targets_of visits = map (λ (v : OpenVisit). v.target) visits

target_at : (visits : List OpenVisit) (d : ℕ) → d < length visits
    → get_or (targets_of visits) d 0 ≡ (visit_at visits d).target
target_at visits d lt = get_or-map (λ (v : OpenVisit). v.target) visits d _ 0 lt

-- so there are at most as many as the project has targets
pub few_visits : (table : Table) (visits : List OpenVisit) (places : List ℕ)
    → ((d : ℕ) → d < length visits → IsPlaced table places d (visit_at visits d))
    → length visits ≤ length table.names
few_visits table visits places placed =
    let each : (d : ℕ) → d < length (targets_of visits)
    → (get_or (targets_of visits) d 0 < length table.names)
    × (get_or places (get_or (targets_of visits) d 0) 0 ≡ d) =
    λ d h. let lt : d < length visits = omega
    (arith, length-map visits (λ (v : OpenVisit). v.target)) in
    rw (target_at visits d lt) ((placed d lt).known, (placed d lt).place) in
    omega (
      arith,
      few (targets_of visits) places (length table.names) each,
      length-map visits
          (λ (v : OpenVisit). v.target),
    )

-- where the innermost of so many visits stands in its list
pub below_is : (p : Progress) (d depth : ℕ) (c : Cursor) → suc d ≡ depth → d < length p.visits
    → c.step ≡ (visit_at p.visits d).step →
    c.list.now ≡ list_at p.table (visit_at p.visits d).target (visit_at p.visits d).names
    (visit_at p.visits d).step → c.passed ≡ (visit_at p.visits d).passed →
    IsBelow p (inner p depth) c
below_is p d depth c one h step names passed =
    subst (λ n. IsBelow p (inner p n) c) one
    (subst (λ visits. IsBelow p visits c) (sym (inner_suc p.visits d h)) (step, names, passed))

-- one more visit of a part of the stack
pub part_more : (visits : List OpenVisit) (place d : ℕ) → place ≤ d → d < length visits
    → drop place (take (d + 1) visits) ≡ drop place (take d visits) ++ visit_at visits d ∷ []
part_more visits place d h lt =
    let l = length-take-le d visits (omega arith) in
    rw add-one (ap (drop place) (take-suc visits d _ lt)
    ∙ drop-append-le place (take d visits) (visit_at visits d ∷ []) (omega arith))

pub part_none : (visits : List OpenVisit) (place : ℕ) → place ≤ length visits
    → drop place (take place visits) ≡ []
part_none visits place h = let l = length-take-le place visits h in grind (arith, common_steps)
