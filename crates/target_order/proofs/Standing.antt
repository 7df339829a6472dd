-- How a wanted target stands among the open visits.
use Rattle.std.proofs.Common.{
  ◌≡◌,
  ◌≢◌,
  ◌⊎◌,
  ℕ,
  zero,
  suc,
  ◌+◌,
  ◌-◌,
  option_map,
  ◌<◌,
  ◌≤◌,
  Bool,
  true,
  false,
  cond,
  List,
  [],
  ◌∷◌,
  ◌++◌,
  length,
  get_or,
  take,
  drop,
  map,
  Some,
  refl,
  sym,
  ap,
  ◌∙◌,
  subst,
  inl,
  inr,
  arith,
  append_assoc,
}
use Rattle.std.specs.Prelude.{reverse}
use Rattle.std.specs.Str.{bytes_eq}
use Rattle.std.proofs.Math.Seq.{take-suc, drop-append_seam}
use Rattle.std.proofs.lemmas.List.{length-take-le, drop-append-le, map-append}
use Rattle.std.proofs.lemmas.Bool.{false_from_ne_true, cases_eq}
use Rattle.msb_laws.specs.Words.{Name}
use Rattle.target_order.specs.declared.visits.Step.{Step}
use Rattle.target_order.specs.declared.visits.OpenVisit.{OpenVisit}
use Rattle.target_order.specs.declared.cursor.Cursor.{Cursor}
use Rattle.target_order.specs.Visit.{Hooks, Opened, settled, circular, fresh, standing, among_open}
use Rattle.target_order.specs.Progress.{
  Table,
  Progress,
  number_of,
  hooks_at,
  name_at,
  ran_of,
  flag_at,
  is_past,
  opened,
}
use Rattle.target_order.specs.Search.{
  visit_at,
  inner,
  open_at,
  standing_at,
  circle_at,
  IsTable,
  IsPlaced,
  IsSound,
  IsNew,
}
use Rattle.target_order.proofs.Names.{same_name, own_name, number_name}
use Rattle.target_order.proofs.Stack.{inner_suc}

other_name : (table : Table) (is : IsTable table) (t : Name) (k j : ℕ)
    → number_of table.names t ≡ Some k → j < length table.names → j ≢ k
    → bytes_eq (name_at table j) t ≡ false
other_name table is t k j number lt ne =
    false_from_ne_true _
    (λ e. let at_j = is.distinct j lt in let same = ap (number_of table.names)
    (same_name (name_at table j) t e) in ne cc)

this_name : (table : Table) (t : Name) (k : ℕ) → number_of table.names t ≡ Some k
    → bytes_eq (name_at table k) t ≡ true
this_name table t k number = ap (λ n. bytes_eq n t) (number_name table.names t k number)
    ∙ own_name t

module _ (table : Table) (is : IsTable table) (visits : List OpenVisit) (places : List ℕ)
    (placed : (d : ℕ) → d < length visits → IsPlaced table places d (visit_at visits d))
    (t : Name) (k : ℕ) (number : number_of table.names t ≡ Some k) (hooks : Hooks) where
  other_at : (d : ℕ) → d < length visits → (visit_at visits d).target ≢ k
      → bytes_eq (name_at table (visit_at visits d).target) t ≡ false
  other_at d lt ne = other_name table is t k _ number (placed d lt).known ne

  absent : (d : ℕ) → d ≤ length visits → ((e : ℕ) → e < d → (visit_at visits e).target ≢ k)
      → (back : List Name) →
      among_open t (map (opened table) (reverse (take d visits))) back hooks ≡ fresh hooks
  absent zero h apart back = refl
  absent (suc d) h apart back =
      let lt : d < length visits = omega arith in
      rw (inner_suc visits d lt, other_at d lt (apart d (omega arith)))
      (absent d (omega arith) (λ e l. apart e (omega arith)) _)

  pub fresh_open : (depth : ℕ) → depth ≤ length visits
      → ((e : ℕ) → e < depth → (visit_at visits e).target ≢ k) → (step : Step) (back : List Name) →
      among_open t (open_at table (reverse (take depth visits)) step) back hooks ≡ fresh hooks
  fresh_open zero h apart step back = refl
  fresh_open (suc d) h apart step back =
      let lt : d < length visits = omega arith in
      rw (inner_suc visits d lt, other_at d lt (apart d (omega arith)))
      (absent d (omega arith) (λ e l. apart e (omega arith)) _)

  -- no other open visit is of t
  alone : (place e : ℕ) → place < length visits → e < length visits
      → (visit_at visits place).target ≡ k → place ≢ e → (visit_at visits e).target ≢ k
  alone place e lp le own ne same =
      let a = (placed place lp).place in let b = (placed e le).place in let j = ap
      (λ n. get_or places n 0) (own ∙ sym same) in ne cc

  abbrev pub names_from : ℕ → ℕ → List Name
  names_from place d = map (λ (v : OpenVisit). name_at table v.target) (drop place (take d visits))

  names_last : (d : ℕ) → d < length visits → names_from d (suc d)
      ≡ name_at table (visit_at visits d).target ∷ []
  names_last d lt =
      let l = length-take-le d visits (omega arith) in
      ap (map (λ (v : OpenVisit). name_at table v.target))
      (ap (drop d) (take-suc visits d _ lt)
      ∙ (ap (λ n. drop n (take d visits ++ visit_at visits d ∷ [])) (sym l)
      ∙ drop-append_seam (take d visits) (visit_at visits d ∷ [])))

  names_more : (place d : ℕ) → place ≤ d → d < length visits
      → names_from place (suc d) ≡ names_from place d ++ name_at table (visit_at visits d).target
      ∷ []
  names_more place d h lt =
      let l = length-take-le d visits (omega arith) in
      ap (map (λ (v : OpenVisit). name_at table v.target))
      (ap (drop place) (take-suc visits d _ lt)
      ∙ drop-append-le place (take d visits) (visit_at visits d ∷ []) (omega arith))
      ∙ map-append (λ (v : OpenVisit). name_at table v.target) (drop place (take d visits))
      (visit_at visits d ∷ [])

  here : (d : ℕ) → (visit_at visits d).target ≡ k → d < length visits
      → (step : Step) (back : List Name) →
      among_open t (open_at table (reverse (take (suc d) visits)) step) back hooks
      ≡ cond (is_past step) settled (circular (names_from d (suc d) ++ back))
  here d this lt step back =
      let own : bytes_eq (name_at table (visit_at visits d).target) t
      ≡ true = ap (λ n. bytes_eq (name_at table n) t) this ∙ this_name table t k number in
      rw (inner_suc visits d lt, names_last d lt, own) refl

  at_place : (place d : ℕ) → place ≡ d → (visit_at visits place).target ≡ k → d < length visits
      → (step own : Step) → own ≡ step → (back : List Name) →
      among_open t (open_at table (reverse (take (suc d) visits)) step) back hooks
      ≡ cond (is_past own) settled (circular (names_from place (suc d) ++ back))
  at_place place d e this lt step own same back = rw (same, e)
      (here d (ap (λ n. (visit_at visits n).target) (sym e) ∙ this) lt step back)

  opened_same : (d : ℕ) → d < length visits → map (opened table) (reverse (take (suc d) visits))
      ≡ open_at table (reverse (take (suc d) visits)) (visit_at visits d).step
  opened_same d lt = rw (inner_suc visits d lt) refl

  abbrev Found : ℕ → ℕ → Step → Step → List Name → Type 0
  Found place d step own back =
      among_open t (open_at table (reverse (take (suc d) visits)) step) back hooks
      ≡ cond (is_past own) settled (circular (names_from place (suc d) ++ back))

  found_step : (place d : ℕ) → (visit_at visits place).target ≡ k → place < suc (suc d)
      → suc d < length visits → (step own : Step) → (place ≡ suc d → own ≡ step)
      → (back : List Name) →
      (place < suc d
      → Found place d (visit_at visits d).step own
      (name_at table (visit_at visits (suc d)).target ∷ back))
      → (place ≡ suc d) ⊎ (place ≡ suc d → ⊥) → Found place (suc d) step own back
  found_step place d this lt deep step own top back rest (inl e) = at_place place (suc d) e this
      deep step own (top e) back
  found_step place d this lt deep step own top back rest (inr ne) =
      let name = name_at table (visit_at visits (suc d)).target in
      let names = ap (λ ns. ns ++ back) (names_more place (suc d) (omega arith) deep)
      ∙ append_assoc (names_from place (suc d)) (name ∷ []) back in
      rw (
        inner_suc visits (suc d) deep,
        other_at (suc d) deep
            (alone place (suc d) (omega arith) deep this ne),
        opened_same d (omega arith),
        names,
      )
      (rest (omega arith))

  pub found_open : (place : ℕ) → (visit_at visits place).target ≡ k → (d : ℕ) → place < suc d
      → d < length visits → (step own : Step) →
      (place ≡ d → own ≡ step) → (place < d → own ≡ (visit_at visits place).step)
      → (back : List Name) → Found place d step own back
  found_open place this zero lt deep step own top below back = let e : place
      ≡ 0 = omega arith in at_place place 0 e this deep step own (top e) back
  found_open place this (suc d) lt deep step own top below back =
      found_step place d this lt deep step own top back
      (λ lower. found_open place this d lower (omega arith) (visit_at visits d).step own
      (λ e. below lower ∙ ap (λ n. (visit_at visits n).step) e) (λ l. below lower) _)
      (cases_eq place (suc d))

standing_known : (hooks : Hooks) (ran : Name → Bool) (opens : List Opened) (t : Name)
    → ran t ≡ false → standing (Some hooks) ran opens t ≡ among_open t opens (t ∷ []) hooks
standing_known hooks ran opens t h = rw h refl

scan : (p : Progress) (c : Cursor) (t : Name) (k : ℕ) → number_of p.table.names t ≡ Some k
    → get_or p.has_run k false ≡ false →
    standing_at p c t ≡ among_open t (open_at p.table (inner p c.depth) c.step) (t ∷ [])
    (hooks_at p.table k)
scan p c t k number flag =
    ap
    (λ o. standing (option_map (hooks_at p.table) o) (ran_of p.table p.has_run)
    (open_at p.table (inner p c.depth) c.step) t) number
    ∙ standing_known (hooks_at p.table k) (ran_of p.table p.has_run)
    (open_at p.table (inner p c.depth) c.step) t (ap (flag_at p.has_run) number ∙ flag)

pub is_new : (p : Progress) (places : List ℕ) (c : Cursor) (t : Name) (k : ℕ) → IsSound p places
    → c.depth ≤ length p.visits → number_of p.table.names t ≡ Some k →
    get_or p.has_run k false ≡ false → ((d : ℕ) → d < c.depth → (visit_at p.visits d).target ≢ k)
    → IsNew p c t k
is_new p places c t k sound deep number flag apart = record {
  stands = scan p c t k number flag ∙ fresh_open p.table sound.progress.table p.visits places
      sound.placed t k number (hooks_at p.table k) c.depth deep apart c.step (t ∷ []);
  number = number;
  apart = apart;
}

pub is_open : (p : Progress) (places : List ℕ) (c : Cursor) (t : Name) (k place : ℕ) (own : Step)
    → IsSound p places → c.depth ≤ length p.visits → number_of p.table.names t ≡ Some k →
    get_or p.has_run k false ≡ false → place < c.depth → (visit_at p.visits place).target ≡ k
    → (place + 1 ≡ c.depth → own ≡ c.step)
    → (place + 1 < c.depth → own ≡ (visit_at p.visits place).step) →
    standing_at p c t ≡ cond (is_past own) settled (circular (circle_at p c.depth place t))
is_open p places c t k place own sound deep number flag lt this top below =
    let d = c.depth - 1 in
    let one : suc d ≡ c.depth = omega arith in
    let found = found_open p.table sound.progress.table p.visits places sound.placed t k number
    (hooks_at p.table k) place this d (omega arith) (omega arith) c.step own
    (λ e. top (omega arith)) (λ l. below (omega arith)) (t ∷ []) in
    scan p c t k number flag
    ∙ subst
    (λ n. among_open t (open_at p.table (reverse (take n p.visits)) c.step) (t ∷ [])
    (hooks_at p.table k) ≡ cond (is_past own) settled (circular (circle_at p n place t))) one
    found
