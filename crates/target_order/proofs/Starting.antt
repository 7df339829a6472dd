-- A walk starts with the whole tree of its request.
use Rattle.std.proofs.Common.{
  ◌≡◌,
  ◌⊎◌,
  ℕ,
  zero,
  suc,
  ◌-◌,
  ◌<◌,
  ◌≤◌,
  Bool,
  true,
  false,
  cond,
  ◌||◌,
  List,
  [],
  ◌∷◌,
  ◌++◌,
  length,
  get_or,
  Option,
  Some,
  None,
  option_map,
  refl,
  sym,
  ap,
  ◌∙◌,
  inl,
  inr,
  arith,
  length-append,
}
use Rattle.std.specs.Prelude.{is_some, replicate}
use Rattle.std.specs.List.{list_any, filter}
use Rattle.std.specs.Str.{bytes_eq}
use Rattle.std.proofs.Math.Nat.{eq-or-lt_of_le}
use Rattle.std.proofs.Math.ListN.{get_or-append}
use Rattle.std.proofs.Math.Seq.{get_or-append_seam}
use Rattle.std.proofs.lemmas.List.{length-map, get_or_past}
use Rattle.std.proofs.lemmas.Bool.{cases_lt}
use Rattle.msb_laws.specs.Words.{Name}
use Rattle.target_order.specs.declared.row.TargetRow.{TargetRow}
use Rattle.target_order.specs.declared.hooks.Side.TheVariants.{Before, After}
use Rattle.target_order.specs.declared.visits.Asked.TheVariants.{Nothing}
use Rattle.target_order.specs.declared.visits.OpenVisit.{OpenVisit}
use Rattle.target_order.specs.declared.asks.OrderAnswer.TheVariants.{First}
use Rattle.target_order.specs.Visit.{is_target, keep, first_rows, naming, hooks_in, order}
use Rattle.target_order.specs.Progress.{Table, number_of, hooks_at, project_of, flag_at, ran_of}
use Rattle.target_order.specs.Left.{left}
use Rattle.target_order.specs.Table.{side_of, names_in, AreDistinct, AreHooks}
use Rattle.target_order.specs.Search.{IsTable, IsSound}
use Rattle.target_order.proofs.Names.{own_name, number_name, number_below, number_push}
use Rattle.target_order.proofs.Hooking.{differs}

known_by : (b : Bool) (o : Option ℕ) → is_some (cond b (Some 0) (option_map suc o))
    ≡ (b || is_some o)
known_by true o = refl
known_by false None = refl
known_by false (Some k) = refl

-- a name has a number where a row has it
pub number_target : (rows : List TargetRow) (t : Name)
    → is_some (number_of (names_in rows) t) ≡ is_target rows t
number_target [] t = refl
number_target (r ∷ rows) t = known_by (bytes_eq r.name t) (number_of (names_in rows) t)
    ∙ ap (λ b. bytes_eq r.name t || b) (number_target rows t)

some_at : (names : List Name) (t : Name) (k : ℕ) → number_of names t ≡ Some k
    → is_some (number_of names t) ≡ true
some_at names t k e = ap is_some e

-- a row whose name is new is kept, and no other
pub kept_new : (rows : List TargetRow) (r : TargetRow) → number_of (names_in rows) r.name ≡ None
    → keep rows r ≡ rows ++ r ∷ []
kept_new rows r none = let new : is_target rows r.name ≡ false = sym (number_target rows r.name)
    ∙ ap is_some none in rw new refl

pub kept_old : (rows : List TargetRow) (r : TargetRow)
    → is_some (number_of (names_in rows) r.name) ≡ true → keep rows r ≡ rows
kept_old rows r some = let old : is_target rows r.name ≡ true = sym (number_target rows r.name)
    ∙ some in rw old refl

distinct_case : (names : List Name) (n : Name) → AreDistinct names → number_of names n ≡ None
    → (k : ℕ) → (k ≡ length names) ⊎ (k < length names) →
    number_of (names ++ n ∷ []) (get_or (names ++ n ∷ []) k []) ≡ Some k
distinct_case names n distinct none k (inl e) =
    let at : get_or (names ++ n ∷ []) k [] ≡ n = ap (λ m. get_or (names ++ n ∷ []) m []) e
    ∙ get_or-append_seam names n [] [] in
    let own : bytes_eq n n ≡ true = own_name n in
    rw (at, number_push names n n none, own, e) refl
distinct_case names n distinct none k (inr lt) =
    let at : get_or (names ++ n ∷ []) k [] ≡ get_or names k [] = get_or-append names (n ∷ []) [] k
    lt in
    let other : bytes_eq n (get_or names k [])
    ≡ false = differs names distinct n k lt (λ e. absurd (cc)) in
    rw (at, number_push names n (get_or names k []) none, other) (distinct k lt)

pub distinct_push : (names : List Name) (n : Name) → AreDistinct names → number_of names n ≡ None
    → AreDistinct (names ++ n ∷ [])
distinct_push names n distinct none = λ k lt.
    let len : length (names ++ n ∷ []) ≡ suc (length names) = omega
    (arith, length-append names (n ∷ [])) in
    distinct_case names n distinct none k (eq-or-lt_of_le (omega arith))

filter_by : {X : Type 0} (b : Bool) (x : X) (n : ℕ) (xs : List X) → length xs ≤ n
    → length (cond b (x ∷ xs) xs) ≤ suc n
filter_by true x n xs h = omega arith
filter_by false x n xs h = omega arith

filter_short : {X : Type 0} (test : X → Bool) (xs : List X) → length (filter test xs) ≤ length xs
filter_short test [] = omega arith
filter_short test (x ∷ xs) = filter_by (test x) x (length xs) (filter test xs)
    (filter_short test xs)

naming_short : (listed : TargetRow → List Name) (rows : List TargetRow) (n : Name)
    → length (naming listed rows n) ≤ length rows
naming_short listed rows n =
    let test = λ (r : TargetRow). list_any (λ m. bytes_eq m n) (listed r) in
    let short = filter_short test rows in
    omega (arith, length-map (filter test rows) (λ (r : TargetRow). r.name))

none_run : (n k : ℕ) → get_or (replicate n false) k false ≡ false
none_run zero k = refl
none_run (suc n) zero = refl
none_run (suc n) (suc k) = none_run n k

module _ (rows : List TargetRow) (table : Table) (names : table.names ≡ names_in rows)
    (distinct : AreDistinct table.names)
    (before : AreHooks Before rows table.names table.before)
    (after : AreHooks After rows table.names table.after) where
  count : length table.names ≡ length rows
  count = ap length names ∙ length-map rows (λ (r : TargetRow). r.name)

  short_by : (lists : List (List Name)) (k : ℕ) → length lists ≡ length table.names
      → (k < length table.names → length (get_or lists k []) ≤ length table.names) →
      (k < length table.names) ⊎ (length table.names ≤ k)
      → length (get_or lists k []) ≤ length table.names
  short_by lists k len each (inl lt) = each lt
  short_by lists k len each (inr past) = let none = get_or_past lists k [] (omega arith) in rw none
      (omega arith)

  pub is_table : IsTable table
  is_table = record {
    before_len = before.len;
    after_len = after.len;
    distinct = distinct;
    before_short = λ k. short_by table.before k before.len
        (λ lt.
        rw (before.each k lt)
        (let h = naming_short (side_of Before) rows (get_or table.names k []) in let c = count
        in omega arith)) (cases_lt k (length table.names));
    after_short = λ k. short_by table.after k after.len
        (λ lt.
        rw (after.each k lt)
        (let h = naming_short (side_of After) rows (get_or table.names k []) in let c = count
        in omega arith)) (cases_lt k (length table.names));
  }

  hooks_by : (t : Name) (o : Option ℕ) → number_of table.names t ≡ o
      → option_map (hooks_at table) o ≡ hooks_in rows t
  hooks_by t None number =
      let new : is_target rows t ≡ false = sym (number_target rows t)
      ∙ (ap (λ ns. is_some (number_of ns t)) (sym names) ∙ ap is_some number) in
      rw new refl
  hooks_by t (Some k) number =
      let old : is_target rows t ≡ true = sym (number_target rows t)
      ∙ (ap (λ ns. is_some (number_of ns t)) (sym names) ∙ ap is_some number) in
      let lt = number_below table.names t k number in
      let name = number_name table.names t k number in
      let hooks_before = before.each k lt ∙ ap (λ n. naming (side_of Before) rows n) name in
      let hooks_after = after.each k lt ∙ ap (λ n. naming (side_of After) rows n) name in
      rw (old, hooks_before, hooks_after) refl

  project_is : project_of table ≡ hooks_in rows
  project_is = λ i t. hooks_by t (number_of table.names t) refl i

  flags_by : (o : Option ℕ) (n : ℕ) → flag_at (replicate n false) o ≡ false
  flags_by None n = refl
  flags_by (Some k) n = none_run n k

  ran_is : (n : ℕ) → ran_of table (replicate n false) ≡ (λ t. false)
  ran_is n = λ i t. flags_by (number_of table.names t) n i

  pub start_left : (all : List TargetRow) (wanted targets : List Name) (visits : List OpenVisit)
      (flags : List Bool) (n : ℕ) → rows ≡ first_rows [] all → wanted ≡ targets
      → flags ≡ replicate n false →
      left
      (record {
        table = table;
        wanted = wanted;
        passed = 0;
        visits = visits;
        has_run = flags;
        asked =
            Nothing;
        failed = false;
      }) First ≡ order all targets
  unfolding left order
  start_left all wanted targets visits flags n firsts same unset =
      let c = count in
      let room : suc (length rows) - 0 ≡ suc (length rows) = omega arith in
      rw (← firsts, same, unset, project_is, ran_is n, c, room) refl

-- and with nothing open
pub start_sound : (table : Table) (wanted : List Name) (visits : List OpenVisit) (flags : List Bool)
    (places : List ℕ) → IsTable table → visits ≡ [] → length table.names ≤ length flags
    → length table.names ≤ length places →
    IsSound
    (record {
      table = table;
      wanted = wanted;
      passed = 0;
      visits = visits;
      has_run = flags;
      asked =
          Nothing;
      failed = false;
    }) places
start_sound table wanted visits flags places is none run_len places_len = record {
  progress = record {
    table = is;
    run_len = run_len;
    visits = λ e. absurd (cc);
    begins = λ e. none;
    failed = λ e. rw none refl;
    calm = λ e. absurd (cc);
  };
  places_len = places_len;
  placed = λ d lt. absurd (let l = ap length none in omega arith);
}

pub not_some : (o : Option ℕ) → is_some o ≡ false → o ≡ None
not_some None e = refl
not_some (Some k) e = absurd (cc)
