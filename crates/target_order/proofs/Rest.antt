-- What is left at a cursor, from one turn of a search to the next.
use Rattle.std.proofs.Common.{
  ◌≡◌,
  ℕ,
  zero,
  suc,
  ◌+◌,
  ◌-◌,
  ◌*◌,
  ◌^◌,
  ◌<◌,
  ◌≤◌,
  Bool,
  false,
  List,
  [],
  ◌∷◌,
  length,
  get_or,
  refl,
  inl,
  inr,
  sym,
  ap,
  ◌∙◌,
  subst,
  arith,
  add-one,
  drop-cons,
}
use Rattle.std.specs.List.{list_any}
use Rattle.std.proofs.lemmas.List.{length-map, length-drop}
use Rattle.msb_laws.specs.Words.{Name}
use Rattle.target_order.specs.declared.visits.Step.{Step}
use Rattle.target_order.specs.declared.visits.Step.TheVariants.{
  Request,
  Depends,
  BeforeBody,
  BeforeSkip,
  After,
  Errors,
}
use Rattle.target_order.specs.declared.visits.OpenVisit.{OpenVisit}
use Rattle.target_order.specs.declared.cursor.Cursor.{Cursor}
use Rattle.target_order.specs.Visit.{
  Rest,
  Opened,
  Standing,
  settled,
  standing,
  visit,
  visit_by,
  in_order,
}
use Rattle.target_order.specs.Progress.{
  Table,
  Progress,
  project_of,
  hooks_at,
  ran_of,
  opened,
  list_at,
  is_errors,
}
use Rattle.target_order.specs.Left.{visit_in, resume, base_at}
use Rattle.target_order.specs.AsksLeft.{asks_in, resume_asks, base_asks}
use Rattle.target_order.specs.Search.{
  visit_at,
  inner,
  is_request,
  open_at,
  then_at,
  then_asks,
  errors_at,
  rest_list,
  rank,
  weight,
  standing_at,
  IsBelow,
  IsCursor,
  GoesOn,
  IsList,
  IsTable,
  IsSound,
  IsHookStep,
}
use Rattle.target_order.proofs.Stack.{few_visits, inner_suc, inner_length}

-- a visit has room, and the visits inside it have room for one less
pub visit_once : (table : Table) (opens : List Opened) (t : Name) (on : Rest) (ran : Name → Bool)
    → length opens ≤ length table.names →
    visit_in table opens t on ran ≡ visit_by (standing (project_of table t) ran opens t)
    (λ past. visit_in table (record { name = t; past = past } ∷ opens)) t on ran
unfolding visit
visit_once table opens t on ran h =
    let e : suc (length table.names) - length opens
    ≡ suc (suc (length table.names) - suc (length opens)) = omega arith in rw e refl

length_open : (table : Table) (visits : List OpenVisit) (step : Step)
    → length (open_at table visits step) ≡ length visits
length_open table [] step = refl
length_open table (v ∷ visits) step = ap suc (length-map visits (opened table))

-- the visits through a cursor leave room for one more
pub room_at : (p : Progress) (places : List ℕ) (depth : ℕ) (step : Step) → IsSound p places
    → depth ≤ length p.visits → length (open_at p.table (inner p depth) step) ≤ length p.table.names
room_at p places depth step sound deep =
    omega (
      arith,
      length_open p.table (inner p depth) step,
      inner_length p.visits depth deep,
      few_visits p.table p.visits places sound.placed,
    )

settled_by : (s : Standing) (inside : Bool → Name → Rest → Rest) (t : Name) (on : Rest)
    (ran : Name → Bool) → s ≡ settled → visit_by s inside t on ran ≡ on ran
settled_by s inside t on ran e = rw e refl

pub pass_settled : (table : Table) (opens : List Opened) (t : Name) (on : Rest) (ran : Name → Bool)
    → length opens ≤ length table.names →
    standing (project_of table t) ran opens t ≡ settled → visit_in table opens t on ran ≡ on ran
pass_settled table opens t on ran room e = visit_once table opens t on ran room
    ∙ settled_by _ _ t on ran e

less_asks : (m n a rest : ℕ) → m ≤ n → m * a + rest ≤ n * a + rest
less_asks m n a rest h = grind arith

abbrev pub past_name : Cursor → Cursor
past_name c = record { depth = c.depth; step = c.step; list = c.list; passed = c.passed + 1 }

-- a settled name is passed over
pub passes : (p : Progress) (places : List ℕ) (c : Cursor) → IsSound p places → IsCursor p c
    → c.passed < length c.list.now →
    standing_at p c (get_or c.list.now c.passed []) ≡ settled
    → GoesOn p c (past_name c) × (weight (past_name c) < weight c)
passes p places c sound cursor within stands =
    let t = get_or c.list.now c.passed [] in
    let one : rest_list c ≡ t ∷ rest_list (past_name c) = rw add-one
    (drop-cons c.list.now c.passed [] within) in
    let longer = ap length one in (
      record {
        is = record { deep = cursor.deep; lists = cursor.lists; short = cursor.short };
        rest = rw one
            (sym
            (pass_settled p.table (open_at p.table (inner p c.depth) c.step) t _
            (ran_of p.table p.has_run) (room_at p places c.depth c.step sound cursor.deep) stands));
        asks = less_asks _ _ _ _ (omega arith);
        errors = refl;
      },
      omega arith,
    )

rank_low : (step : Step) → rank step ≤ 1
rank_low Request = omega arith
rank_low Depends = omega arith
rank_low BeforeBody = omega arith
rank_low BeforeSkip = omega arith
rank_low After = omega arith
rank_low Errors = omega arith

below_cases : (p : Progress) (c : Cursor) (n : ℕ) → c.depth ≡ n
    → IsList p.table p.wanted (inner p n) c.step c.list.now → is_request c.step ≡ false → 0 < n
below_cases p c zero e lists step = let r = lists.0 in let f = ap is_request r in absurd (cc)
below_cases p c (suc n) e lists step = omega arith

-- a step other than the request's is that of an open visit
pub is_deep : (p : Progress) (c : Cursor) → IsCursor p c → is_request c.step ≡ false → 0 < c.depth
is_deep p c cursor step = below_cases p c c.depth refl cursor.lists step

pub top_of : (p : Progress) (c : Cursor) → IsCursor p c → 0 < c.depth
    → inner p c.depth ≡ visit_at p.visits (c.depth - 1) ∷ inner p (c.depth - 1)
top_of p c cursor positive =
    let deep = cursor.deep in
    let d = c.depth - 1 in
    let one : c.depth ≡ suc d = omega arith in
    ap (inner p) one ∙ inner_suc p.visits d (omega arith)

fewer_then : (len n a rest more : ℕ) → len ≤ n
    → len * a + (rest + more) ≤ 0 * a + (n * a + rest + more)
fewer_then len n a rest more h = grind arith

fewer_end : (len n a more : ℕ) → len ≤ n → len * a + (0 + more) ≤ 0 * a + (n * a + more)
fewer_end len n a more h = grind arith

module _ (p : Progress) (c : Cursor) (cursor : IsCursor p c) (v : OpenVisit)
    (visits : List OpenVisit) (top : inner p c.depth ≡ v ∷ visits)
    (ends : rest_list c ≡ []) (table : IsTable p.table) (next : Cursor)
    (depth : next.depth ≡ c.depth) (passed : next.passed ≡ 0)
    (names : next.list.now ≡ list_at p.table v.target v.names next.step)
    (short : length next.list.now < 2 ^ 64) where
  depends_end : c.step ≡ Depends → next.step ≡ BeforeBody
      → GoesOn p c next × (weight next < weight c)
  depends_end step now =
      let few : length (hooks_at p.table v.target).before
      ≤ length p.table.names = table.before_short v.target in (
        record {
          is = record {
            deep = rw depth cursor.deep;
            lists = rw depth
                (subst (λ vs. IsList p.table p.wanted vs next.step next.list.now) (sym top)
                (ap is_request now, names));
            short = short;
          };
          rest = rw (depth, top, step, ends, names, passed, now) refl;
          asks = rw (depth, top, step, ends, names, passed, now) (fewer_then _ _ _ _ _ few);
          errors = rw (depth, top, step, now) refl;
        },
        rw (depth, step, ends, now, passed) (omega arith),
      )

  skip_end : c.step ≡ BeforeSkip → next.step ≡ After → GoesOn p c next × (weight next < weight c)
  skip_end step now =
      let few : length (hooks_at p.table v.target).after
      ≤ length p.table.names = table.after_short v.target in (
        record {
          is = record {
            deep = rw depth cursor.deep;
            lists = rw depth
                (subst (λ vs. IsList p.table p.wanted vs next.step next.list.now) (sym top)
                (ap is_request now, names));
            short = short;
          };
          rest = rw (depth, top, step, ends, names, passed, now) refl;
          asks = rw (depth, top, step, ends, names, passed, now) (fewer_end _ _ _ _ few);
          errors = rw (depth, top, step, now) refl;
        },
        rw (depth, step, ends, now, passed) (omega arith),
      )

  pub hook_end : IsHookStep c.step next.step → GoesOn p c next × (weight next < weight c)
  hook_end (inl h) = depends_end h.0 h.1
  hook_end (inr h) = skip_end h.0 h.1

-- a step that ends with hooks is a visit's own
pub hook_within : (step next : Step) → IsHookStep step next
    → (is_request step ≡ false) × (is_request next ≡ false)
hook_within step next (inl h) = (ap is_request h.0, ap is_request h.1)
hook_within step next (inr h) = (ap is_request h.0, ap is_request h.1)

-- where the innermost of these visits stands in its list
pub below_rest : (p : Progress) (visits : List OpenVisit) (c : Cursor) → IsBelow p visits c →
    in_order (visit_in p.table (open_at p.table visits c.step)) (rest_list c)
    (then_at p.table (base_at p) visits c.step) ≡ resume p.table (base_at p) visits
below_rest p [] c (step, list, passed) = rw (step, list, passed) refl
below_rest p (v ∷ visits) c (step, list, passed) = rw (step, list, passed) refl

pub below_asks : (p : Progress) (visits : List OpenVisit) (c : Cursor) → IsBelow p visits c →
    length (rest_list c) * asks_in p.table (length visits)
    + then_asks p.table (base_asks p) visits c.step ≡ resume_asks p.table (base_asks p) visits
below_asks p [] c (step, list, passed) = rw (list, passed) (omega arith)
below_asks p (v ∷ visits) c (step, list, passed) = rw (step, list, passed) refl

pub below_errors : (p : Progress) (visits : List OpenVisit) (c : Cursor) → IsBelow p visits c
    → errors_at visits c.step ≡ list_any (λ v. is_errors v.step) visits
below_errors p [] c (step, list, passed) = refl
below_errors p (v ∷ visits) c (step, list, passed) = rw step refl

pub below_list : (p : Progress) (visits : List OpenVisit) (c : Cursor) → IsBelow p visits c
    → ((v : OpenVisit) (rest : List OpenVisit) → visits ≡ v ∷ rest → is_request v.step ≡ false)
    → IsList p.table p.wanted visits c.step c.list.now
below_list p [] c (step, list, passed) each = (step, list)
below_list p (v ∷ visits) c (step, list, passed) each = (
  ap is_request step ∙ each v visits refl,
  list
      ∙ ap (list_at p.table v.target v.names) (sym step),
)

pub inner_within : (p : Progress) (places : List ℕ) (d : ℕ) → IsSound p places → d ≤ length p.visits
    → (v : OpenVisit) (rest : List OpenVisit) → inner p d ≡ v ∷ rest → is_request v.step ≡ false
inner_within p places zero sound deep v rest e = absurd (cc)
inner_within p places (suc d) sound deep v rest e =
    let lt : d < length p.visits = omega arith in
    let top = inner_suc p.visits d lt in
    let same : visit_at p.visits d ≡ v = cc in
    subst (λ u. is_request u.step ≡ false) same (sound.placed d lt).within

pub after_end : (p : Progress) (places : List ℕ) (c next : Cursor) → IsSound p places → IsCursor p c
    → c.step ≡ After → rest_list c ≡ [] →
    next.depth ≡ c.depth - 1 → IsBelow p (inner p (c.depth - 1)) next
    → length next.list.now < 2 ^ 64 → GoesOn p c next × (weight next < weight c)
after_end p places c next sound cursor step ends depth below short =
    let positive = is_deep p c cursor (ap is_request step) in
    let top = top_of p c cursor positive in
    let outer = inner p (c.depth - 1) in
    let deep : c.depth - 1 ≤ length p.visits = let h = cursor.deep in omega arith in
    let asks = below_asks p outer next below in
    let low = rank_low next.step in
    let shorter : length (rest_list next) ≤ length next.list.now = omega
    (arith, length-drop next.passed next.list.now) in (
      record {
        is = record {
          deep = rw depth deep;
          lists = rw depth
              (below_list p outer next below (inner_within p places (c.depth - 1) sound deep));
          short
              = short;
        };
        rest = rw (depth, top, step, ends)
            (ap (λ f. f (ran_of p.table p.has_run)) (below_rest p outer next below));
        asks = rw (depth, top, step, ends) (omega arith);
        errors = rw (depth, top, step) (below_errors p outer next below);
      },
      rw (depth, step, ends) (omega arith),
    )

pub goes_nowhere : (p : Progress) (c : Cursor) → IsCursor p c → GoesOn p c c
goes_nowhere p c cursor = record { is = cursor; rest = refl; asks = omega arith; errors = refl }

pub goes_further : (p : Progress) (c d e : Cursor) → GoesOn p c d → GoesOn p d e → GoesOn p c e
goes_further p c d e first second = record {
  is = second.is;
  rest = second.rest ∙ first.rest;
  asks = let a = first.asks in let b = second.asks in omega arith;
  errors = second.errors ∙ first.errors;
}
