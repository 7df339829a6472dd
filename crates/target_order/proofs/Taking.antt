-- What is left of a walk that is answered, and where it is put back.
use Rattle.std.proofs.Common.{
  ◌≡◌,
  ◌≢◌,
  ◌⊎◌,
  ℕ,
  zero,
  suc,
  ◌+◌,
  ◌-◌,
  ◌*◌,
  ◌^◌,
  ◌<◌,
  ◌≤◌,
  Bool,
  true,
  false,
  cond,
  ◌||◌,
  List,
  [],
  ◌∷◌,
  length,
  get_or,
  take,
  set,
  map,
  Option,
  Some,
  None,
  refl,
  sym,
  ap,
  ◌∙◌,
  subst,
  inl,
  inr,
  arith,
}
use Rattle.std.specs.Prelude.{reverse}
use Rattle.std.specs.Str.{bytes_eq}
use Rattle.std.specs.Prelude.{Result, Ok, Err, OnOk, IfOk}
use Rattle.msb_laws.specs.Words.{Name}
use Rattle.msb_values.specs.declared.errors.NoMemory.{NoMemory}
use Rattle.std.proofs.Math.ListN.{length-set}
use Rattle.std.proofs.lemmas.List.{get_or-set_same, get_or-set_other, set-get_or}
use Rattle.std.proofs.lemmas.Bool.{false_from_ne_true, cases_eq}
use Rattle.msb_laws.specs.Asking.{Asking, asks}
use Rattle.target_order.specs.declared.asks.OrderAsk.{OrderAsk}
use Rattle.target_order.specs.declared.asks.OrderAsk.TheVariants.{Depends}
use Rattle.target_order.specs.declared.asks.OrderAnswer.{OrderAnswer}
use Rattle.target_order.specs.declared.asks.OrderAnswer.TheVariants.{
  First,
  Truth,
  Names,
  Ok as Ran,
  Failed,
}
use Rattle.target_order.specs.declared.visits.Asked.{Asked}
use Rattle.target_order.specs.declared.visits.Asked.TheVariants.{
  Nothing,
  Condition as ForCondition,
  Depends as ForDepends,
  Body as ForBody,
  Answered,
  End as TheEnd,
}
use Rattle.target_order.specs.declared.visits.Step.{Step}
use Rattle.target_order.specs.declared.visits.Step.TheVariants.{
  BeforeSkip,
  After,
  Errors,
  Depends as AtDepends,
}
use Rattle.target_order.specs.declared.visits.OpenVisit.{OpenVisit}
use Rattle.target_order.specs.Visit.{Question, depends, End, in_order, with, step_3}
use Rattle.target_order.specs.Progress.{
  Table,
  Progress,
  number_of,
  hooks_at,
  name_at,
  flag_at,
  ran_of,
  is_past,
  opened,
  list_at,
}
use Rattle.target_order.specs.Left.{left, inside, after_list, resume, base_at, answered}
use Rattle.target_order.specs.AsksLeft.{
  asks_left,
  asks_in,
  after_asks,
  resume_asks,
  base_asks,
  answered_asks,
}
use Rattle.target_order.specs.Answers.{Asks, fits}
use Rattle.target_order.specs.Search.{visit_at, is_going, asks_visit, IsTable, IsProgress, IsSound}
use Rattle.target_order.specs.Steps.{
  going,
  going_asks,
  taken,
  undo_of,
  restored,
  top_target,
  step_after,
  names_after,
}
use Rattle.target_order.specs.declared.steps.Undo.{Undo}
use Rattle.target_order.proofs.Names.{same_name, own_name, number_name}
use Rattle.target_order.proofs.Marks.{reverse_last, set_inner}

-- what has run, with one target more
run_by : (table : Table) (is : IsTable table) (flags : List Bool) (t : ℕ)
    → length table.names ≤ length flags → t < length table.names → (n : Name) (o : Option ℕ)
    → number_of table.names n ≡ o →
    flag_at (set flags t true) o ≡ (bytes_eq n (name_at table t) || flag_at flags o)
run_by table is flags t len lt n None number =
    let other : bytes_eq n (name_at table t) ≡ false = false_from_ne_true _
    (λ e. let own = is.distinct t lt in let same = ap (number_of table.names)
    (same_name n (name_at table t) e) in absurd (cc)) in
    rw other refl
run_by table is flags t len lt n (Some j) number = by_case (cases_eq j t)
  where
    by_case : (j ≡ t) ⊎ (j ≡ t → ⊥) → get_or (set flags t true) j false
        ≡ (bytes_eq n (name_at table t) || get_or flags j false)
    by_case (inl e) =
        let own : bytes_eq n (name_at table t)
        ≡ true = ap (λ m. bytes_eq n m) (ap (name_at table) (sym e)
        ∙ number_name table.names n j number) ∙ own_name n in
        rw (own, e) (get_or-set_same flags t true false (omega arith))
    by_case (inr ne) =
        let other : bytes_eq n (name_at table t)
        ≡ false = false_from_ne_true _
        (λ e. let own = is.distinct t lt in let same = ap (number_of table.names)
        (same_name n (name_at table t) e) in ne cc) in
        rw other (get_or-set_other flags t j true false ne)

pub run_with : (table : Table) → IsTable table → (flags : List Bool) (t : ℕ)
    → length table.names ≤ length flags → t < length table.names
    → ran_of table (set flags t true) ≡ with (name_at table t) (ran_of table flags)
run_with table is flags t len lt = λ i n. run_by table is flags t len lt n (number_of table.names n)
    refl i

-- the visits outside the innermost one, innermost first
abbrev pub outer_of : Progress → List OpenVisit
outer_of p = reverse (take (length p.visits - 1) p.visits)

going_taken : (p : Progress) (step : Step) (names : List Name) → 0 < length p.visits →
    going (taken p step names)
    ≡ in_order (inside p.table (map (opened p.table) (outer_of p)) (top_target p) (is_past step))
    (list_at p.table (top_target p) names step)
    (after_list p.table (map (opened p.table) (outer_of p)) (top_target p) step
    (resume p.table (base_at p) (outer_of p)))
    (ran_of p.table (cond (is_past step) (set p.has_run (top_target p) true) p.has_run))
going_taken p step names some = rw (set_inner p.visits _ some) refl

-- what is asked after this answer, where it isn't the first one and no true Condition
taken_by : (p : Progress) (places : List ℕ) (asked : Asked) (answer : OrderAnswer)
    → IsSound p places → 0 < length p.visits → fits asked answer ≡ true → answer ≢ First
    → answer ≢ Truth true →
    going (taken p (step_after answer) (names_after answer))
    ≡ answered p.table (base_at p) asked (visit_at p.visits (length p.visits - 1) ∷ outer_of p)
    answer (ran_of p.table p.has_run)
taken_by p places Nothing First sound some h first holds = absurd (first refl)
taken_by p places Nothing (Truth b) sound some h first holds = absurd (cc)
taken_by p places Nothing (Names names) sound some h first holds = absurd (cc)
taken_by p places Nothing Ran sound some h first holds = absurd (cc)
taken_by p places Nothing (Failed names) sound some h first holds = absurd (cc)
taken_by p places ForCondition (Truth true) sound some h first holds = absurd (holds refl)
taken_by p places ForCondition (Truth false) sound some h first holds = going_taken p BeforeSkip []
    some
taken_by p places ForCondition First sound some h first holds = absurd (cc)
taken_by p places ForCondition (Names names) sound some h first holds = absurd (cc)
taken_by p places ForCondition Ran sound some h first holds = absurd (cc)
taken_by p places ForCondition (Failed names) sound some h first holds = absurd (cc)
taken_by p places ForDepends (Names names) sound some h first holds = going_taken p AtDepends names
    some
taken_by p places ForDepends First sound some h first holds = absurd (cc)
taken_by p places ForDepends (Truth b) sound some h first holds = absurd (cc)
taken_by p places ForDepends Ran sound some h first holds = absurd (cc)
taken_by p places ForDepends (Failed names) sound some h first holds = absurd (cc)
taken_by p places ForBody Ran sound some h first holds =
    let run = run_with p.table sound.progress.table p.has_run (top_target p) sound.progress.run_len
    (sound.placed (length p.visits - 1) (omega arith)).known in
    going_taken p After [] some
    ∙ ap
    (λ ran. in_order (inside p.table (map (opened p.table) (outer_of p)) (top_target p) true)
    (hooks_at p.table (top_target p)).after (resume p.table (base_at p) (outer_of p)) ran) run
taken_by p places ForBody (Failed names) sound some h first holds =
    let run = run_with p.table sound.progress.table p.has_run (top_target p) sound.progress.run_len
    (sound.placed (length p.visits - 1) (omega arith)).known in
    going_taken p Errors names some
    ∙ ap
    (λ ran. in_order (inside p.table (map (opened p.table) (outer_of p)) (top_target p) true)
    names
    (after_list p.table (map (opened p.table) (outer_of p)) (top_target p) Errors
    (resume p.table (base_at p) (outer_of p))) ran) run
taken_by p places ForBody First sound some h first holds = absurd (cc)
taken_by p places ForBody (Truth b) sound some h first holds = absurd (cc)
taken_by p places ForBody (Names names) sound some h first holds = absurd (cc)
taken_by p places Answered answer sound some h first holds = absurd (cc)
taken_by p places TheEnd answer sound some h first holds = absurd (cc)

left_is : (p : Progress) (answer : OrderAnswer) → 0 < length p.visits →
    left p answer ≡ answered p.table (base_at p) p.asked
    (visit_at p.visits (length p.visits - 1) ∷ outer_of p) answer (ran_of p.table p.has_run)
unfolding left
left_is p answer some = ap
    (λ vs. answered p.table (base_at p) p.asked vs answer (ran_of p.table p.has_run))
    (reverse_last p.visits some)

pub taken_left : (p : Progress) (places : List ℕ) (answer : OrderAnswer) → IsSound p places
    → asks_visit p.asked ≡ true → fits p.asked answer ≡ true → answer ≢ First → answer ≢ Truth true
    →
    going (taken p (step_after answer) (names_after answer)) ≡ left p answer
taken_left p places answer sound asked h first holds =
    let some = sound.progress.visits asked in
    taken_by p places p.asked answer sound some h first holds ∙ sym (left_is p answer some)

-- the answers that fit are those to the innermost visit
pub fits_visit : (asked : Asked) (answer : OrderAnswer) → fits asked answer ≡ true → answer ≢ First
    → asks_visit asked ≡ true
fits_visit Nothing First h first = absurd (first refl)
fits_visit Nothing (Truth b) h first = absurd (cc)
fits_visit Nothing (Names names) h first = absurd (cc)
fits_visit Nothing Ran h first = absurd (cc)
fits_visit Nothing (Failed names) h first = absurd (cc)
fits_visit ForCondition answer h first = refl
fits_visit ForDepends answer h first = refl
fits_visit ForBody answer h first = refl
fits_visit Answered answer h first = absurd (cc)
fits_visit TheEnd answer h first = absurd (cc)

fits_first : (asked : Asked) → fits asked First ≡ true → asked ≡ Nothing
fits_first Nothing h = refl
fits_first ForCondition h = absurd (cc)
fits_first ForDepends h = absurd (cc)
fits_first ForBody h = absurd (cc)
fits_first Answered h = absurd (cc)
fits_first TheEnd h = absurd (cc)

pub going_first : (asked : Asked) → fits asked First ≡ true → is_going asked ≡ true
going_first asked h = ap is_going (fits_first asked h)

-- the first answer begins with the request's list
pub first_left : (p : Progress) → IsProgress p → fits p.asked First ≡ true → going p ≡ left p First
unfolding left
first_left p is h =
    let asked = fits_first p.asked h in
    rw (asked, is.begins asked) refl

pub first_fewer : (p : Progress) → IsProgress p → fits p.asked First ≡ true
    → going_asks p < asks_left p
unfolding asks_left
first_fewer p is h =
    let asked = fits_first p.asked h in
    rw (asked, is.begins asked) (omega arith)

fits_truth : (asked : Asked) → fits asked (Truth true) ≡ true → asked ≡ ForCondition
fits_truth Nothing h = absurd (cc)
fits_truth ForCondition h = refl
fits_truth ForDepends h = absurd (cc)
fits_truth ForBody h = absurd (cc)
fits_truth Answered h = absurd (cc)
fits_truth TheEnd h = absurd (cc)

pub truth_asked : (p : Progress) → fits p.asked (Truth true) ≡ true → p.asked ≡ ForCondition
truth_asked p h = fits_truth p.asked h

abbrev pub for_depends : Progress → Progress
for_depends p = record p { asked = ForDepends }

depends_left : (p : Progress) (answer : OrderAnswer) → 0 < length p.visits →
    left (for_depends p) answer
    ≡ step_3 (inside p.table (map (opened p.table) (outer_of p)) (top_target p))
    (name_at p.table (top_target p)) (hooks_at p.table (top_target p))
    (resume p.table (base_at p) (outer_of p)) answer (ran_of p.table p.has_run)
unfolding left
depends_left p answer some = rw (reverse_last p.visits some) refl

-- a true Condition asks for DependsOnTargets
pub truth_asks : (p : Progress) → IsProgress p → fits p.asked (Truth true) ≡ true
    → Asks (left p (Truth true)) (Depends (name_at p.table (top_target p))) (for_depends p)
truth_asks p is h =
    let asked = fits_truth p.asked h in
    let some = is.visits (ap asks_visit asked) in
    let tree : left p (Truth true) ≡ asks (depends (name_at p.table (top_target p)))
    (λ answer. step_3 (inside p.table (map (opened p.table) (outer_of p)) (top_target p))
    (name_at p.table (top_target p)) (hooks_at p.table (top_target p))
    (resume p.table (base_at p) (outer_of p)) answer (ran_of p.table p.has_run)) =
    left_is p (Truth true) some ∙ rw asked refl in
    subst (λ tree. Asks tree (Depends (name_at p.table (top_target p))) (for_depends p)) (sym tree)
    (refl, λ i answer. depends_left p answer some i)

asks_left_is : (p : Progress) → 0 < length p.visits
    → asks_left p ≡ answered_asks p.table (base_asks p) p.asked
    (visit_at p.visits (length p.visits - 1) ∷ outer_of p)
unfolding asks_left
asks_left_is p some = ap (answered_asks p.table (base_asks p) p.asked) (reverse_last p.visits some)

pub truth_fewer : (p : Progress) → IsProgress p → fits p.asked (Truth true) ≡ true
    → asks_left (for_depends p) < asks_left p
truth_fewer p is h =
    let asked = fits_truth p.asked h in
    let some = is.visits (ap asks_visit asked) in
    rw (asks_left_is p some, asks_left_is (for_depends p) some, asked) (omega arith)

taken_asks : (p : Progress) (step : Step) (names : List Name) → 0 < length p.visits →
    going_asks (taken p step names) ≡ length (list_at p.table (top_target p) names step) * asks_in
    p.table (suc (length (outer_of p)))
    + (after_asks p.table (suc (length (outer_of p))) step
    + resume_asks p.table (base_asks p) (outer_of p))
taken_asks p step names some = rw (set_inner p.visits _ some) refl

few_skip : (l len n a rest : ℕ) → len ≤ n → len * a + (n * a + rest)
    < suc (2 + (2 * ((l + n) * a) + rest))
few_skip l len n a rest h = grind arith

few_depends : (l len n a rest : ℕ) → len ≤ l → len * a + (n * a + (1 + (l + n) * a) + rest)
    < suc (1 + (2 * ((l + n) * a) + rest))
few_depends l len n a rest h = grind arith

few_after : (l len n a rest : ℕ) → len ≤ n → len * a + (0 + rest) < suc ((l + n) * a + rest)
few_after l len n a rest h = grind arith

few_errors : (l len n a rest : ℕ) → len ≤ l → len * a + (0 + rest) < suc ((l + n) * a + rest)
few_errors l len n a rest h = grind arith

fewer_by : (p : Progress) (asked : Asked) (answer : OrderAnswer) → IsTable p.table
    → 0 < length p.visits → fits asked answer ≡ true → answer ≢ First → answer ≢ Truth true
    → length (names_after answer) < 2 ^ 64 →
    going_asks (taken p (step_after answer) (names_after answer))
    < answered_asks p.table (base_asks p) asked
    (visit_at p.visits (length p.visits - 1) ∷ outer_of p)
fewer_by p Nothing First table some h first holds short = absurd (first refl)
fewer_by p Nothing (Truth b) table some h first holds short = absurd (cc)
fewer_by p Nothing (Names names) table some h first holds short = absurd (cc)
fewer_by p Nothing Ran table some h first holds short = absurd (cc)
fewer_by p Nothing (Failed names) table some h first holds short = absurd (cc)
fewer_by p ForCondition (Truth true) table some h first holds short = absurd (holds refl)
fewer_by p ForCondition (Truth false) table some h first holds short = rw
    (taken_asks p BeforeSkip [] some)
    (few_skip (2 ^ 64) _ _ _ _ (table.before_short (top_target p)))
fewer_by p ForCondition First table some h first holds short = absurd (cc)
fewer_by p ForCondition (Names names) table some h first holds short = absurd (cc)
fewer_by p ForCondition Ran table some h first holds short = absurd (cc)
fewer_by p ForCondition (Failed names) table some h first holds short = absurd (cc)
fewer_by p ForDepends (Names names) table some h first holds short = rw
    (taken_asks p AtDepends names some) (few_depends (2 ^ 64) _ _ _ _ (omega arith))
fewer_by p ForDepends First table some h first holds short = absurd (cc)
fewer_by p ForDepends (Truth b) table some h first holds short = absurd (cc)
fewer_by p ForDepends Ran table some h first holds short = absurd (cc)
fewer_by p ForDepends (Failed names) table some h first holds short = absurd (cc)
fewer_by p ForBody Ran table some h first holds short = rw (taken_asks p After [] some)
    (few_after (2 ^ 64) _ _ _ _ (table.after_short (top_target p)))
fewer_by p ForBody (Failed names) table some h first holds short = rw
    (taken_asks p Errors names some) (few_errors (2 ^ 64) _ _ _ _ (omega arith))
fewer_by p ForBody First table some h first holds short = absurd (cc)
fewer_by p ForBody (Truth b) table some h first holds short = absurd (cc)
fewer_by p ForBody (Names names) table some h first holds short = absurd (cc)
fewer_by p Answered answer table some h first holds short = absurd (cc)
fewer_by p TheEnd answer table some h first holds short = absurd (cc)

pub taken_fewer : (p : Progress) (answer : OrderAnswer) → IsProgress p → fits p.asked answer ≡ true
    → answer ≢ First → answer ≢ Truth true → length (names_after answer) < 2 ^ 64 →
    going_asks (taken p (step_after answer) (names_after answer)) < asks_left p
taken_fewer p answer is h first holds short =
    let some = is.visits (fits_visit p.asked answer h first) in
    rw (asks_left_is p some) (fewer_by p p.asked answer is.table some h first holds short)

set_twice : {A : Type 0} (xs : List A) (i : ℕ) (a b : A) → set (set xs i a) i b ≡ set xs i b
set_twice [] i a b = refl
set_twice (x ∷ xs) zero a b = refl
set_twice (x ∷ xs) (suc i) a b = ap (λ ys. x ∷ ys) (set_twice xs i a b)

set_back : (visits : List OpenVisit) (v old : OpenVisit) → old ≡ visit_at visits (length visits - 1)
    → set (set visits (length visits - 1) v) (length (set visits (length visits - 1) v) - 1) old
    ≡ visits
set_back visits v old is =
    ap (λ n. set (set visits (length visits - 1) v) (n - 1) old)
    (length-set visits (length visits - 1) v)
    ∙ (set_twice visits (length visits - 1) v old
    ∙ (ap (set visits (length visits - 1)) is ∙ set-get_or visits (length visits - 1) _))

-- a walk that is put back is as it was
pub put_back_is : (p : Progress) (step : Step) (names : List Name) (undo : Undo) → undo ≡ undo_of p
    → restored (taken p step names) undo ≡ p
put_back_is p step names undo is =
    let visits = set_back p.visits
    (record { target = top_target p; step = step; passed = 0; names = names }) (undo_of p).visit
    refl in
    ap (restored (taken p step names)) is ∙ rw visits refl

pub lower_on_ok : {T E : Type 0} (r : Result T E) (a b c : ℕ) → OnOk r (a ≤ b) → b < c
    → OnOk r (a < c)
lower_on_ok (Ok x) a b c h lt = omega arith
lower_on_ok (Err e) a b c h lt = tt

-- the same of an answer, with the step and the names that it leads to
module _ (p : Progress) (places : List ℕ) (sound : IsSound p places) (answer : OrderAnswer)
    (fit : fits p.asked answer ≡ true) (first : answer ≢ First) (holds : answer ≢ Truth true)
    (step : Step) (names : List Name) (step_is : step ≡ step_after answer)
    (names_is : names ≡ names_after answer) where
  tree_is : going (taken p step names) ≡ left p answer
  tree_is =
      ap (λ s. going (taken p s names)) step_is
      ∙ (ap (λ ns. going (taken p (step_after answer) ns)) names_is
      ∙ taken_left p places answer sound (fits_visit p.asked answer fit first) fit first holds)

  fewer_is : length names < 2 ^ 64 → going_asks (taken p step names) < asks_left p
  fewer_is short =
      subst (λ s. going_asks (taken p s names) < asks_left p) (sym step_is)
      (subst (λ ns. going_asks (taken p (step_after answer) ns) < asks_left p) (sym names_is)
      (taken_fewer p answer sound.progress fit first holds
      (subst (λ ns. length ns < 2 ^ 64) names_is short)))

  pub answer_asks : (r : Result OrderAsk NoMemory) (new : Progress)
      → IfOk r (λ ask. Asks (going (taken p step names)) ask new)
      → IfOk r (λ ask. Asks (left p answer) ask new)
  answer_asks r new h = subst (λ tree. IfOk r (λ ask. Asks tree ask new)) tree_is h

  pub answer_fewer : (r : Result OrderAsk NoMemory) (new : Progress)
      → OnOk r (asks_left new ≤ going_asks (taken p step names)) → length names < 2 ^ 64
      → OnOk r (asks_left new < asks_left p)
  answer_fewer r new h short = lower_on_ok r (asks_left new) (going_asks (taken p step names))
      (asks_left p) h (fewer_is short)

pub asks_at_ok : (r : Result OrderAsk NoMemory) (tree : Asking Question OrderAnswer End)
    (q : OrderAsk) (new at : Progress) → IfOk r (λ ask. ask ≡ q) → OnOk r (new ≡ at)
    → Asks tree q at → IfOk r (λ ask. Asks tree ask new)
asks_at_ok (Ok ask) tree q new at is walk h = subst (λ a. Asks tree a new) (sym is)
    (subst (λ w. Asks tree q w) (sym walk) h)
asks_at_ok (Err e) tree q new at is walk h = tt

pub fewer_at_ok : (r : Result OrderAsk NoMemory) (new at : Progress) (n : ℕ) → OnOk r (new ≡ at)
    → asks_left at < n → OnOk r (asks_left new < n)
fewer_at_ok (Ok ask) new at n walk h = subst (λ w. asks_left w < n) (sym walk) h
fewer_at_ok (Err e) new at n walk h = tt
