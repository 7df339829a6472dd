-- The calls of an MSBuild task, from the next ones on.
use Rattle.std.proofs.Common.{
  ◌≡◌,
  ◌∙◌,
  ◌<◌,
  ◌≤◌,
  ◌+◌,
  ◌-◌,
  ℕ,
  zero,
  suc,
  List,
  [],
  ◌∷◌,
  ◌++◌,
  Bool,
  true,
  false,
  length,
  take,
  drop,
  arith,
  refl,
  sym,
  ap,
  subst,
  length-append,
  length-drop,
  append-nil,
  if◌then◌else◌,
}
use Rattle.result_cache.specs.Journal.{Journal}
use Rattle.result_cache.specs.declared.request.RequestKey.{RequestKey}
use Rattle.result_cache.specs.declared.request.RequestResult.{RequestResult}
use Rattle.task_msbuild.specs.Plans.{has_stopped, next_calls}
use Rattle.task_msbuild.specs.declared.plans.Plan.{Plan}
use Rattle.target_body.specs.Answers.{call_at_once, make_calls}
use Rattle.target_body.specs.Left.{remaining_calls, results_left, waiting}
use Rattle.target_body.specs.Played.{Player, Done, waits, played}
use Rattle.target_body.specs.States.{State, with_journal}
use Rattle.target_body.specs.Work.{Work, done, does, uses, calls, followed_by}
use Rattle.target_body.specs.declared.frames.AtCall.{AtCall}

-- ---- which calls come next

no_key : (keys : List RequestKey) → length keys ≡ 0 → keys ≡ []
no_key [] none = refl
no_key (key ∷ keys) none = cc

-- those that wait, where calls are made at once or not
abbrev next_by : Bool → Plan → List RequestResult → List RequestKey
next_by parallel plan results =
    let waiting = drop (length results) plan.calls in
    if parallel then waiting else (if has_stopped plan results then [] else take 1 waiting)

first_within : (stopped : Bool) (keys : List RequestKey)
    → length (if stopped then [] else take 1 keys) ≤ length keys
first_within true keys = omega arith
first_within false [] = omega arith
first_within false (key ∷ keys) = omega arith

first_alone : (stopped : Bool) (keys : List RequestKey)
    → 0 < length (if stopped then [] else take 1 keys)
    → length (if stopped then [] else take 1 keys) ≡ 1
first_alone true keys some = absurd (omega arith)
first_alone false [] some = absurd (omega arith)
first_alone false (key ∷ keys) some = refl

within_by : (parallel : Bool) (plan : Plan) (results : List RequestResult)
    → length (next_by parallel plan results) ≤ length plan.calls - length results
within_by true plan results = omega (arith, length-drop (length results) plan.calls)
within_by false plan results = omega (
  arith,
  length-drop (length results) plan.calls,
  first_within (has_stopped plan results) (drop (length results) plan.calls),
)

-- no more calls come next than have no result
next_within : (plan : Plan) (results : List RequestResult)
    → length (next_calls plan results) ≤ length plan.calls - length results
next_within plan results = within_by plan.parallel plan results

all_given : (plan : Plan) (results : List RequestResult) → length plan.calls ≤ length results
    → next_calls plan results ≡ []
all_given plan results all = no_key (next_calls plan results)
    (omega (arith, next_within plan results))

-- ---- where no call comes next

none_made : (rounds : ℕ) (plan : Plan) (results : List RequestResult) (s : State)
    → next_calls plan results ≡ [] → make_calls rounds plan results s ≡ done (s, results)
none_made zero plan results s none = refl
none_made (suc rounds) plan results s none =
    ap
    (λ keys. followed_by (call_at_once keys s)
    (λ x. make_calls rounds plan (results ++ x.1) x.0)) none
    ∙ ap (λ (r : List RequestResult). make_calls rounds plan r s) (append-nil results)
    ∙ none_made rounds plan results s none

-- these are the results
pub calls_over : (plan : Plan) (results : List RequestResult) (s : State)
    → length (next_calls plan results) ≡ 0 → remaining_calls plan results s ≡ done (s, results)
calls_over plan results s none = none_made (length plan.calls - length results) plan results s
    (no_key (next_calls plan results) none)

-- ---- where some come next

module _ {R : Type 0} (p : Player) (f : State × List RequestResult → Work R) (d : Done) where
  wait_at_once : (keys : List RequestKey) (s : State)
      (next : State × List RequestResult → Work (State × List RequestResult))
      → (length keys ≡ 0 → ⊥)
      → played p (followed_by (followed_by (call_at_once keys s) next) f) d
      ≡ waits keys (λ more journal. followed_by (next (with_journal journal s, more)) f) d
  wait_at_once [] s next some = absurd (some refl)
  wait_at_once (key ∷ keys) s next some = refl

  wait_in : (rounds left : ℕ) (c : AtCall) (s : State) → rounds ≡ suc left
      → (length (waiting c) ≡ 0 → ⊥)
      → played p (followed_by (make_calls rounds c.plan c.results s) f) d
      ≡ waits (waiting c)
      (λ more journal.
      followed_by (make_calls left c.plan (c.results ++ more) (with_journal journal s)) f) d
  wait_in rounds left c s is some = rw is
      (wait_at_once (waiting c) s (λ x. make_calls left c.plan (c.results ++ x.1) x.0) some)

  -- they are waited for
  pub calls_wait : (c : AtCall) (s : State) → (length (waiting c) ≡ 0 → ⊥)
      → played p (followed_by (remaining_calls c.plan c.results s) f) d
      ≡ waits (waiting c) (λ more journal. followed_by (results_left c s more journal) f) d
  calls_wait c s some = wait_in (length c.plan.calls - length c.results)
      (length c.plan.calls - suc (length c.results)) c s
      (omega (arith, next_within c.plan c.results, some_key (length (waiting c)) some)) some
    where
      some_key : (n : ℕ) → (n ≡ 0 → ⊥) → 0 < n
      some_key zero some = absurd (some refl)
      some_key (suc n) some = omega arith

-- from the first ones on
pub all_remain : (plan : Plan) (s : State)
    → remaining_calls plan [] s ≡ make_calls (length plan.calls) plan [] s
all_remain plan s =
    let all : length plan.calls - 0 ≡ length plan.calls = omega arith in
    ap (λ (rounds : ℕ). make_calls rounds plan [] s) all

on_by : (parallel : Bool) (plan : Plan) (results more : List RequestResult) (s : State)
    → 0 < length (next_by parallel plan results)
    → length more ≡ length (next_by parallel plan results)
    → make_calls (length plan.calls - suc (length results)) plan (results ++ more) s
    ≡ remaining_calls plan (results ++ more) s
on_by true plan results more s some fits =
    let none : next_calls plan (results ++ more) ≡ [] = all_given plan (results ++ more)
    (omega (arith, length-append results more, length-drop (length results) plan.calls)) in
    none_made (length plan.calls - suc (length results)) plan (results ++ more) s none
    ∙ sym (none_made (length plan.calls - length (results ++ more)) plan (results ++ more) s none)
on_by false plan results more s some fits =
    let same : length plan.calls - suc (length results)
    ≡ length plan.calls - length (results ++ more) = omega (
      arith,
      length-append results more,
      first_alone (has_stopped plan results) (drop (length results) plan.calls) some,
    ) in
    ap (λ (rounds : ℕ). make_calls rounds plan (results ++ more) s) same

-- when the results have come
pub results_on : (c : AtCall) (more : List RequestResult) (s : State) (journal : Journal)
    → 0 < length (waiting c) → length more ≡ length (waiting c)
    → results_left c s more journal
    ≡ remaining_calls c.plan (c.results ++ more) (with_journal journal s)
results_on c more s journal some fits = on_by c.plan.parallel c.plan c.results more
    (with_journal journal s) some fits

-- ---- as many rounds as calls are enough

-- wherever it ends, when each call has given a result, no call comes next
abbrev EndsCalled : Plan → Work (State × List RequestResult) → Type 0
EndsCalled plan (done x) = next_calls plan x.1 ≡ []
EndsCalled plan (does act go) = ⊥
EndsCalled plan (uses name input go) = ⊥
EndsCalled plan (calls key keys go) = (results : List RequestResult) (journal : Journal)
    → length results ≡ suc (length keys) → EndsCalled plan (go results journal)

none_left : (rounds : ℕ) (plan : Plan) (results : List RequestResult) (s : State)
    → length plan.calls ≤ length results + rounds
    → EndsCalled plan (make_calls rounds plan results s)
none_left zero plan results s enough = all_given plan results (omega (arith, enough))
none_left (suc rounds) plan results s enough = go (next_calls plan results) refl
    (λ more t n. none_left rounds plan (results ++ more) t
    (omega (arith, n, enough, length-append results more)))
  where
    go : (keys : List RequestKey) → next_calls plan results ≡ keys
        → ((more : List RequestResult) (t : State) → 0 < length more
        → EndsCalled plan (make_calls rounds plan (results ++ more) t))
        → EndsCalled plan
        (followed_by (call_at_once keys s) (λ x. make_calls rounds plan (results ++ x.1) x.0))
    go [] none rest =
        let same : results ≡ results ++ [] = sym (append-nil results) in
        subst (λ (r : List RequestResult). EndsCalled plan (make_calls rounds plan r s)) same
        (subst (λ (w : Work (State × List RequestResult)). EndsCalled plan w)
        (sym (none_made rounds plan results s none)) none)
    go (key ∷ keys) is rest = λ more journal fits. rest more (with_journal journal s)
        (omega (arith, fits))

pub no_call_left : (plan : Plan) (s : State)
    → EndsCalled plan (make_calls (length plan.calls) plan [] s)
no_call_left plan s = none_left (length plan.calls) plan [] s (omega arith)
