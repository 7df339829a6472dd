-- A node that retires gives its request back, and changes no run.
use Rattle.std.proofs.Common.{
  ◌≡◌,
  ℕ,
  zero,
  suc,
  ◌+◌,
  ◌==◌,
  List,
  [],
  ◌∷◌,
  ◌++◌,
  Some,
  refl,
  ap,
  sym,
  ◌∙◌,
  subst,
  arith,
}
use Rattle.msb_laws.specs.Asking.{and_then}
use Rattle.build_meaning.specs.declared.event.Event.{Event}
use Rattle.build_meaning.specs.declared.event.Event.TheVariants.{
  Assign,
  Claim,
  Request,
  Result,
  Done,
  Retire,
}
use Rattle.build_meaning.specs.Lists.{at, put, Paired}
use Rattle.build_meaning.specs.World.{World}
use Rattle.build_meaning.specs.State.{
  Place,
  Status,
  ready,
  assigned,
  RequestState,
  State,
  with_request,
  with_status,
}
use Rattle.build_meaning.specs.Step.{retire_at, step_of, step}
use Rattle.build_meaning.specs.History.{retires}
use Rattle.build_meaning.specs.Orderly.{HasSameRuns, SameRuns}
use Rattle.result_cache.proofs.RunTests.{and_then-some}
use Rattle.build_meaning.proofs.ListPlaces.{at-put_same}
use Rattle.build_meaning.proofs.ParentsAndChildren.{same_some}
use Rattle.build_meaning.proofs.EventsKeepLawful.{only_if-some, some-is}

-- the event is a Retire
abbrev pub IsRetire : Event → Type 0
IsRetire (Retire id node) = Unit {0}
IsRetire event = ⊥

pub retires-append : (before more : List Event)
    → retires (before ++ more) ≡ retires before + retires more
retires-append [] more = omega arith
retires-append (Retire id node ∷ before) more = let h = retires-append before more in omega arith
retires-append (Assign id node ∷ before) more = retires-append before more
retires-append (Claim id run kind ∷ before) more = retires-append before more
retires-append (Request id keys ∷ before) more = retires-append before more
retires-append (Result id run ∷ before) more = retires-append before more
retires-append (Done id ∷ before) more = retires-append before more

-- any other event leaves the number of those who have retired
pub retires-same : (before : List Event) (event : Event) → (IsRetire event → ⊥)
    → retires (before ++ event ∷ []) ≡ retires before
retires-same before (Retire id node) n = absurd (n tt)
retires-same before (Assign id node) n = let h = retires-append before (Assign id node ∷ [])
    in omega arith
retires-same before (Claim id run kind) n = let h = retires-append before (Claim id run kind ∷ [])
    in omega arith
retires-same before (Request id keys) n = let h = retires-append before (Request id keys ∷ [])
    in omega arith
retires-same before (Result id run) n = let h = retires-append before (Result id run ∷ []) in omega
    arith
retires-same before (Done id) n = let h = retires-append before (Done id ∷ []) in omega arith

-- where nobody has retired, nobody had before, and the last event is no Retire
pub none-before : (before more : List Event) → retires (before ++ more) ≡ 0 → retires before ≡ 0
none-before before more e = let h = retires-append before more in omega arith

pub none-now : (before : List Event) (event : Event) → retires (before ++ event ∷ []) ≡ 0
    → IsRetire event → ⊥
none-now before (Retire id node) e r = let h = retires-append before (Retire id node ∷ []) in absurd
    (omega arith)
none-now before (Assign id node) e r = r
none-now before (Claim id run kind) e r = r
none-now before (Request id keys) e r = r
none-now before (Result id run) e r = r
none-now before (Done id) e r = r

module _ {X : Type 0} where
  put-twice : (xs : List X) (i : ℕ) (y z : X) → put (put xs i y) i z ≡ put xs i z
  put-twice [] i y z = refl
  put-twice (x ∷ xs) zero y z = refl
  put-twice (x ∷ xs) (suc i) y z = ap (λ us. x ∷ us) (put-twice xs i y z)

module _ {P I A : Type 0} where
  same_runs : (q : RequestState P I A) → HasSameRuns q q
  same_runs q = record { origin = refl; journal = refl; runs = refl }

  each-same : (requests : List (RequestState P I A)) → Paired HasSameRuns requests requests
  each-same [] = tt
  each-same (q ∷ requests) = (same_runs q, each-same requests)

  put-same : (requests : List (RequestState P I A)) (id : ℕ) (q z : RequestState P I A) →
      at requests id ≡ Some q → HasSameRuns q z → Paired HasSameRuns requests (put requests id z)
  put-same [] id q z e h = tt
  put-same (x ∷ requests) zero q z e h = (
    subst (λ (y : RequestState P I A). HasSameRuns y z) (sym (some-is x q e)) h,
    each-same requests,
  )
  put-same (x ∷ requests) (suc id) q z e h = (same_runs x, put-same requests id q z e h)

module _ {P I A : Type 0} (w : World P I A) where
  -- the request, as it goes back
  pub retired_at : (s : State P I A) (id node : ℕ) (q : RequestState P I A) (st : Status P I A)
      (t : State P I A) → retire_at w s id node q st ≡ Some t →
      (by : ℕ) × (place : Place P I A) × (st ≡ assigned by place) × (with_request s id
      (with_status q (ready place)) ≡ t)
  retired_at s id node q (assigned by place) t h = (
    by,
    place,
    refl,
    (only_if-some (by == node) (with_request s id (with_status q (ready place))) t h).1,
  )
  retired_at s id node q _ t h = absurd (cc)

  pub retire_keeps_runs : (s t : State P I A) (id node : ℕ) → step w s (Retire id node) ≡ Some t →
      SameRuns s t
  retire_keeps_runs s t id node h =
      let x = and_then-some (at s.requests id) (step_of w s (Retire id node)) t h in
      let y = retired_at s id node x.0 x.0.status t x.2 in
      let z : RequestState P I A = with_status x.0 (ready y.1) in
      subst (λ (u : State P I A). SameRuns s u) y.3
      (record {
        begun = refl;
        table = refl;
        tools_used = refl;
        requests = put-same s.requests id x.0 z
            x.1 (record { origin = refl; journal = refl; runs = refl });
      })

  pub retired_goes_on : (s t : State P I A) (id node other : ℕ) (q : RequestState P I A)
      (place : Place P I A) → step w s (Retire id node) ≡ Some t → at s.requests id ≡ Some q →
      q.status ≡ assigned node place →
      step w t (Assign id other) ≡ Some (with_request s id (with_status q (assigned other place)))
  retired_goes_on s t id node other q place h e st =
      let x = and_then-some (at s.requests id) (step_of w s (Retire id node)) t h in
      let y = retired_at s id node x.0 x.0.status t x.2 in
      let same : x.0 ≡ q = same_some (at s.requests id) x.0 q x.1 e in
      let there : place ≡ y.1 =
      (let p : assigned node place ≡ assigned y.0 y.1 = sym st
      ∙ (ap (λ (a : RequestState P I A). a.status) (sym same) ∙ y.2) in cc) in
      let z : RequestState P I A = with_status q (ready place) in
      let back : with_request s id z ≡ t = ap (λ (a : RequestState P I A). with_request s id
      (with_status a (ready place))) (sym same) ∙ (ap (λ (p : Place P I A). with_request s id
      (with_status x.0 (ready p))) there ∙ y.3) in
      let on : step w (with_request s id z) (Assign id other)
      ≡ Some (with_request (with_request s id z) id (with_status q (assigned other place))) =
      ap (λ o. and_then o (step_of w (with_request s id z) (Assign id other)))
      (at-put_same s.requests id q z e) in
      subst (λ (u : State P I A). step w u (Assign id other) ≡ Some
      (with_request s id (with_status q (assigned other place)))) back
      (on
      ∙ ap
      (λ rs.
      Some
      (record { requests = rs; begun = s.begun; table = s.table; tools_used = s.tools_used }))
      (put-twice s.requests id z (with_status q (assigned other place))))
