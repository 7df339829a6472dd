-- The records of many runs are used one after the other: no tool is used for that.
use Rattle.std.proofs.Common.{
  ◌≡◌,
  ℕ,
  List,
  [],
  ◌∷◌,
  ◌++◌,
  None,
  Some,
  refl,
  ap,
  sym,
  ◌∙◌,
  subst,
  append-nil,
}
use Rattle.result_cache.specs.declared.run.RunId.{RunId}
use Rattle.result_cache.specs.Replay.{replay}
use Rattle.result_cache.specs.Same.{same_run}
use Rattle.result_cache.specs.Table.{found}
use Rattle.result_cache.proofs.RunTests.{and_then-some}
use Rattle.build_meaning.specs.declared.event.Event.{Event}
use Rattle.build_meaning.specs.declared.event.Event.TheVariants.{Claim}
use Rattle.build_meaning.specs.declared.event.ClaimKind.TheVariants.{Use}
use Rattle.build_meaning.specs.Lists.{at}
use Rattle.build_meaning.specs.World.{World}
use Rattle.build_meaning.specs.Walk.{gives, wants}
use Rattle.build_meaning.specs.State.{
  walking,
  within,
  Status,
  ready,
  assigned,
  waits,
  calling,
  done,
  RequestState,
  State,
  start,
  with_request,
}
use Rattle.build_meaning.specs.Step.{only_if, claimed, claim_at, step_of, step, after_all, whose}
use Rattle.build_meaning.specs.History.{IsHistory, retires}
use Rattle.build_meaning.proofs.EventsKeepLawful.{some-is}
use Rattle.build_meaning.proofs.ListPlaces.{at-put_same, at-put_else}
use Rattle.build_meaning.proofs.RetiredRequests.{none-before}
use Rattle.build_history.specs.Repeated.{uses_of_all}
use Rattle.build_history.specs.Uses.{RunUse, uses_of, body_of, new_uses, and_on, uses_from, uses_in}
use Rattle.build_scheduler.specs.declared.slot.Slot.{Slot}
use Rattle.build_scheduler.specs.declared.slot.Slot.TheVariants.{Ready, Assigned}
use Rattle.build_scheduler.specs.Behind.{AreBehind}
use Rattle.build_scheduler.specs.Own.{Seen}
use Rattle.build_scheduler.proofs.HistoryFacts.{one_state}

module _ {P I A : Type 0} (w : World P I A) where
  -- after a use of a record its request is in no body
  use-in_none : (s t : State P I A) (id : ℕ) (run : RunId) → step w s (Claim id run Use) ≡ Some t →
      body_of (at t.requests id) ≡ None
  use-in_none s t id run h =
      let y = and_then-some (at s.requests id) (step_of w s (Claim id run Use)) t h in
      go y.0 y.0.status y.1 y.2
    where
      go : (q : RequestState P I A) (st : Status P I A) → at s.requests id ≡ Some q →
          claim_at w s id run Use q st ≡ Some t →
          body_of (at t.requests id) ≡ None
      go q (assigned node (walking (wants site wanted b next))) e k =
          let a = and_then-some (only_if (same_run wanted run) wanted)
          (λ run. claimed w s id node q run b next Use) t k in
          let f = and_then-some (found s.table a.0) _ t a.2 in
          let g = and_then-some (replay s.table a.0 q.journal) _ t f.2 in
          let z : RequestState P I A = record {
            origin = q.origin;
            journal = g.0;
            runs = q.runs ++ a.0 ∷ [];
            status = assigned node (walking (next f.0 g.0));
          } in
          let same : with_request s id z ≡ t = some-is (with_request s id z) t g.2 in
          ap (λ (u : State P I A). body_of (at u.requests id)) (sym same)
          ∙ ap body_of (at-put_same s.requests id q z e)
      go q (assigned node (walking (gives reply))) e k = absurd (cc)
      go q (assigned node (within x stop)) e k = absurd (cc)
      go q (ready place) e k = absurd (cc)
      go q (waits r b next) e k = absurd (cc)
      go q (calling keys ids x next) e k = absurd (cc)
      go q (done result) e k = absurd (cc)

  uses-none : (id : ℕ) (runs : List RunId) (uses : List (RunUse I)) (s t : State P I A) →
      after_all w s (uses_of_all id runs) ≡ Some t →
      uses_from w uses s (uses_of_all id runs) ≡ uses
  uses-none id [] uses s t h = refl
  uses-none id (run ∷ runs) uses s t h =
      let y = and_then-some (step w s (Claim id run Use))
      (λ next. after_all w next (uses_of_all id runs)) t h in
      let e : uses ++ new_uses uses (body_of (at y.0.requests id)) ≡ uses =
      ap (λ o. uses ++ new_uses uses o) (use-in_none s y.0 id run y.1) ∙ append-nil uses in
      ap (λ o. and_on uses o (λ next. uses_from w
      (uses ++ new_uses uses (body_of (at next.requests id))) next (uses_of_all id runs))) y.1
      ∙ (ap (λ us. uses_from w us y.0 (uses_of_all id runs)) e
      ∙ uses-none id runs uses y.0 t y.2)

  uses-append : (events more : List Event) (uses : List (RunUse I)) (s t : State P I A) →
      after_all w s events ≡ Some t →
      uses_from w uses s (events ++ more) ≡ uses_from w (uses_from w uses s events) t more
  uses-append [] more uses s t h = ap (λ u. uses_from w uses u more) (some-is s t h)
  uses-append (event ∷ events) more uses s t h =
      let y = and_then-some (step w s event) (λ next. after_all w next events) t h in
      let now : List (RunUse I) = uses ++ new_uses uses (body_of (at y.0.requests (whose event))) in
      let first : (es : List Event) → uses_from w uses s (event ∷ es) ≡ uses_from w now y.0 es =
      λ es. ap (λ o. and_on uses o (λ next. uses_from w
      (uses ++ new_uses uses (body_of (at next.requests (whose event)))) next es)) y.1 in
      first (events ++ more) ∙ (uses-append events more now y.0 t y.2
      ∙ ap (λ us. uses_from w us t more) (sym (first events)))

  -- so all uses of tools are those of before
  pub no-tools : (events : List Event) (id : ℕ) (runs : List RunId) (s t : State P I A) →
      IsHistory w events s → after_all w s (uses_of_all id runs) ≡ Some t →
      uses_in w (events ++ uses_of_all id runs) ≡ uses_in w events
  no-tools events id runs s t h st =
      uses-append events (uses_of_all id runs) [] (start w) s h
      ∙ uses-none id runs (uses_in w events) s t st

  -- the walks of other requests, which are ready, have used what the history has of their bodies
  pub behind-many : {W : Type 0} (seen : W → Seen P I A) (slots : List (Slot W))
      (events after : List Event) (id node : ℕ) (runs : List RunId) (s : State P I A)
      (z : RequestState P I A) → IsHistory w events s →
      after_all w s (uses_of_all id runs) ≡ Some (with_request s id z) →
      IsHistory w after (with_request s id z) → after ≡ events ++ uses_of_all id runs →
      at slots id ≡ Some (Assigned node) → AreBehind seen w events slots →
      AreBehind seen w after slots
  behind-many seen slots events after id node runs s z hist st later ev sl behind
      n walk answer out t q b unretired h at_q in_b =
      let same : t ≡ with_request s id z =
      one_state w after t (with_request s id z) h later in
      let other : n ≡ id → ⊥ = λ e.
      let k : Some (Ready walk answer) ≡ Some (Assigned node) =
      sym out ∙ (ap (at slots) e ∙ sl) in absurd (cc) in
      let was : at s.requests n ≡ Some q = sym (at-put_else s.requests id z n other)
      ∙ subst (λ (u : State P I A). at u.requests n ≡ Some q) same at_q in
      let before = none-before events (uses_of_all id runs) (ap retires (sym ev) ∙ unretired) in
      behind n walk answer out s q b before hist was in_b
      ∙ ap (uses_of b.run) (sym (no-tools events id runs s (with_request s id z) hist st)
      ∙ ap (uses_in w) (sym ev))
