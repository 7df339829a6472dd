-- One node has one request at a time.
use Rattle.std.proofs.Common.{
  ◌≡◌,
  ◌<◌,
  ◌⊎◌,
  inl,
  inr,
  ℕ,
  List,
  [],
  ◌∷◌,
  ◌++◌,
  length,
  Option,
  None,
  Some,
  refl,
  ap,
  sym,
  ◌∙◌,
  subst,
  arith,
}
use Rattle.std.proofs.Math.Nat.{ℕ_set}
use Rattle.std.proofs.Math.Logic.{∥∥₁_elim, ∥∥₁_map}
use Rattle.result_cache.proofs.RunTests.{and_then-some}
use Rattle.build_meaning.specs.declared.event.Event.{Event}
use Rattle.build_meaning.specs.Lists.{at}
use Rattle.build_meaning.specs.World.{World}
use Rattle.build_meaning.specs.State.{Place, Status, ready, assigned, RequestState, State, start}
use Rattle.build_meaning.specs.Step.{whose, step, after_all}
use Rattle.build_meaning.specs.History.{IsHistory}
use Rattle.build_meaning.specs.Progress.{IsGoing}
use Rattle.build_meaning.proofs.HistoriesGoOn.{never_stuck}
use Rattle.build_scheduler.specs.declared.slot.End.{End}
use Rattle.build_scheduler.specs.declared.slot.End.TheVariants.{Root}
use Rattle.build_scheduler.specs.Own.{Seen}
use Rattle.build_scheduler.specs.Ready.{IsReady, IsAssigned, IsLeastReady}
use Rattle.build_scheduler.specs.Shown.{Shown, ShowsEnd}
use Rattle.build_plain.specs.Driven.{NoneAssigned, OnlyAssigned, IsFree}
use Rattle.build_scheduler.specs.Drivers.{IsLegal}
use Rattle.build_plain.proofs.RequestsMove.{Leaves, HasNode, step-moves}

first_there : {X : Type 0} (xs : List X) → 0 < length xs → (x : X) × (at xs 0 ≡ Some x)
first_there [] l = absurd (omega arith)
first_there (x ∷ xs) l = (x, refl)

module _ {P I A : Type 0} (w : World P I A) where
  -- the last event of a history is a step from the state before it
  pub last-step : (events : List Event) (event : Event) (u s t : State P I A)
      → after_all w u events ≡ Some s → after_all w u (events ++ event ∷ []) ≡ Some t
      → step w s event ≡ Some t
  last-step [] event u s t h g =
      let y = and_then-some (step w u event) (λ next. after_all w next []) t g in
      let same : u ≡ s = (let e : Some u ≡ Some s = h in cc) in
      let next : y.0 ≡ t = (let e : Some y.0 ≡ Some t = y.2 in cc) in
      subst (λ (x : State P I A). step w x event ≡ Some t) same (y.1 ∙ ap Some next)
  last-step (first ∷ events) event u s t h g =
      let y = and_then-some (step w u first) (λ next. after_all w next events) s h in
      let z = and_then-some (step w u first) (λ next. after_all w next (events ++ event ∷ [])) t g
      in
      let same : z.0 ≡ y.0 = (let e : Some z.0 ≡ Some y.0 = sym z.1 ∙ y.1 in cc) in
      last-step events event y.0 s t y.2
      (subst (λ (x : State P I A). after_all w x (events ++ event ∷ []) ≡ Some t) same z.2)

  root-stays : (events : List Event) (s t : State P I A) → 0 < length s.requests
      → after_all w s events ≡ Some t → 0 < length t.requests
  root-stays [] s t l h = let same : s ≡ t = (let e : Some s ≡ Some t = h in cc) in subst
      (λ (x : State P I A). 0 < length x.requests) same l
  root-stays (event ∷ events) s t l h =
      let y = and_then-some (step w s event) (λ next. after_all w next events) t h in
      let g = (step-moves w s y.0 event y.1).grows in
      root-stays events y.0 t (omega arith) y.2

  has_node : (q : RequestState P I A) (node : ℕ) (p : Place P I A) → q.status ≡ assigned node p
      → HasNode q.status
  has_node q node p e = subst HasNode (sym e) tt

  with_node : (s : State P I A) (events : List Event) (n : ℕ) (q : RequestState P I A)
      (st : Status P I A) → IsHistory w events s → at s.requests n ≡ Some q → q.status ≡ st
      → HasNode st → IsAssigned w events n
  with_node s events n q (assigned node place) h e f a = record
      { state = s; request = q; node = node; place = place; history = h; there = e; is = f }
  with_node s events n q _ h e f a = absurd a

  -- a request that is with a node after an event is that of the event, which has not left the node,
  -- or was with the node before
  assigned-before : (events after : List Event) (event : Event) → IsLegal w events
      → after ≡ events ++ event ∷ [] → (n : ℕ) → IsAssigned w after n →
      ((n ≡ whose event) × (Leaves event → ⊥)) ⊎ ((n ≡ whose event → ⊥) × IsAssigned w events n)
  assigned-before events after event legal e n a =
      let m = step-moves w legal.0 a.state event
      (last-step events event (start w) legal.0 a.state legal.1
      (subst (λ es. IsHistory w es a.state) e a.history)) in
      let node : HasNode a.request.status = has_node a.request a.node a.place a.is in
      elim (m.after n a.request a.there node) [
        | inl x ↦ inl x
        | inr y ↦ inr
            (y.0, with_node legal.0 events n a.request a.request.status legal.1 y.1 refl node)
      ]

  module _ (events after : List Event) (event : Event) (legal : ∥ IsLegal w events ∥₁)
      (e : after ≡ events ++ event ∷ []) where
    -- the request that is assigned is the only one
    pub one-assigned : (id : ℕ) → whose event ≡ id → NoneAssigned w events → OnlyAssigned w after id
    one-assigned id own none other a = ∥∥₁_elim legal (λ p q. ℕ_set other id p q)
        (λ l. ∥∥₁_elim a (λ p q. ℕ_set other id p q)
        (λ b. elim (assigned-before events after event l e other b) [
          | inl x ↦ x.0 ∙ own
          | inr y ↦ absurd (none other ∣ y.1 ∣₁)
        ]))

    -- and so it stays through its own events
    pub one-stays : (id : ℕ) → whose event ≡ id → OnlyAssigned w events id → OnlyAssigned w after id
    one-stays id own only other a = ∥∥₁_elim legal (λ p q. ℕ_set other id p q)
        (λ l. ∥∥₁_elim a (λ p q. ℕ_set other id p q)
        (λ b. elim (assigned-before events after event l e other b) [
          | inl x ↦ x.0 ∙ own
          | inr y ↦ only other ∣ y.1 ∣₁
        ]))

    -- until it leaves the node
    pub none-stays : (id : ℕ) → whose event ≡ id → Leaves event → OnlyAssigned w events id
        → NoneAssigned w after
    none-stays id own leaves only other a = ∥∥₁_elim legal (λ z. absurd z)
        (λ l.
        ∥∥₁_elim a (λ z. absurd z) (λ b. elim (assigned-before events after event l e other b) [
          | inl x ↦ x.1 leaves
          | inr y ↦ y.0 (only other ∣ y.1 ∣₁ ∙ sym own)
        ]))

  -- where no end but the root's is told, no request is with a node
  pub free-of : (events : List Event) (end : Option End) → NoneAssigned w events
      → IsFree w events end
  free-of events None none = none
  free-of events (Some (Root result)) none = none
  free-of events (Some _) none = tt

module _ {W P I A : Type 0} (seen : W → Seen P I A) (w : World P I A) where
  pub legal-of : {history : _} {origins : _} {slots : _} {making : _} {table : _} {end : _}
      → ∥ Shown seen w history origins slots making table end ∥₁ → ∥ IsLegal w history.events ∥₁
  legal-of shown = ∥∥₁_map shown (λ x. (x.state, x.history))

  going-of : (s : State P I A) (events : List Event) (id : ℕ) (q : RequestState P I A)
      (st : Status P I A) → IsHistory w events s → at s.requests id ≡ Some q → q.status ≡ st
      → IsGoing st → IsReady w events id ⊎ IsAssigned w events id
  going-of s events id q (ready place) h e f g = inl
      (record { state = s; request = q; place = place; history = h; there = e; is = f })
  going-of s events id q (assigned node place) h e f g = inr
      (record
      { state = s; request = q; node = node; place = place; history = h; there = e; is = f })
  going-of s events id q _ h e f g = absurd g

  -- until an end is told some request is ready or with a node
  pub never_idle : {history : _} {origins : _} {slots : _} {making : _} {table : _} {end : _}
      → ∥ Shown seen w history origins slots making table end ∥₁ → end ≡ None
      → NoneAssigned w history.events → IsLeastReady w history.events None → ⊥
  never_idle {history} shown e none unready = ∥∥₁_elim shown (λ a b. absurd a) (λ x.
      let root = first_there x.state.requests
      (root-stays w history.events (start w) x.state (omega arith) x.history) in
      let going = never_stuck w history.events x.state x.history root.0 root.1
      (subst (λ o. ShowsEnd x.state o) e x.ends root.0 root.1) in
      elim
      (going-of x.state history.events going.0 going.1 going.1.status x.history going.2 refl
      going.3) [
        | inl r ↦ unready going.0 ∣ r ∣₁
        | inr a ↦ none going.0 ∣ a ∣₁
      ])
