-- The ready requests of a core are those of the state that it shows.
use Rattle.std.proofs.Common.{
  ◌≡◌,
  ℕ,
  true,
  false,
  List,
  length,
  Option,
  None,
  Some,
  refl,
  ap,
  sym,
  ◌∙◌,
  subst,
}
use Rattle.std.proofs.Math.Bridge.{le_prop}
use Rattle.std.proofs.Math.Logic.{∥∥₁_elim, ∥∥₁_map, ∥∥₁_map₂}
use Rattle.build_meaning.specs.declared.event.Event.{Event}
use Rattle.build_meaning.specs.Lists.{at}
use Rattle.build_meaning.specs.World.{World}
use Rattle.build_meaning.specs.State.{Place, ready, assigned, waits, done, RequestState, State}
use Rattle.build_meaning.proofs.PairedLists.{Paired-some}
use Rattle.build_scheduler.specs.declared.slot.Slot.{Slot}
use Rattle.build_scheduler.specs.declared.slot.Slot.TheVariants.{
  Ready,
  Assigned,
  Waiting,
  Calling,
  Done,
}
use Rattle.build_scheduler.specs.Numbers.{IsLeast, Numbered}
use Rattle.build_scheduler.specs.Own.{Seen}
use Rattle.build_scheduler.specs.Ready.{IsReady, IsLeastReady, IsSomeReady}
use Rattle.build_scheduler.specs.Shown.{Shown, Indexed, is_ready}
use Rattle.build_scheduler.specs.Slots.{ShowsSlot}
use Rattle.build_scheduler.proofs.HistoryFacts.{one_state}
use Rattle.build_scheduler.proofs.SlotsStay.{paired-other}

module _ {W P I A : Type 0} (seen : W → Seen P I A) (w : World P I A) where
  -- a slot of a ready request is ready
  pub slot-ready : (s : State P I A) (count : ℕ) (slot : Slot W) (q : RequestState P I A)
      (place : Place P I A) → ShowsSlot w s count seen slot q → q.status ≡ ready place
      → is_ready (Some slot) ≡ true
  slot-ready s count (Ready walk answer) q place h e = refl
  slot-ready s count (Assigned node) q place h e = absurd
      (let a : ready place ≡ assigned node h.place = sym e ∙ h.is in cc)
  slot-ready s count (Waiting walk by) q place h e = absurd
      (let a : ready place ≡ waits h.run h.body h.go = sym e ∙ h.is in cc)
  slot-ready s count (Calling calls) q place h e = absurd (let a = sym e ∙ h.is in cc)
  slot-ready s count Done q place h e = absurd
      (let a : ready place ≡ done h.result = sym e ∙ h.is in cc)

  pub listed-of : {history : _} {origins : _} {slots : List (Slot W)} {making : _} {table : _}
      {end : _}
      (id : ℕ) → Shown seen w history origins slots making table end → IsReady w history.events id
      → is_ready (at slots id) ≡ true
  listed-of {history} {origins} {slots} id x r =
      let e : at x.state.requests id ≡ Some r.request = subst
      (λ (s : State P I A). at s.requests id ≡ Some r.request)
      (one_state w history.events r.state x.state r.history x.history) r.there in
      let y = paired-other (ShowsSlot w x.state (length history.events) seen) slots x.state.requests
      id
      r.request x.each e in
      ap is_ready y.2 ∙ slot-ready x.state (length history.events) y.0 r.request r.place y.1 r.is

  pub of-listed : {history : _} {origins : _} {slots : List (Slot W)} {making : _} {table : _}
      {end : _}
      (id : ℕ) → Shown seen w history origins slots making table end → is_ready (at slots id) ≡ true
      → IsReady w history.events id
  of-listed {history} {origins} {slots} id x h = go (at slots id) refl h
    where
      go : (o : Option (Slot W)) → at slots id ≡ o → is_ready o ≡ true → IsReady w history.events id
      go None e h = absurd (cc)
      go (Some (Assigned node)) e h = absurd (cc)
      go (Some (Waiting walk by)) e h = absurd (cc)
      go (Some (Calling calls)) e h = absurd (cc)
      go (Some Done) e h = absurd (cc)
      go (Some (Ready walk answer)) e h =
          let y = Paired-some (ShowsSlot w x.state (length history.events) seen) slots
          x.state.requests
          id (Ready walk answer) x.each e in
          record {
            state = x.state;
            request = y.0;
            place = y.1.position.place;
            history = x.history;
            there = y.2;
            is = ap (λ (q : RequestState P I A). q.status) y.1.is;
          }

  -- the least of the listed requests is the least that is ready
  pub least-ready : {history : _} {origins : _} {slots : List (Slot W)} {making : _} {table : _}
      {end : _} (numbers : Numbered) {waiting : _} (o : Option ℕ)
      → ∥ Shown seen w history origins slots making table end ∥₁ →
      ∥ Indexed slots numbers waiting ∥₁ → IsLeast numbers.numbers o
      → IsLeastReady w history.events o
  least-ready numbers None shown indexed h = λ id r.
      ∥∥₁_elim shown (λ a. absurd a)
      (λ x. ∥∥₁_elim indexed (λ a. absurd a) (λ y. ∥∥₁_elim r (λ a. absurd a) (λ q.
      let a : true ≡ false = sym (listed-of id x q) ∙ (sym (y.listed id) ∙ h id) in cc)))
  least-ready {history} numbers (Some least) shown indexed h = (
    ∥∥₁_map₂ shown indexed (λ x y. of-listed least x (sym (y.listed least) ∙ h.0)),
    λ id r. ∥∥₁_elim shown (λ p q. le_prop p q)
        (λ x. ∥∥₁_elim indexed (λ p q. le_prop p q)
        (λ y. ∥∥₁_elim r (λ p q. le_prop p q) (λ q. h.1 id (y.listed id ∙ listed-of id x q)))),
  )

  -- a request that is listed is ready
  pub listed-ready : {history : _} {origins : _} {slots : List (Slot W)} {making : _} {table : _}
      {end : _} (id : ℕ) → ∥ Shown seen w history origins slots making table end ∥₁ →
      is_ready (at slots id) ≡ true → IsSomeReady w history.events (Some id)
  listed-ready id shown is = ∥∥₁_map shown (λ x. of-listed id x is)

  -- where the least is ready, one is
  pub least-some : (events : List Event) (o : Option ℕ) → IsLeastReady w events o →
      IsSomeReady w events o
  least-some events None h = h
  least-some events (Some least) h = h.0
