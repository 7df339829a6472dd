-- A run whose request's calls are free needs no other run, so a wait for it closes no cycle.
use Rattle.std.proofs.Common.{
  ◌≡◌,
  ◌<◌,
  ◌≤◌,
  ◌+◌,
  ℕ,
  List,
  length,
  Option,
  None,
  Some,
  refl,
  ap,
  sym,
  ◌∙◌,
  subst,
  arith,
}
use Rattle.std.proofs.Math.Bridge.{le_prop}
use Rattle.std.proofs.Math.Logic.{∥∥₁_elim}
use Rattle.std.proofs.lemmas.List.{length-map}
use Rattle.msb_laws.specs.Asking.{and_then}
use Rattle.result_cache.specs.declared.run.RunId.{RunId}
use Rattle.result_cache.specs.Table.{TableRuns, found, request_of}
use Rattle.build_meaning.specs.Lists.{at}
use Rattle.build_meaning.specs.World.{World}
use Rattle.build_meaning.specs.Walk.{wants}
use Rattle.build_meaning.specs.State.{walking, State}
use Rattle.build_meaning.specs.Cycle.{IsChain}
use Rattle.build_meaning.specs.Step.{waiting}
use Rattle.build_meaning.proofs.PairedLists.{Paired-length}
use Rattle.build_scheduler.specs.declared.slot.Calls.{Calls}
use Rattle.build_scheduler.specs.declared.slot.Origin.{Origin}
use Rattle.build_scheduler.specs.declared.slot.Slot.{Slot}
use Rattle.build_scheduler.specs.declared.slot.Slot.TheVariants.{
  Ready,
  Assigned,
  Waiting,
  Calling,
  Done,
}
use Rattle.build_scheduler.specs.declared.slot.End.{End}
use Rattle.build_scheduler.specs.Calls.{HasParent}
use Rattle.build_scheduler.specs.Claims.{ClosesCycle}
use Rattle.build_scheduler.specs.Dependents.{caller_at}
use Rattle.build_scheduler.specs.Free.{NeedsNothing}
use Rattle.build_scheduler.specs.History.{History}
use Rattle.build_scheduler.specs.Numbers.{Numbered}
use Rattle.build_scheduler.specs.Own.{Seen}
use Rattle.build_scheduler.specs.Shown.{Shown, Indexed}
use Rattle.build_scheduler.specs.Slots.{making_of, ShowsSlot}
use Rattle.build_scheduler.proofs.ClosingCycles.{calls-within, free-open}
use Rattle.build_scheduler.proofs.HistoryFacts.{one_state}
use Rattle.build_scheduler.proofs.Waiting.{begun-there}

module _ {W P I A : Type 0} (seen : W → Seen P I A) (w : World P I A) {history : History}
    {origins : List Origin} {slots : List (Slot W)} {making : List (Option RunId)}
    {table : TableRuns} {end : Option End} where
  -- there is a body or none for each slot
  pub bodies-there : ∥ Shown seen w history origins slots making table end ∥₁ →
      length slots ≤ length making
  bodies-there shown = ∥∥₁_elim shown (λ p q. le_prop p q) (λ x.
      let a : length slots ≡ length x.state.requests =
      Paired-length (ShowsSlot w x.state (length history.events) seen) slots x.state.requests x.each
      in
      let b : length making ≡ length x.state.requests =
      ap length x.bodies ∙ length-map x.state.requests making_of in omega arith)

module _ {W P I A : Type 0} (seen : W → Seen P I A) (w : World P I A) {history : History}
    {origins : List Origin} {slots : List (Slot W)} {making : List (Option RunId)}
    {table : TableRuns} {end : Option End} {ready_ones : Numbered} {waiting_ones : List Numbered}
    (shown : ∥ Shown seen w history origins slots making table end ∥₁)
    (indexed : ∥ Indexed slots ready_ones waiting_ones ∥₁) where
  pub calls-there : (by : ℕ) (calls : Calls W) → at slots by ≡ Some (Calling calls) →
      calls.first + length calls.results.items ≤ length slots
  calls-there by calls e =
      ∥∥₁_elim shown (λ p q. le_prop p q) (λ x. ∥∥₁_elim indexed (λ p q. le_prop p q) (λ y.
      calls-within seen w x y by calls e))

  pub free-closes : (id : ℕ) (run : RunId) (by : ℕ) → request_of table.begun run ≡ Some by →
      found table.finished run ≡ None → (HasParent (at origins id) (Some by) → ⊥) →
      NeedsNothing slots making (at slots by) → (runs : List RunId) →
      ∥ ClosesCycle w history.events id run runs ∥₁ → ⊥
  free-closes id run by b f other free runs c =
      ∥∥₁_elim shown (λ p q. absurd p) (λ x. ∥∥₁_elim indexed (λ p q. absurd p) (λ y.
      ∥∥₁_elim c (λ p q. absurd p) (λ c.
      let one : c.state ≡ x.state =
      one_state w history.events c.state x.state c.history x.history in
      free-open seen w x y id c.node c.request (walking (wants c.site run c.body c.go))
      (subst (λ (s : State P I A). at s.requests id ≡ Some c.request) one c.there) c.wants_so
      run c.body c.go by b f (λ e. other (called e)) free c.between
      (subst
      (λ (s : State P I A). IsChain (waiting w s id c.request run c.body c.go) run c.between
      run) one c.closes))))
    where
      called : caller_at origins id ≡ Some by → HasParent (at origins id) (Some by)
      called e = go (at origins id) refl e
        where
          go : (o : Option Origin) → at origins id ≡ o → and_then o (λ o. o.parent) ≡ Some by →
              HasParent o (Some by)
          go None h e = absurd (cc)
          go (Some o) h e = e

  -- the request that has begun a run has a slot
  pub begun-slot : (run : RunId) (by : ℕ) → request_of table.begun run ≡ Some by →
      found table.finished run ≡ None → by < length slots
  begun-slot run by b f = ∥∥₁_elim indexed (λ p q. le_prop p q) (λ y.
      let l : by < length waiting_ones = begun-there seen w run by shown indexed b f in
      let d : length waiting_ones ≡ length slots = y.lists in omega arith)

-- a request that calls nothing needs nothing
pub needs-other : {W : Type 0} (slots : List (Slot W)) (making : List (Option RunId))
    (slot : Slot W) → ((calls : Calls W) → slot ≡ Calling calls → ⊥) →
    NeedsNothing slots making (Some slot)
needs-other slots making (Ready walk answer) h = tt
needs-other slots making (Assigned node) h = tt
needs-other slots making (Waiting walk by) h = tt
needs-other slots making (Calling calls) h = absurd (h calls refl)
needs-other slots making Done h = tt

-- a request has one caller
pub one-caller : (o : Option Origin) (p q : Option ℕ) → HasParent o p → HasParent o q → p ≡ q
one-caller None p q h g = absurd h
one-caller (Some origin) p q h g = sym h ∙ g
